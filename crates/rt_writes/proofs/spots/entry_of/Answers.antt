use Rattle.std.proofs.Common.{◌≡◌, length, nat_lt, Some, None, is_some, get_or, sym, ap, ◌∙◌}
use Rattle.std.specs.Prelude.{IfSome}
use Rattle.std.specs.List.{slice_get}
use Rattle.std.specs.Option.{option_and_then, option_copied}
use Rattle.rt_writes.proofs.LayLaws.{slice_got}
use Rattle.rt_writes.proofs.ByNumberLaws.{found_at, found_none}
use Rattle.rt_writes.proofs.spots.entry_of.Goals as goal

pub returns-in-Some : goal.returns-in-Some
returns-in-Some c =
    let es = c.as_slice.result.now in
    let found = found_at c.args.writes.now.entries c.args.id c.in-Some.entries.now c.in-Some.ensures.value in
    elim c.get-in-Some.result as (λ r. is_some r ≡ nat_lt c.args.place (length es) → IfSome r (λ x. x.now ≡ get_or es c.args.place x.now) → option_copied r ≡ slice_get es c.args.place) [
      | None ↦ λ e h. slice_got es c.args.place None e h
      | Some x ↦ λ e h. slice_got es c.args.place (Some x.now) e h
    ] c.get-in-Some.ensures.lookup.0 c.get-in-Some.ensures.lookup.1
    ∙ ap (λ es. slice_get es c.args.place) c.as_slice.ensures
    ∙ sym (ap (option_and_then (λ w. slice_get w.entries c.args.place)) found)

pub returns-in-None : goal.returns-in-None
returns-in-None c =
    sym (ap (option_and_then (λ w. slice_get w.entries c.args.place))
    (found_none c.args.writes.now.entries c.args.id c.in-None.ensures.value))
