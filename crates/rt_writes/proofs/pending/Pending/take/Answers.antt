use Rattle.std.proofs.Common.{Some, map, ap, sym, ◌∙◌, subst}
use Rattle.rt_writes.specs.Writes.{entries_of, without}
use Rattle.rt_writes.specs.inside.ByNumber.{write_of, writes_of}
use Rattle.rt_writes.specs.inside.Spots.{IsPending}
use Rattle.rt_writes.proofs.NumberLaws.{rising_of}
use Rattle.rt_writes.proofs.ByNumberLaws.{entries_in, found_at, found_none, left_in, none_left, pending_without}
use Rattle.rt_writes.proofs.pending.Pending.take.Goals as goal

pub returns-in_default-clause-taken : goal.returns-in_default-clause-taken
returns-in_default-clause-taken c =
    c.in_default.ensures.value ∙ entries_in c.self.inside.writes.entries c.args.id
    ∙ ap (entries_of c.args.id) c.self.view_is

pub returns-in_default-clause-rest : goal.returns-in_default-clause-rest
returns-in_default-clause-rest c =
    ap (λ es. map write_of es) c.in_default.ensures.unchanged
    ∙ none_left (writes_of c.self.inside.writes) c.args.id (found_none c.self.inside.writes.entries c.args.id c.in_default.ensures.value)
    ∙ ap (without c.args.id) c.self.view_is

pub returns-clause-taken : goal.returns-clause-taken
returns-clause-taken c =
    ap Some c.into_vec.ensures ∙ c.in-Some.ensures.value
    ∙ entries_in c.self.inside.writes.entries c.args.id ∙ ap (entries_of c.args.id) c.self.view_is

pub returns-clause-rest : goal.returns-clause-rest
returns-clause-rest c =
    ap (λ es. map write_of es) c.in-Some.ensures.entries
    ∙ left_in c.self.inside.writes.entries c.args.id (rising_of (writes_of c.self.inside.writes) c.self.invariant.kept.rises)
    ∙ ap (without c.args.id) c.self.view_is

pub invariant_of-self-2 : goal.invariant_of-self-2
invariant_of-self-2 c =
    let ws = writes_of c.self.inside.writes in
    subst (λ vs. IsPending vs c.forget_all.new.self)
    (sym (ap (λ es. map write_of es) c.in-Some.ensures.entries ∙ left_in c.self.inside.writes.entries c.args.id (rising_of ws c.self.invariant.kept.rises)))
    (pending_without ws c.args.id c.as_slice.result.now c.self.inside.merged c.forget_all.new.self c.self.invariant
    (found_at c.self.inside.writes.entries c.args.id c.as_slice.result.now (ap Some c.as_slice.ensures ∙ c.in-Some.ensures.value))
    c.forget_all.ensures.forgets c.forget_all.ensures.trees)
