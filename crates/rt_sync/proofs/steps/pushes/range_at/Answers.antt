use Rattle.std.proofs.Common.{◌≡◌, true, false, cond, Some, None, sym, ap, ◌∙◌, rules}
use Rattle.std.specs.Option.{option_and_then, option_map}
use Rattle.rt_query.specs.Queries.{Query, is_filtered}
use Rattle.rt_cover.specs.Cover.{Tagged}
use Rattle.rt_cover.specs.State.{listen_at}
use Rattle.rt_sync.specs.inside.Pushed.{range_of}
use Rattle.rt_sync.proofs.steps.pushes.range_at.Goals as goal

pub returns-in_default : goal.returns-in_default
returns-in_default c =
    let none : option_map (λ (k : Tagged). k.form) (listen_at c.args.cover.now c.args.tag) ≡ None = search rules in
    sym (ap (option_and_then range_of) none)

pub returns-then-is_filtered : goal.returns-then-is_filtered
returns-then-is_filtered c =
    let f : Query = c.in-Some.form.now in
    let some : option_map (λ (k : Tagged). k.form) (listen_at c.args.cover.now c.args.tag) ≡ Some f = search rules in
    let range : is_filtered f ≡ true = search rules in
    sym (ap (option_and_then range_of) some ∙ ap (λ b. cond b (Some f) None) range)

pub returns : goal.returns
returns c =
    let f : Query = c.in-Some.form.now in
    let some : option_map (λ (k : Tagged). k.form) (listen_at c.args.cover.now c.args.tag) ≡ Some f = search rules in
    let plain : is_filtered f ≡ false = search rules in
    sym (ap (option_and_then range_of) some ∙ ap (λ b. cond b (Some f) None) plain)
