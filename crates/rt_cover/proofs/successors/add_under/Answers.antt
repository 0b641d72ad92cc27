use Rattle.std.proofs.Common.{◌≡◌, ◌||◌, ◌&&◌, List, ap, ◌∙◌}
use Rattle.std.specs.List.{list_any}
use Rattle.std.proofs.lemmas.List.Folds.{list_any-append}
use Rattle.rt_tree.specs.Assignments.{is_at_or_above}
use Rattle.rt_cover.specs.Cover.{Registered, Tagged}
use Rattle.rt_cover.proofs.HeldLaws.{under_supplied}
use Rattle.rt_cover.proofs.successors.add_under.Goals as goal

pub returns : goal.returns
returns c = λ t.
    let k : Tagged = c.args.listen.now in
    let ls : List Registered = c.args.listeners.now in
    let same : c.keys.result.now ≡ (k.form).path = c.keys.ensures.keys ∙ c.path.ensures ∙ (λ i. (c.form.ensures i).path) in
    ap (list_any t) c.in_ok-append.ensures.items
    ∙ list_any-append t c.args.numbers.now.items c.in_ok-under.under.items
    ∙ ap (λ b. list_any t c.args.numbers.now.items || b)
    (c.in_ok-under.ensures t
    ∙ (λ i. list_any (λ (l : Registered). is_at_or_above (same i) (l.1).path && t l.0) ls)
    ∙ under_supplied ls t k c.requires.plain)
