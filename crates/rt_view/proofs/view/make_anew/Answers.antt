use Rattle.std.proofs.Common.{◌≡◌, ◌∙◌, rules, Some}
use Rattle.rt_view.specs.Changes.{changes}
use Rattle.rt_view.proofs.view.make_anew.Goals as goal

pub returns-clause-changes : goal.returns-clause-changes
returns-clause-changes c =
    let index : c.index.result.now ≡ c.args.query.now.index = search rules in
    c.in_ok-changes.ensures.exact ∙ (λ i. changes (index i) (Some (c.in_ok-old.ensures i)) (c.in_ok-shown.ensures i))
