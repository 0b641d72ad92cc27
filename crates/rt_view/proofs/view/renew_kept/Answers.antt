use Rattle.std.proofs.Common.{◌≡◌, ap, subst, ◌∙◌, Some, rules}
use Rattle.rt_tree.specs.PathTree.{PathTree}
use Rattle.rt_query.specs.Select.{select}
use Rattle.rt_view.specs.Changes.{changes}
use Rattle.rt_view.specs.Views.{with_named}
use Rattle.rt_view.specs.inside.ViewIndex.{IsKept}
use Rattle.rt_view.proofs.DifferLaws.{if_both}
use Rattle.rt_view.proofs.view.renew_kept.Goals as goal

pub returns-clause-kept : goal.returns-clause-kept
returns-clause-kept c =
    let q = c.args.query.now in
    let turned : with_named c.args.known.now c.in-Some.named.items ≡ c.args.new.now = search rules in
    let named = ap (with_named c.args.known.now) c.as_slice.ensures.value in
    if_both c.touch_kept.result _ _
    (λ list put kept. subst (λ (t : PathTree). IsKept q t c.touch_kept.new.kept) (put ∙ named ∙ turned) kept)
    c.touch_kept.ensures.put c.touch_kept.ensures.kept

pub returns-clause-changes : goal.returns-clause-changes
returns-clause-changes c =
    let q = c.args.query.now in
    let old : PathTree = c.args.known.now in
    let turned : with_named old c.in-Some.named.items ≡ c.args.new.now = search rules in
    let named = ap (with_named old) c.as_slice.ensures.value in
    if_both c.touch_kept.result _ _
    (λ list put told. told ∙ ap (λ (t : PathTree). changes q.index (Some (select q old)) (select q t)) (put ∙ named ∙ turned))
    c.touch_kept.ensures.put c.touch_kept.ensures.changes
