use Rattle.std.proofs.Common.{◌∷◌, ap, sym, ◌∙◌, subst, cond, Some, drop, suc, add-one}
use Rattle.std.proofs.Math.Seq.{drop-cons}
use Rattle.rt_tree.specs.PathTree.{key_eq, child_of}
use Rattle.rt_query.proofs.ObjectLaws.{IsMaking, making_more}
use Rattle.rt_query.proofs.row.children_of.Goals as goal

pub loop-row-preserved : goal.loop-row-preserved
loop-row-preserved c =
    let rows = c.args.rows.now in
    let rest = drop (suc c.loop-row.row-index) rows in
    let old = c.loop-row.children.entries in
    let here = subst (λ left. IsMaking rows left old) (drop-cons rows c.loop-row.row-index c.row-item.result c.loop-row-test.true ∙ ap (λ r. r ∷ rest) (sym c.row-item.is)) c.loop-row.invariant in
    let added = making_more rows rest c.row-item.result old c.add.new.children.entries here
    (λ k. c.in_ok-add.ensures k ∙ (λ i. cond (key_eq (c.in_ok-key.ensures i) k) (Some (c.in_ok-child.ensures i)) (child_of old k))) in
    rw add-one added
