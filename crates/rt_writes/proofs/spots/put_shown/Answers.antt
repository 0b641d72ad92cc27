use Rattle.std.proofs.Common.{◌≤◌, ◌∷◌, [], arith, sym, ap, ◌∙◌}
use Rattle.rt_tree.specs.PathTree.{levels, of_leaf, put}
use Rattle.rt_writes.proofs.LayLaws.{one_level}
use Rattle.rt_writes.proofs.ShownLaws.{marked_full, marked_null}
use Rattle.rt_writes.proofs.spots.put_shown.Goals as goal
use Rattle.rt_writes.proofs.spots.put_shown.Goals.{then-is_null+in_ok-set_child, else-is_null}

pub set_child-requires : goal.set_child-requires
set_child-requires c = let flat : levels c.leaf.result ≤ 1 = one_level c.leaf.result _ c.leaf.ensures in omega (arith, flat)

pub returns : goal.returns
returns c = λ p.
    let key = c.args.key.now in
    c.in_ok-set_child-2.ensures ∙ ap (put c.if-is_null.done (key ∷ [])) c.in_ok-copy.ensures
    ∙ elim c.if-is_null.branch [
      | then-is_null+in_ok-set_child w ↦
          ap (λ t. put t (key ∷ []) c.args.shown.now) (w.done-is ∙ w.in_ok-set_child.ensures ∙ ap (put c.args.tree (key ∷ [])) (w.leaf.ensures ∙ ap of_leaf w.truth.ensures))
          ∙ marked_null p key c.args.tree c.args.shown.now (sym c.is_null.ensures ∙ w.if-is_null.true)
      | else-is_null w ↦
          ap (λ t. put t (key ∷ []) c.args.shown.now) w.done-is ∙ marked_full p key c.args.tree c.args.shown.now (sym c.is_null.ensures ∙ w.if-is_null.false)
    ]
