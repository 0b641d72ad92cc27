use Rattle.std.proofs.Common.{◌≡◌, ◌≤◌, ◌<◌, ◌-◌, ◌+◌, ◌∷◌, [], arith, ap, drop, length, List, sym, subst, ◌∙◌}
use Rattle.std.proofs.lemmas.List.{drop_all, drop_more}
use Rattle.std.proofs.lemmas.List.Elements.{All-get_or}
use Rattle.rt_tree.specs.PathTree.{PathTree, levels, object, put}
use Rattle.rt_query.specs.declared.row.Row.{Row}
use Rattle.rt_query.specs.Select.{as_children}
use Rattle.rt_view.proofs.position.object_of.Goals as goal

pub put_child-requires : goal.put_child-requires
put_child-requires c =
    let rows = c.args.rows.now in
    let within : c.loop-left.left - 1 < length rows = omega (arith, c.loop-left.invariant.0, c.loop-left-test.true) in
    subst (λ (r : Row). levels r.value ≤ 32) (sym c.index-rows-at.is) (All-get_or (λ (r : Row). levels r.value ≤ 32) rows (c.loop-left.left - 1) c.index-rows-at.result within c.requires)

pub loop-left-init : goal.loop-left-init
loop-left-init c =
    let rows = c.args.rows.now in
    (omega arith, c.null-tree.ensures ∙ sym (ap (λ (rs : List Row). object (as_children rs)) (drop_all (length rows) rows (omega arith))))

pub loop-left-preserved : goal.loop-left-preserved
loop-left-preserved c =
    let rows = c.args.rows.now in
    let at = c.loop-left.left - 1 in
    let row = c.index-rows-at.result in
    let next : at + 1 ≡ c.loop-left.left = omega (arith, c.loop-left-test.true) in
    let within : at < length rows = omega (arith, c.loop-left.invariant.0, c.loop-left-test.true) in
    let list : drop at rows ≡ row ∷ drop c.loop-left.left rows = drop_more rows at row within ∙ (λ i. sym c.index-rows-at.is i ∷ drop (next i) rows) in (
      omega (arith, c.loop-left.invariant.0),
      c.in_ok-put_child.ensures.put ∙ ap (λ (t : PathTree). put t (row.key ∷ []) row.value) c.loop-left.invariant.1 ∙ sym (ap (λ (rs : List Row). object (as_children rs)) list),
    )
