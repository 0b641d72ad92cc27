use Rattle.std.proofs.Common.{◌≡◌, ◌≤◌, ◌&&◌, ◌||◌, not, ◌++◌, ◌∷◌, [], IfOk, sym, ap, subst, ◌∙◌, arith}
use Rattle.rt_tree.specs.PathTree.{child, is_null, levels, levels-null}
use Rattle.rt_query.specs.Queries.{is_filtered}
use Rattle.rt_writes.specs.Writes.{overlay, sets_child_whole}
use Rattle.rt_cache.specs.Brought.{base}
use Rattle.rt_world.specs.Views.{base_tree, is_base_whole}
use Rattle.rt_parts.proofs.SeenLaws.{bare_child, few_levels, hidden_child, shown_child, tree_child, whole_child}
use Rattle.rt_parts.proofs.views.seen_child.Goals as goal

pub child_tree-requires : goal.child_tree-requires
child_tree-requires c = few_levels c.in_ok-base.base c.args.query.now.path c.args.key.now c.in_ok-base.ensures.shallow

pub returns-then-is_empty-clause-child : goal.returns-then-is_empty-clause-child
returns-then-is_empty-clause-child c =
    let q = c.args.query.now in
    let k = c.args.key.now in
    let o = base c.args.brought.now q in
    let none : c.args.pending.now ≡ [] = c.is_empty.ensures.0 c.if-is_empty.true in
    c.child_tree.ensures.tree ∙ ap base_tree c.in_ok-base.ensures.found ∙ tree_child o k ∙ bare_child c.overlay_law.ensures.child q o c.args.pending.now k none

pub returns-then-is_hidden-clause-child : goal.returns-then-is_hidden-clause-child
returns-then-is_hidden-clause-child c =
    let q = c.args.query.now in
    let k = c.args.key.now in
    let ws = c.args.pending.now in
    let o = base c.args.brought.now q in
    let whole : c.is_whole-whole.result ≡ is_base_whole o = c.is_whole-whole.ensures ∙ ap is_base_whole c.in_ok-base.ensures.found ∙ whole_child o k in
    let tree : c.tree_of-tree.result ≡ child (base_tree o) k = c.tree_of-tree.ensures.tree ∙ ap base_tree c.in_ok-base.ensures.found ∙ tree_child o k in
    c.null.ensures ∙ hidden_child c.overlay_law.ensures.child q o ws k
    ((λ i. (is_filtered q && not (sym whole i)) && not (not (is_null (sym tree i)) || sets_child_whole ws q.path k)) ∙ sym c.is_hidden.ensures ∙ c.if-is_hidden.true)

pub returns-clause-child : goal.returns-clause-child
returns-clause-child c =
    let q = c.args.query.now in
    let k = c.args.key.now in
    let ws = c.args.pending.now in
    let o = base c.args.brought.now q in
    let whole : c.is_whole-whole.result ≡ is_base_whole o = c.is_whole-whole.ensures ∙ ap is_base_whole c.in_ok-base.ensures.found ∙ whole_child o k in
    let tree : c.tree_of-tree.result ≡ child (base_tree o) k = c.tree_of-tree.ensures.tree ∙ ap base_tree c.in_ok-base.ensures.found ∙ tree_child o k in
    subst (λ t. IfOk c.overlay.result (λ after. after ≡ t)) ((λ i. overlay (c.in_ok-path.ensures i) (tree i) ws) ∙ (λ i. overlay (c.path.ensures i ++ k ∷ []) (child (base_tree o) k) ws) ∙ shown_child c.overlay_law.ensures.child q o ws k
    ((λ i. (is_filtered q && not (sym whole i)) && not (not (is_null (sym tree i)) || sets_child_whole ws q.path k)) ∙ sym c.is_hidden.ensures ∙ c.if-is_hidden.false)) c.overlay.ensures.overlay

pub returns-then-is_hidden-clause-levels : goal.returns-then-is_hidden-clause-levels
returns-then-is_hidden-clause-levels c = subst (λ t. levels t ≤ 32) (sym c.null.ensures) (omega (arith, levels-null))
