use Rattle.std.proofs.Common.{ap, sym, ◌∙◌, subst, None}
use Rattle.rt_tree.specs.Allowed.{IsAllowed}
use Rattle.rt_tree.specs.PathTree.{object, leaf_of}
use Rattle.rt_tree.specs.Children.{children_of}
use Rattle.rt_query.specs.Rows.{HasDistinctKeys, HasNoNull}
use Rattle.rt_query.specs.Select.{as_children, rows_of}
use Rattle.rt_query.specs.inside.ShownView.{IsShown}
use Rattle.rt_query.specs.laws.Select.{select-distinct}
use Rattle.rt_query.proofs.RowLaws.{full-rows_of, allowed-rows_of, shown_filtered, shown_whole}
use Rattle.rt_query.proofs.query.Query.select.Goals as goal

pub object_of-requires-clause-distinct : goal.object_of-requires-clause-distinct
object_of-requires-clause-distinct c = subst HasDistinctKeys (sym (c.as_slice.ensures.value ∙ c.in_ok-rows.ensures.rows)) (select-distinct c.args.self.now c.args.tree.now)

pub object_of-requires-clause-full : goal.object_of-requires-clause-full
object_of-requires-clause-full c = subst HasNoNull (sym (c.as_slice.ensures.value ∙ c.in_ok-rows.ensures.rows)) (full-rows_of c.args.self.now c.args.tree.now)

pub object_of-requires-clause-allowed : goal.object_of-requires-clause-allowed
object_of-requires-clause-allowed c =
    subst (λ rows. IsAllowed (object (as_children rows))) (sym (c.as_slice.ensures.value ∙ c.in_ok-rows.ensures.rows)) (allowed-rows_of c.args.self.now c.args.tree.now c.in_ok-rows.ensures.allowed)

pub of-requires : goal.of-requires
of-requires c =
    let q = c.args.self.now in
    let t = c.args.tree.now in
    let rows = c.in_ok-rows.ensures.rows in
    let whole = c.in_ok-whole.ensures ∙ ap (λ rs. object (as_children rs)) (c.as_slice.ensures.value ∙ rows) in
    subst (λ u. IsShown None c.in_ok-rows.rows.items u) (sym whole)
    (subst (λ rs. IsShown None rs (object (as_children (rows_of q (children_of t))))) (sym rows) (shown_filtered q t))

pub of-requires-2 : goal.of-requires-2
of-requires-2 c =
    let q = c.args.self.now in
    let t = c.args.tree.now in
    let plain = shown_whole q t (sym c.is_filtered.ensures ∙ c.if-is_filtered.false) in
    subst (λ leaf. IsShown leaf c.in_ok-rows.rows.items c.in_ok-whole-2.whole) (sym c.in_ok-leaf.ensures)
    (subst (λ rs. IsShown (leaf_of t) rs c.in_ok-whole-2.whole) (sym c.in_ok-rows.ensures.rows)
    (subst (λ u. IsShown (leaf_of t) (rows_of q (children_of t)) u) (sym c.in_ok-whole-2.ensures) plain))
