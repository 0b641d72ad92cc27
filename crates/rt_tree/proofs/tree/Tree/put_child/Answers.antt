use Rattle.std.proofs.Common.{[], ◌∷◌, subst, sym, ap, ◌∙◌, arith}
use Rattle.rt_tree.specs.Trees.{is_null, put, IsAllowed}
use Rattle.rt_tree.specs.laws.Allowed.{may_stand}
use Rattle.rt_tree.specs.laws.PathTree.{null_of_is_null}
use Rattle.rt_tree.specs.laws.Children.{child_of-children_of}
use Rattle.rt_tree.proofs.Nodes.{allowed-node}
use Rattle.rt_tree.proofs.Readings.{one_key}
use Rattle.rt_tree.proofs.tree.Tree.put_child.Goals as goal

pub replace_child-requires-clause-fits : goal.replace_child-requires-clause-fits
replace_child-requires-clause-fits c =
    may_stand (c.args.key.now ∷ []) c.args.tree (one_key c.args.key.now c.text-text.ensures.key) (subst IsAllowed c.tree.view_is (allowed-node c.tree.inside.node c.tree.invariant)) (omega (arith, c.requires))

pub replace_child-requires-clause-left : goal.replace_child-requires-clause-left
replace_child-requires-clause-left c =
    ap (λ p. is_null (put c.args.self.now p c.args.tree)) (sym c.from_ref-place.ensures.value) ∙ sym c.is_emptied.ensures ∙ c.if-is_emptied.false

-- nothing is left
pub returns-then-is_emptied-clause-ok : goal.returns-then-is_emptied-clause-ok
returns-then-is_emptied-clause-ok c =
    c.null.ensures ∙ sym (null_of_is_null _ (ap (λ p. is_null (put c.args.self.now p c.args.tree)) (sym c.from_ref-place.ensures.value) ∙ sym c.is_emptied.ensures ∙ c.if-is_emptied.true))

pub returns-then-is_emptied-clause-old : goal.returns-then-is_emptied-clause-old
returns-then-is_emptied-clause-old c =
    c.in_ok-old.ensures ∙ c.child_at.ensures ∙ sym (child_of-children_of c.args.self.now c.args.key.now)
