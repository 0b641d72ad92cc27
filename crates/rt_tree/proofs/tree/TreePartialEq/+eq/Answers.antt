use Rattle.std.proofs.Common.{sym, ap, ◌∙◌, arith}
use mathlib.Core.List.{not-mem-nil}
use Rattle.rt_tree.specs.Trees.{levels, tree_eq}
use Rattle.rt_tree.proofs.Nodes.{at-Null, at-Leaf, at-Object, kept-Object}
use Rattle.rt_tree.proofs.Equals.{tree_eq-same, tree_eq-leaves, tree_eq-objects, not_same, apart_from_null, apart_from_leaf, apart_from_object, below}
use Rattle.rt_tree.proofs.tree.TreePartialEq.+eq.Goals as goal

pub eq-requires-in-Object-Object : goal.eq-requires-in-Object-Object
eq-requires-in-Object-Object t c κs =
    let left = below _ (kept-Object c.self.invariant c.in-Object-Object.is-0) in
    let right = below _ (kept-Object c.other.invariant c.in-Object-Object.is-1) in (
      (
        (
          omega (arith, c.decreases, ap levels (at-Object c.self.view_is c.in-Object-Object.is-0), left),
          (omega (arith, c.decreases, ap levels (at-Object c.other.view_is c.in-Object-Object.is-1), right), tt),
        ),
        tt,
      ),
      (λ a m. absurd (not-mem-nil m), λ a m. absurd (not-mem-nil m)),
    )

pub returns-in-Null-Null : goal.returns-in-Null-Null
returns-in-Null-Null t c =
    tree_eq-same _ ∙ (λ i. tree_eq (sym (at-Null c.self.view_is c.in-Null-Null.is-0) i) (sym (at-Null c.other.view_is c.in-Null-Null.is-1) i))

pub returns-in-Leaf-Leaf : goal.returns-in-Leaf-Leaf
returns-in-Leaf-Leaf t c =
    c.eq.ensures ∙ tree_eq-leaves _ _ ∙ (λ i. tree_eq (sym (at-Leaf c.self.view_is c.in-Leaf-Leaf.is-0) i) (sym (at-Leaf c.other.view_is c.in-Leaf-Leaf.is-1) i))

pub returns-in-Object-Object : goal.returns-in-Object-Object
returns-in-Object-Object t c =
    c.eq-in-Object-Object.ensures
    ∙ tree_eq-objects _ _ (kept-Object c.self.invariant c.in-Object-Object.is-0) (kept-Object c.other.invariant c.in-Object-Object.is-1)
    ∙ (λ i. tree_eq (sym (at-Object c.self.view_is c.in-Object-Object.is-0) i) (sym (at-Object c.other.view_is c.in-Object-Object.is-1) i))

pub returns-in_default : goal.returns-in_default
returns-in_default t c = not_same (at-Null c.self.view_is c.in_default.is-0) (sym c.other.view_is) (apart_from_null c.other.inside.node c.other.invariant c.in_default.not-Null-1)

pub returns-in_default-2 : goal.returns-in_default-2
returns-in_default-2 t c = not_same (at-Leaf c.self.view_is c.in_default.is-0) (sym c.other.view_is) (apart_from_leaf _ c.other.inside.node c.other.invariant c.in_default.not-Leaf-1)

pub returns-in_default-3 : goal.returns-in_default-3
returns-in_default-3 t c = not_same (at-Object c.self.view_is c.in_default.is-0) (sym c.other.view_is) (apart_from_object _ (kept-Object c.self.invariant c.in_default.is-0) c.other.inside.node c.in_default.not-Object-1)
