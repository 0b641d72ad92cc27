-- When two trees are equal, by their nodes.
use Rattle.std.proofs.Common.{◌≡◌, ◌<◌, ◌+◌, ◌*◌, Bool, true, false, ◌&&◌, nat_eq, List, [], ◌∷◌, refl, sym, ap, ◌∙◌, arith}
use lib.Pointwise.{pointwise_decides}
use Rattle.std.specs.Bool.{one_answer}
use Rattle.std.specs.Cmp.Lexicographic.{pointwise, bytes_decides}
use Rattle.std.specs.Map.{values_of}
use denote.Param.Weighed.{most}
use Rattle.rt_tree.specs.Leaf.{LeafValue}
use Rattle.rt_tree.specs.Leaves.{Key}
use Rattle.rt_tree.specs.Trees.{PathTree, null, is_null, of_leaf, leaf_at, object, levels, children_of, is_object, Tells, leaf_eq, tree_eq}
use Rattle.rt_tree.specs.laws.PathTree.{is_null-null, leaf_at-of_leaf, child_levels}
use Rattle.rt_tree.specs.laws.TreeEq.{leaf_eq_tells, tree_eq_tells, both_first, both_second, both}
use Rattle.rt_tree.specs.declared.tree.Node.{Node}
use Rattle.rt_tree.specs.declared.tree.Node.TheVariants.{Null, Leaf, Object}
use Rattle.rt_tree.specs.declared.tree.Tree.TheDeep.{size-Tree}
use Rattle.rt_tree.specs.inside.TreeView.{tree_of, IsNode, IsObject}
use Rattle.rt_tree.proofs.Nodes.{Children}
use Rattle.rt_tree.specs.inside.TreeFalls.{most_le}
use Rattle.rt_tree.proofs.Trees.{is_null-of_leaf, is_object-null, is_object-of_leaf, is_object-object, children_of-object}

-- one key with its child
abbrev pub child_eq : Key × PathTree → Key × PathTree → Bool
child_eq d e = pointwise nat_eq d.0 e.0 && tree_eq d.1 e.1

child_eq_tells : Tells child_eq
child_eq_tells d e = (
  λ h i. ((bytes_decides d.0 e.0).0 (both_first _ _ h) i, (tree_eq_tells d.1 e.1).0 (both_second (pointwise nat_eq d.0 e.0) _ h) i),
  λ h. both _ _ ((bytes_decides d.0 e.0).1 (ap (λ (p : Key × PathTree). p.0) h)) ((tree_eq_tells d.1 e.1).1 (ap (λ (p : Key × PathTree). p.1) h)),
)

unequal : (t u : PathTree) → (t ≡ u → ⊥) → false ≡ tree_eq t u
unequal t u apart = one_answer false (tree_eq t u) ((λ e. cc), (λ e. absurd (apart e))) (tree_eq_tells t u)

pub tree_eq-same : (t : PathTree) → true ≡ tree_eq t t
tree_eq-same t = sym ((tree_eq_tells t t).1 refl)

the_leaf : (l m : LeafValue) → of_leaf l ≡ of_leaf m → l ≡ m
the_leaf l m e = let same = sym (leaf_at-of_leaf l []) ∙ ap (λ t. leaf_at t []) e ∙ leaf_at-of_leaf m [] in cc

pub tree_eq-leaves : (l m : LeafValue) → leaf_eq l m ≡ tree_eq (of_leaf l) (of_leaf m)
tree_eq-leaves l m = one_answer (leaf_eq l m) (tree_eq (of_leaf l) (of_leaf m)) (leaf_eq_tells l m) ((λ h. the_leaf l m ((tree_eq_tells _ _).0 h)), (λ h. (tree_eq_tells _ _).1 (ap of_leaf h)))

pub tree_eq-objects : (es fs : List (Key × PathTree)) → IsObject es → IsObject fs → pointwise child_eq es fs ≡ tree_eq (object es) (object fs)
tree_eq-objects es fs p q = one_answer (pointwise child_eq es fs) (tree_eq (object es) (object fs))
    (pointwise_decides child_eq_tells es fs)
    ((λ h. children_of-object es p ∙ ap children_of ((tree_eq_tells _ _).0 h) ∙ sym (children_of-object fs q)), (λ h. (tree_eq_tells _ _).1 (ap object h)))

null-of_leaf : (l : LeafValue) → null ≡ of_leaf l → ⊥
null-of_leaf l e = cc (ap is_null e, is_null-null, is_null-of_leaf l)

not_object-object : (t : PathTree) (es : List (Key × PathTree)) → IsObject es → is_object t ≡ false → t ≡ object es → ⊥
not_object-object t es h f e = cc (ap is_object e, f, is_object-object es h)

-- nodes of two kinds are of two trees
pub apart_from_null : (n : Node) → IsNode n → (n ≡ Null → ⊥) → null ≡ tree_of n → ⊥
apart_from_null Null kept other e = other refl
apart_from_null (Leaf l) kept other e = null-of_leaf l e
apart_from_null (Object m) kept other e = not_object-object null _ kept is_object-null e

pub apart_from_leaf : (l : LeafValue) (n : Node) → IsNode n → ((m : LeafValue) → n ≡ Leaf m → ⊥) → of_leaf l ≡ tree_of n → ⊥
apart_from_leaf l Null kept other e = null-of_leaf l (sym e)
apart_from_leaf l (Leaf m) kept other e = other m refl
apart_from_leaf l (Object m) kept other e = not_object-object (of_leaf l) _ kept (is_object-of_leaf l) e

pub apart_from_object : (es : List (Key × PathTree)) → IsObject es → (n : Node) → ((m : Children) → n ≡ Object m → ⊥) → object es ≡ tree_of n → ⊥
apart_from_object es h Null other e = not_object-object null es h is_object-null (sym e)
apart_from_object es h (Leaf m) other e = not_object-object (of_leaf m) es h (is_object-of_leaf m) (sym e)
apart_from_object es h (Object m) other e = other m refl

pub not_same : {t u a b : PathTree} → t ≡ a → u ≡ b → (a ≡ b → ⊥) → false ≡ tree_eq t u
not_same {t} {u} e f apart = unequal t u (λ g. apart (sym e ∙ g ∙ f))

-- the children are smaller
sizes : (ts : List PathTree) → most size-Tree ts ≡ 2 * most (λ t. levels t + 1) ts
sizes [] = refl
sizes (t ∷ ts) = omega (arith, sizes ts)

pub below : (es : List (Key × PathTree)) → IsObject es → most size-Tree (values_of es) < 2 * levels (object es) + 2
below es h = omega (arith, sizes (values_of es), most_le es (levels (object es)) h.ordered (λ k t is. child_levels es k t is (h.full k t is)))
