-- A tree as a value: a finite map from paths to leaves in which no path is a proper prefix of another.
--     leaf_at T p                 the leaf at p
--     null, of_leaf l, is_null T  the tree with no leaf, that of one leaf, and whether T is null
--     sub T p                     the leaves at and under p, with p taken off
--     put T p U                   the leaves at and under p go and those of U come at p; a leaf at a
--                                 proper prefix of p goes only where U isn't null
--     object es, child T k        the tree of children, each at its key, and the part under one key
--     levels T                    one more than the length of the longest path
--     leaf_of T                   the leaf that T is, if it is one
--     with_children               only the children of some keys
--     children_alone T            all but a leaf at the root
--     children_of T               the parts under one key that are not null, in order
--     tree_eq                     whether two trees are equal
--     MayStandAt, IsAllowed       what the database may hold, and where
-- Proofs know these words by their laws (`laws/`). Under `unfolding` they compute, so that worked
-- rows can be checked: what a tree keeps beside its leaves is a test that computes, and so trees
-- whose leaves compute to the same list are the same.
use Rattle.std.specs.Prelude.{◌≡◌, ℕ, Bool, true, false, cond, not, ◌&&◌, List, [], ◌∷◌, ◌++◌}
use Rattle.std.specs.Prelude.{Option, Some, None, is_some}
use lib.Dec.{T}
use Rattle.std.specs.Bool.{beq}
use Rattle.std.specs.Ordering.{int_eq}
use Rattle.std.specs.Cmp.Lexicographic.{pointwise}
use Rattle.std.specs.FinMap as map_of
use Rattle.std.specs.BTreeMap.{is_at}
use Rattle.std.specs.Map.{lookup}
use Rattle.rt_tree.specs.Leaf.{LeafValue, truth, number, text, IsInRange}
use Rattle.rt_tree.specs.Path.{IsPath}
use Rattle.rt_tree.specs.Leaves.{Key, Path, key_cmp, key_eq, path_eq, Leaves, get, is_empty}
use Rattle.rt_tree.specs.Leaves.{is_fine, sub_leaves, put_leaves, within_leaves, levels_of}
use Rattle.rt_tree.specs.inside.Fine.{sub_fine, put_fine, within_fine}

-- the leaves in the order of their paths, none of which is a prefix of another
pub record PathTree : Type 0 where
  pub leaves : Leaves
  pub fine : T (is_fine leaves)

-- the leaf at p
unfoldable pub leaf_at : PathTree → Path → Option LeafValue
leaf_at t p = get t.leaves p

-- the leaf that the tree is, if it is one
abbrev pub leaf_of : PathTree → Option LeafValue
leaf_of t = leaf_at t []

-- ---- the empty tree, a leaf
unfoldable pub null : PathTree
null = record { leaves = []; fine = tt }

-- whether there is no leaf
unfoldable pub is_null : PathTree → Bool
is_null t = is_empty t.leaves

-- the tree of one leaf
unfoldable pub of_leaf : LeafValue → PathTree
of_leaf l = record { leaves = ([], l) ∷ []; fine = tt }

-- ---- parts and puts
-- the leaves at and under p, with p taken off
unfoldable pub sub : PathTree → Path → PathTree
sub t p = record { leaves = sub_leaves t.leaves p; fine = sub_fine t.leaves t.fine p }

-- the child of that key
abbrev pub child : PathTree → Key → PathTree
child t k = sub t (k ∷ [])

-- the leaves at and under p go and those of u come at p; a leaf at a proper prefix of p goes only
-- where u isn't null
unfoldable pub put : PathTree → Path → PathTree → PathTree
put t p u =
    record {
      leaves = put_leaves t.leaves p u.leaves (is_empty u.leaves);
      fine = put_fine t.leaves p u.leaves t.fine u.fine;
    }

-- ---- children
-- the tree whose children are es: where a key stands twice, the first child counts
abbrev pub object : List (Key × PathTree) → PathTree
object [] = null
object (e ∷ es) = put (object es) (e.0 ∷ []) e.1

-- the child at k
abbrev pub child_of : List (Key × PathTree) → Key → Option PathTree
child_of es k = lookup (is_at (key_cmp k)) es

-- a tree, unless it is null
abbrev pub non_null : PathTree → Option PathTree
non_null t = cond (is_null t) None (Some t)

-- no child is null
abbrev pub AllFull : List (Key × PathTree) → Type 0
AllFull es = (k : Key) (t : PathTree) → child_of es k ≡ Some t → is_null t ≡ false

-- whether a tree has children
abbrev pub is_object : PathTree → Bool
is_object t = not (is_null t) && not (is_some (leaf_at t []))

abbrev pub head_entry : PathTree → Path → List (Key × PathTree) → List (Key × PathTree)
head_entry t [] es = es
head_entry t (k ∷ q) es = (k, sub t (k ∷ [])) ∷ es

abbrev pub head_entries : PathTree → List (Path × LeafValue) → List (Key × PathTree)
head_entries t [] = []
head_entries t (e ∷ es) = head_entry t e.0 (head_entries t es)

-- the entries in order, of each key the first
abbrev pub in_key_order : List (Key × PathTree) → List (Key × PathTree)
in_key_order [] = []
in_key_order (e ∷ es) = map_of.put key_cmp e.0 e.1 (in_key_order es)

-- each first key, in order, with the part of the tree at it
unfoldable pub children_of : PathTree → List (Key × PathTree)
children_of t = in_key_order (head_entries t t.leaves)

-- the tree with only the children of these keys
unfoldable pub with_children : (Key → Bool) → PathTree → PathTree
with_children test t =
    record { leaves = within_leaves test t.leaves; fine = within_fine test t.leaves t.fine }

-- the tree without a leaf of its own
unfoldable pub children_alone : PathTree → PathTree
children_alone t = cond (is_some (leaf_at t [])) null t

-- ---- how deep a tree is, and where it may stand
-- one more than the length of the longest path, and 0 for the null tree
unfoldable pub levels : PathTree → ℕ
levels t = levels_of t.leaves

-- the tree may stand at p: each of its leaves is then at a path, of at most 32 keys, and is in range
abbrev pub MayStandAt : Path → PathTree → Type 0
MayStandAt p t = (q : Path) (l : LeafValue) → leaf_at t q ≡ Some l → IsPath (p ++ q) × IsInRange l

-- the tree may stand at the root
abbrev pub IsAllowed : PathTree → Type 0
IsAllowed t = MayStandAt [] t

-- ---- equality
-- the test answers true at equal ones, and only there
abbrev pub Tells : {X : Type 0} → (X → X → Bool) → Type 0
Tells {X} E = (x y : X) → (E x y ≡ true → x ≡ y) × (x ≡ y → E x y ≡ true)

-- whether two leaves are equal
abbrev pub leaf_eq : LeafValue → LeafValue → Bool
leaf_eq (truth a) (truth b) = beq a b
leaf_eq (number a) (number b) = int_eq a b
leaf_eq (text a) (text b) = key_eq a b
leaf_eq _ _ = false

abbrev pub entry_eq : Path × LeafValue → Path × LeafValue → Bool
entry_eq d e = path_eq d.0 e.0 && leaf_eq d.1 e.1

-- whether two trees have the same leaves
unfoldable pub tree_eq : PathTree → PathTree → Bool
tree_eq t u = pointwise entry_eq t.leaves u.leaves
