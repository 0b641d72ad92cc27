-- The rows of a view are the children of the tree that it is.
use Rattle.std.specs.Prelude.{OnSome}
use Rattle.std.proofs.Common.{◌≡◌, true, false, cond, List, [], ◌∷◌, refl, sym, ap, ◌∙◌, Option, Some, None}
use Rattle.std.specs.Option.{option_and_then}
use Rattle.rt_tree.specs.Leaf.{LeafValue}
use Rattle.rt_tree.specs.PathTree.{Key, PathTree, key_eq, key_eq-symm, leaf_at, leaf_at-sub, leaf_at-object, leaf_at-of_leaf, same_tree, null, is_null, is_null-null, null_of_no_leaf, child, child_of, non_null, object, of_leaf}
use Rattle.rt_tree.specs.Children.{children_of, child_of-children_of}
use Rattle.rt_query.specs.declared.row.Row.{Row}
use Rattle.rt_query.specs.Rows.{HasNoNull, row_at}
use Rattle.rt_query.specs.Select.{as_children, tree_by}
use Rattle.rt_query.specs.inside.ShownView.{IsShown}
use Rattle.rt_query.specs.laws.Select.{row_at-cons}

-- the rows as children have the same values
pub child_of-as_children : (rows : List Row) (k : Key) → child_of (as_children rows) k ≡ row_at rows k
child_of-as_children [] k = refl
child_of-as_children (r ∷ rows) k =
    (λ i. cond (key_eq-symm k r.key i) (Some r.value) (child_of-as_children rows k i)) ∙ sym (row_at-cons r rows k)

-- no row is null
pub row_at-full : (rows : List Row) → HasNoNull rows → (k : Key) (t : PathTree) → row_at rows k ≡ Some t → is_null t ≡ false
row_at-full [] h k t e = cc
row_at-full (r ∷ rows) h k t e =
    elim (key_eq r.key k) as (λ b. cond b (Some r.value) (row_at rows k) ≡ Some t → is_null t ≡ false) [
      | true ↦ λ f. cc (f, h.0)
      | false ↦ λ f. row_at-full rows h.1 k t f
    ] (sym (row_at-cons r rows k) ∙ e)

no_part : (t : PathTree) (k : Key) → child t k ≡ null → non_null (child t k) ≡ None
no_part t k e = ap non_null e ∙ ap (λ b. cond b None (Some null)) is_null-null

-- the part of an object at a key is its child there
pub non_null-child_object : (es : List (Key × PathTree)) (k : Key) → ((t : PathTree) → child_of es k ≡ Some t → is_null t ≡ false) → non_null (child (object es) k) ≡ child_of es k
non_null-child_object es k full =
    elim (child_of es k) as (λ o. child_of es k ≡ o → non_null (child (object es) k) ≡ o) [
      | None ↦ λ e. no_part (object es) k (null_of_no_leaf (child (object es) k) (λ q. leaf_at-sub (object es) (k ∷ []) q ∙ leaf_at-object es k q ∙ ap (option_and_then (λ (u : PathTree). leaf_at u q)) e))
      | Some t ↦ λ e. ap non_null (same_tree (child (object es) k) t (λ q. leaf_at-sub (object es) (k ∷ []) q ∙ leaf_at-object es k q ∙ ap (option_and_then (λ (u : PathTree). leaf_at u q)) e))
          ∙ ap (λ b. cond b None (Some t)) (full t e)
    ] refl

-- the child of the tree that a view is
pub child_of-tree_by : (leaf : Option LeafValue) (rows : List Row) (k : Key) → OnSome leaf (rows ≡ []) → HasNoNull rows → non_null (child (tree_by leaf rows) k) ≡ row_at rows k
child_of-tree_by None rows k alone full =
    non_null-child_object (as_children rows) k (λ t e. row_at-full rows full k t (sym (child_of-as_children rows k) ∙ e)) ∙ child_of-as_children rows k
child_of-tree_by (Some l) rows k alone full =
    no_part (of_leaf l) k (null_of_no_leaf (child (of_leaf l) k) (λ q. leaf_at-sub (of_leaf l) (k ∷ []) q ∙ leaf_at-of_leaf l (k ∷ q)))
    ∙ sym (ap (λ rs. row_at rs k) alone)

-- a row is found among the children of the tree
pub row_at-tree : (leaf : Option LeafValue) (rows : List Row) (tree : PathTree) (k : Key) → IsShown leaf rows tree → child_of (children_of tree) k ≡ row_at rows k
row_at-tree leaf rows tree k h =
    child_of-children_of tree k ∙ ap (λ t. non_null (child t k)) h.whole ∙ child_of-tree_by leaf rows k h.alone h.full
