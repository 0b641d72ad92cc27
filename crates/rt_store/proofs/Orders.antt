-- The rows of trees, and how they stand to the trees of linked nodes.
use Rattle.std.proofs.Common.{◌≡◌, [], ◌∷◌, Option, Some, None, true, false, cond, is_some, refl, sym, ap, subst, ◌∙◌}
use Rattle.std.specs.Prelude.{T}
use Rattle.std.specs.declared.cmp.Ordering.{Ordering}
use Rattle.std.specs.declared.cmp.Ordering.TheVariants.{Less}
use Rattle.std.specs.Ordering.{is_eq, is_lt, eq_by_cmp}
use Rattle.std.specs.Option.{option_and_then}
use Rattle.std.specs.Cmp.{tied_itself, Equal-is, both_ways}
use Rattle.std.specs.FinMap.{find}
use Rattle.std.specs.FinMap.Entries.{is_sorted, below_all, is_sorted-put, find-put, same_entries}
use Rattle.rt_tree.specs.Leaf.{LeafValue}
use Rattle.rt_tree.specs.PathTree.{Key, PathTree, key_eq, key_eq-is, key_eq-same, is_null, null_of_is_null, sub, of_leaf, object, child_of, AllFull, non_null, both}
use Rattle.rt_tree.specs.Children.{children_of, child_of-children_of}
use Rattle.rt_tree.proofs.Trees.{found-object, sub-root, some_non_null, children_of-none, is_object-of_leaf, is_null-of_leaf}
use Rattle.rt_order.specs.KeyOrder.{key_cmp}
use Rattle.rt_order.specs.laws.KeyOrder.{key_cmp_total, key_cmp-IsAntisymmetric}
use Rattle.rt_store.specs.Rows.{Row, in_key_order, row, root_row}
use Rattle.rt_store.specs.Stored.{first_tree}
use Rattle.rt_nodes.specs.Forest.{bare, node, first, AllAfter, Sound}
use Rattle.rt_store.specs.inside.Entries.{tree_with, entries, IsFull, Filled, Trees}

-- the test of either order tells equal keys
pub tests_alike : (j k : Key) → eq_by_cmp key_cmp j k ≡ key_eq j k
tests_alike j k = both_ways (eq_by_cmp key_cmp j k) (key_eq j k)
    (λ e. ap (key_eq j) (sym (key_cmp-IsAntisymmetric j k ((Equal-is (key_cmp j k)).0 e))) ∙ key_eq-same j)
    (λ e. ap (λ x. eq_by_cmp key_cmp j x) (sym (key_eq-is j k e)) ∙ ap is_eq (tied_itself key_cmp_total j))

pub find-child_of : (es : Row) (k : Key) → find key_cmp k es ≡ child_of es k
find-child_of [] k = refl
find-child_of (e ∷ es) k = (λ i. cond (tests_alike k e.0 i) (Some e.1) (find-child_of es k i))

pub sorted-in_key_order : (es : Row) → T (is_sorted key_cmp (in_key_order es))
sorted-in_key_order [] = tt
sorted-in_key_order (e ∷ es) = is_sorted-put key_cmp key_cmp_total e.0 e.1 (in_key_order es) (sorted-in_key_order es)

pub find-in_key_order : (es : Row) (k : Key) → find key_cmp k (in_key_order es) ≡ find key_cmp k es
find-in_key_order [] k = refl
find-in_key_order (e ∷ es) k = find-put key_cmp key_cmp_total k e.0 e.1 (in_key_order es) ∙ ap (cond (eq_by_cmp key_cmp k e.0) (Some e.1)) (find-in_key_order es k)

full_under : (es : Row) → AllFull es → (k : Key) (o : Option PathTree) → child_of es k ≡ o → option_and_then (λ t. non_null (sub t [])) o ≡ o
full_under es full k None e = refl
full_under es full k (Some t) e = ap non_null (sub-root t) ∙ some_non_null t (full k t e)

-- the children of an object whose row is in order
pub row-object : (es : Row) → T (is_sorted key_cmp es) → AllFull es → row (object es) ≡ es
row-object es sorted full =
    same_entries key_cmp key_cmp_total key_cmp-IsAntisymmetric (row (object es)) es (sorted-in_key_order (children_of (object es))) sorted
    (λ k. find-in_key_order (children_of (object es)) k ∙ find-child_of (children_of (object es)) k ∙ child_of-children_of (object es) k
    ∙ found-object es k [] ∙ full_under es full k (child_of es k) refl ∙ sym (find-child_of es k))

pub row-of_leaf : (l : LeafValue) → row (of_leaf l) ≡ []
row-of_leaf l = ap in_key_order (children_of-none (of_leaf l) (is_object-of_leaf l))

-- ---- linked nodes
lt_of : (o : Ordering) → o ≡ Less → T (is_lt o)
lt_of o e = subst (λ r. T (is_lt r)) (sym e) tt

below_all_of : (k : Key) (f : Trees) → AllAfter k f → T (below_all key_cmp k (entries f))
below_all_of k bare h = tt
below_all_of k (node n key leaf below behind) h = both _ _ (lt_of (key_cmp k key) h.0) (below_all_of k behind h.1)

pub sorted_of : (f : Trees) → Sound f → T (is_sorted key_cmp (entries f))
sorted_of bare h = tt
sorted_of (node n key leaf below behind) h = both _ _ (below_all_of key behind h.0) (sorted_of behind h.2)

-- a leaf, or children of which the first is not null
pub full_tree : (leaf : Option LeafValue) (f : Trees) → Filled f → IsFull leaf f → is_null (tree_with leaf (entries f)) ≡ false
full_tree (Some l) f h full = is_null-of_leaf l
full_tree None bare h full = absurd full
full_tree None (node n key leaf below behind) h full =
    object_full (key) (tree_with leaf (entries below)) (entries behind) (full_tree leaf below h.1 h.0)
  where
    object_full : (k : Key) (t : PathTree) (es : Row) → is_null t ≡ false → is_null (object ((k, t) ∷ es)) ≡ false
    object_full k t es some =
        let found : non_null (sub (object ((k, t) ∷ es)) (k ∷ [])) ≡ Some t =
        found-object ((k, t) ∷ es) k [] ∙ ap (λ b. option_and_then (λ u. non_null (sub u [])) (cond b (Some t) (child_of es k))) (key_eq-same k)
        ∙ ap non_null (sub-root t) ∙ some_non_null t some in
        elim (is_null (object ((k, t) ∷ es))) as (λ b. is_null (object ((k, t) ∷ es)) ≡ b → b ≡ false) [
          | true ↦ λ n. cc (sym found ∙ ap (λ u. non_null (sub u (k ∷ []))) (null_of_is_null (object ((k, t) ∷ es)) n) ∙ found-object [] k [])
          | false ↦ λ n. refl
        ] refl

pub full_of : (f : Trees) → Filled f → AllFull (entries f)
full_of bare h k t is = cc
full_of (node n key leaf below behind) h k t is =
    elim (key_eq k key) as (λ b. cond b (Some (tree_with leaf (entries below))) (child_of (entries behind) k) ≡ Some t → is_null t ≡ false) [
      | true ↦ λ e. ap is_null (sym (let same : tree_with leaf (entries below) ≡ t = cc in same)) ∙ full_tree leaf below h.1 h.0
      | false ↦ λ e. full_of behind h.2 k t e
    ] is

-- the row of the tree at linked nodes
pub row-tree_with : (leaf : Option LeafValue) (f : Trees) → Sound f → Filled f → (is_some leaf ≡ true → f ≡ bare) → row (tree_with leaf (entries f)) ≡ entries f
row-tree_with None f h filled top = row-object (entries f) (sorted_of f h) (full_of f filled)
row-tree_with (Some l) f h filled top = row-of_leaf l ∙ sym (ap entries (top refl))

-- the root's row
pub root_row-full : (t : PathTree) → is_null t ≡ false → root_row t ≡ ([], t) ∷ []
root_row-full t e = ap (λ b. cond b [] (([], t) ∷ [])) e

pub root_row-null : (t : PathTree) → is_null t ≡ true → root_row t ≡ []
root_row-null t e = ap (λ b. cond b [] (([], t) ∷ [])) e

pub first_of_root : (t : PathTree) → first_tree (root_row t) ≡ t
first_of_root t = elim (is_null t) as (λ b. is_null t ≡ b → first_tree (cond b [] (([], t) ∷ [])) ≡ t) [
  | true ↦ λ n. sym (null_of_is_null t n)
  | false ↦ λ n. refl
] refl

pub top_of_full : (leaf : Option LeafValue) (f : Trees) → IsFull leaf f → is_some leaf ≡ true → f ≡ bare
top_of_full None f h e = cc
top_of_full (Some l) bare h e = refl
top_of_full (Some l) (node n key leaf below behind) h e = absurd h

pub bare_of_first : (f : Trees) → first f ≡ None → f ≡ bare
bare_of_first bare e = refl
bare_of_first (node n key leaf below behind) e = cc
