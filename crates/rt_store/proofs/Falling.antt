-- The children of a tree, the last in the order of keys first, and the rows that are made of them from behind.
use Rattle.std.proofs.Common.{◌≡◌, zero, suc, List, [], ◌∷◌, ◌++◌, map, reverse, Option, Some, None, Bool, true, false, not, is_some, refl, sym, ap, subst, ◌∙◌, arith, append-nil}
use Rattle.std.specs.Prelude.{◌&&◌, T}
use Rattle.std.specs.declared.cmp.Ordering.{Ordering}
use Rattle.std.specs.declared.cmp.Ordering.TheVariants.{Less, Equal, Greater}
use Rattle.std.specs.Ordering.{is_lt, is_eq, ordering_reverse}
use Rattle.std.specs.Cmp.{IsStrictWeakOrder, eq_by_cmp_equiv}
use Rattle.std.specs.Cmp.Lexicographic.{nat_list_cmp_total}
use Rattle.std.specs.Option.{option_and_then}
use Rattle.std.specs.FinMap.Entries.{is_sorted, below_all, by_order, put, is_sorted-put, same_entries}
use Rattle.std.specs.List.{AllPairs, IsDistinct}
use Rattle.std.specs.List.Sorted.{IsPermutation, IsSortedBy, IsStrictlySortedBy}
use Rattle.std.specs.Map.{keys_of}
use Rattle.std.proofs.lemmas.List.Sorted.{ranks_by, IsStrictWeakOrder-flip, sorted_far, Contains-permutation, IsPermutation-map, IsPermutation-reverse, IsPermutation-sym, IsPermutation-trans}
use Rattle.std.proofs.lemmas.Map.Keys.{IsDistinct-from_sorted, IsDistinct-IsPermutation}
use Rattle.std.proofs.lemmas.Map.Views.{Contains-from_lookup, lookup-from_Contains}
use Rattle.rt_tree.specs.Leaf.{LeafValue}
use Rattle.rt_tree.specs.PathTree.{Key, Path, PathTree, key_eq, key_eq-is, key_eq-symm, is_null, same_tree, leaf_at, leaf_at-object, leaf_at-object-root, object, child_of, first, second}
use Rattle.rt_tree.specs.Children.{is_object, children_of, child_of-children_of}
use Rattle.rt_tree.proofs.Trees.{leaf_at-found}
use Rattle.rt_order.specs.KeyOrder.{bytes_cmp, key_cmp}
use Rattle.rt_order.specs.laws.KeyOrder.{key_cmp_total, key_cmp-IsAntisymmetric}
use Rattle.rt_store.specs.Rows.{Row, in_key_order}
use Rattle.rt_nodes.specs.Forest.{bare, node, AllAfter}
use Rattle.rt_store.specs.inside.Entries.{entries, Trees}
use Rattle.rt_store.specs.inside.Growing.{seen}
use Rattle.rt_store.specs.declared.nodes.StoreChild.{StoreChild}
use Rattle.rt_store.proofs.Orders.{tests_alike, find-child_of, sorted-in_key_order, find-in_key_order}

-- each entry put in front of a row, one by one
abbrev pub onto : List (Key × PathTree) → Row → Row
onto [] es = es
onto (c ∷ cs) es = onto cs (c ∷ es)

pub onto-reverse : (cs : List (Key × PathTree)) → onto cs [] ≡ reverse cs
onto-reverse cs = refl

-- what was put in front so far rises where the whole does
pub sorted_so_far : (c : Key × PathTree) (cs : List (Key × PathTree)) (es : Row) → T (is_sorted key_cmp (onto (c ∷ cs) es)) → T (is_sorted key_cmp (c ∷ es))
sorted_so_far c [] es h = h
sorted_so_far c (d ∷ cs) es h = second (below_all key_cmp d.0 (c ∷ es)) _ (sorted_so_far d cs (c ∷ es) h)

pub less : (o : Ordering) → T (is_lt o) → o ≡ Less
less Less h = refl
less Equal h = absurd h
less Greater h = absurd h

after_from_below : (k : Key) (f : Trees) → T (below_all key_cmp k (entries f)) → AllAfter k f
after_from_below k bare h = tt
after_from_below k (node n key leaf below behind) h = (less (key_cmp k key) (first _ _ h), after_from_below k behind (second (is_lt (key_cmp k key)) _ h))

-- a key in front of a row that rises stands in front of each
pub after_from_sorted : (k : Key) (t : PathTree) (f : Trees) → T (is_sorted key_cmp ((k, t) ∷ entries f)) → AllAfter k f
after_from_sorted k t f h = after_from_below k f (first _ _ h)

pub child_of-in_key_order : (es : Row) (k : Key) → child_of (in_key_order es) k ≡ child_of es k
child_of-in_key_order es k = sym (find-child_of (in_key_order es) k) ∙ find-in_key_order es k ∙ find-child_of es k

-- an object is that of its children in order
pub object-in_key_order : (t : PathTree) → is_object t ≡ true → object (in_key_order (children_of t)) ≡ t
object-in_key_order t is = same_tree _ _ at
  where
    no_leaf : (b : Bool) (o : Option LeafValue) → not b && not (is_some o) ≡ true → o ≡ None
    no_leaf b None e = refl
    no_leaf true (Some l) e = cc
    no_leaf false (Some l) e = cc

    at : (q : Path) → leaf_at (object (in_key_order (children_of t))) q ≡ leaf_at t q
    at [] = leaf_at-object-root (in_key_order (children_of t)) ∙ sym (no_leaf (is_null t) (leaf_at t []) is)
    at (k ∷ q) =
        leaf_at-object (in_key_order (children_of t)) k q
        ∙ ap (option_and_then (λ u. leaf_at u q)) (child_of-in_key_order (children_of t) k ∙ child_of-children_of t k)
        ∙ leaf_at-found t (k ∷ []) q

-- ---- the sort
-- a key in front of the first keeps a row rising
rises_more : (d c : Key × PathTree) (es : Row) → key_cmp d.0 c.0 ≡ Less → T (is_sorted key_cmp (c ∷ es)) → T (is_sorted key_cmp (d ∷ c ∷ es))
rises_more d c es l h =
    subst (λ o. T (is_sorted key_cmp (by_order o (d ∷ c ∷ es) ((c.0, d.1) ∷ es) (c ∷ put key_cmp d.0 d.1 es)))) l (is_sorted-put key_cmp key_cmp_total d.0 d.1 (c ∷ es) h)

falls : (j k : Key) → is_lt (key_cmp j k) ≡ false → key_eq j k ≡ false → key_cmp k j ≡ Less
falls j k h d =
    elim (key_cmp j k) as (λ o. key_cmp j k ≡ o → key_cmp k j ≡ Less) [
      | Less ↦ λ e. cc (h, ap is_lt e)
      | Equal ↦ λ e. cc (d, sym (tests_alike j k) ∙ ap is_eq e)
      | Greater ↦ λ e. key_cmp_total.antisymm k j ∙ ap ordering_reverse e
    ] refl

-- the order that the sort follows
abbrev pub falls_before : StoreChild → StoreChild → Bool
falls_before a b = is_lt (key_cmp (seen b).0 (seen a).0)

pub falling_ranks : IsStrictWeakOrder falls_before
falling_ranks = IsStrictWeakOrder-flip _ (ranks_by key_cmp_total (λ (c : StoreChild). (seen c).0))

rises_onto : (a : StoreChild) (xs : List StoreChild) (es : Row) → AllPairs (λ b c. falls_before c b ≡ false) (a ∷ xs) → IsDistinct key_eq (keys_of (map seen (a ∷ xs)))
    → T (is_sorted key_cmp (seen a ∷ es)) → T (is_sorted key_cmp (onto (map seen xs) (seen a ∷ es)))
unfolding IsDistinct
rises_onto a [] es up apart h = h
rises_onto a (b ∷ xs) es up apart h =
    rises_onto b xs (seen a ∷ es) (λ i j d below inside. up (suc i) (suc j) d (omega arith) (omega arith)) apart.1
    (rises_more (seen b) (seen a) es (falls (seen a).0 (seen b).0 (up zero (suc zero) a (omega arith) (omega arith)) apart.0.0) h)

rises_back : (xs : List StoreChild) → AllPairs (λ b c. falls_before c b ≡ false) xs → IsDistinct key_eq (keys_of (map seen xs)) → T (is_sorted key_cmp (reverse (map seen xs)))
rises_back [] up apart = tt
rises_back (a ∷ xs) up apart = rises_onto a xs [] up apart tt

-- the same is found in another order, where keys differ
child_of-permutation : (es fs : Row) (k : Key) → IsPermutation es fs → IsDistinct key_eq (keys_of es) → child_of fs k ≡ child_of es k
child_of-permutation es fs k same apart =
    elim (child_of es k) as (λ o. child_of es k ≡ o → child_of fs k ≡ o) [
      | Some t ↦ λ e. there es fs same still t e
      | None ↦ λ e. elim (child_of fs k) as (λ o. child_of fs k ≡ o → o ≡ None) [
        | None ↦ λ f. refl
        | Some t ↦ λ f. cc (e, there fs es (IsPermutation-sym es fs same) apart t f)
      ] refl
    ] refl
  where
    still : IsDistinct key_eq (keys_of fs)
    still = IsDistinct-IsPermutation key_eq key_eq-symm (keys_of es) (keys_of fs) (IsPermutation-map (λ (e : Key × PathTree). e.0) es fs same) apart

    there : (xs ys : Row) → IsPermutation xs ys → IsDistinct key_eq (keys_of ys) → (t : PathTree) → child_of xs k ≡ Some t → child_of ys k ≡ Some t
    there xs ys p d t e = lookup-from_Contains (eq_by_cmp_equiv nat_list_cmp_total) k t ys d (Contains-permutation xs ys (k, t) p (Contains-from_lookup key_eq-is k t xs e))

-- children in falling order, reversed, are the children in order
pub fallen : (es : Row) (xs ys : List StoreChild) (left : Row) → IsStrictlySortedBy bytes_cmp (keys_of es) → es ≡ map seen xs ++ left → left ≡ [] → IsPermutation xs ys → IsSortedBy falls_before ys
    → reverse (map seen ys) ≡ in_key_order es
fallen es xs ys left keys is end moved sorted =
    same_entries key_cmp key_cmp_total key_cmp-IsAntisymmetric (reverse (map seen ys)) (in_key_order es)
    (rises_back ys (λ i j d below inside. sorted_far falls_before falling_ranks ys sorted i j d (omega arith) inside) still) (sorted-in_key_order es)
    (λ k. find-child_of (reverse (map seen ys)) k ∙ child_of-permutation es (reverse (map seen ys)) k back apart ∙ sym (child_of-in_key_order es k) ∙ sym (find-child_of (in_key_order es) k))
  where
    apart : IsDistinct key_eq (keys_of es)
    apart = IsDistinct-from_sorted bytes_cmp (keys_of es) keys

    same : IsPermutation es (map seen ys)
    same = subst (λ l. IsPermutation l (map seen ys)) (sym (is ∙ ap (λ l. map seen xs ++ l) end ∙ append-nil (map seen xs))) (IsPermutation-map seen xs ys moved)

    back : IsPermutation es (reverse (map seen ys))
    back = IsPermutation-trans _ _ _ same (IsPermutation-reverse (map seen ys))

    still : IsDistinct key_eq (keys_of (map seen ys))
    still = IsDistinct-IsPermutation key_eq key_eq-symm (keys_of es) (keys_of (map seen ys)) (IsPermutation-map (λ (e : Key × PathTree). e.0) es (map seen ys) same) apart
