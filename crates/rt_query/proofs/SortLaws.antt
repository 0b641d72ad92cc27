-- The children in a range, sorted, are the rows of the definition, which puts them in place one by one.
use Rattle.std.specs.Prelude.{T}
use Rattle.std.proofs.Common.{◌≡◌, zero, suc, ◌-◌, Bool, true, false, cond, List, [], ◌∷◌, map, length, drop, refl, sym, ap, ◌∙◌, arith, Option, Some, None}
use Rattle.std.specs.declared.cmp.Ordering.{Ordering}
use Rattle.std.specs.declared.cmp.Ordering.TheVariants.{Less, Equal, Greater}
use Rattle.std.specs.Ordering.{is_lt, is_eq, ordering_reverse, eq_by_cmp}
use Rattle.std.specs.Cmp.{IsStrictWeakOrder}
use Rattle.std.specs.Map.{keys_of}
use Rattle.std.specs.List.{AllByRecursion, AllPairs, IsDistinct, filter}
use Rattle.std.specs.List.Sorted.{IsPermutation, IsSorted, IsStrictlySortedBy}
use Rattle.std.specs.FinMap.Entries.{is_sorted, below_all, find, where_key, is_sorted-put, is_sorted-where_key, find-put, find-where_key, same_entries}
use Rattle.std.proofs.lemmas.List.{length-map, take-map, drop-map}
use Rattle.std.proofs.lemmas.List.Elements.{recursion_from_All, All-from_recursion}
use Rattle.std.proofs.lemmas.List.MinMax.{ranks_by}
use Rattle.std.proofs.lemmas.List.Sorted.{sorted_far, All-permutation, IsPermutation-sym}
use Rattle.std.proofs.lemmas.Map.Keys.{IsDistinct-from_sorted, IsDistinct-IsPermutation}
use Rattle.std.proofs.lemmas.Map.Made.{IsDistinct-keys_filter}
use Rattle.rt_tree.specs.PathTree.{Key, PathTree, both, key_cmp, key_eq, key_eq-same, key_eq-symm}
use Rattle.rt_order.specs.declared.index.Index.{Index}
use Rattle.rt_order.specs.Entries.{Entry, entry, entry_cmp}
use Rattle.rt_order.specs.Cuts.{has}
use Rattle.rt_order.specs.laws.EntryOrder.{entry_cmp_total, entry_cmp-IsAntisymmetric}
use Rattle.rt_query.specs.declared.query.Limit.{Limit}
use Rattle.rt_query.specs.declared.query.Limit.TheVariants.{First, Last}
use Rattle.rt_query.specs.Queries.{Query}
use Rattle.rt_query.specs.Select.{sorted_by, limited}
use Rattle.rt_query.specs.declared.row.Child.{Child}
use Rattle.rt_query.specs.inside.Sorting.{by_entry, in_range, seen, child_cmp}

-- ---- the definition: its entries rise, and each child is found at its entry

is_sorted-sorted_by : (index : Index) (cs : List (Key × PathTree)) → T (is_sorted entry_cmp (sorted_by index cs))
is_sorted-sorted_by index [] = tt
is_sorted-sorted_by index (c ∷ cs) = is_sorted-put entry_cmp entry_cmp_total (entry index c) c.1 (sorted_by index cs) (is_sorted-sorted_by index cs)

find-sorted_by : (index : Index) (q : Entry) (cs : List (Key × PathTree)) → find entry_cmp q (sorted_by index cs) ≡ find entry_cmp q (map (by_entry index) cs)
find-sorted_by index q [] = refl
find-sorted_by index q (c ∷ cs) =
    find-put entry_cmp entry_cmp_total q (entry index c) c.1 (sorted_by index cs)
    ∙ ap (cond (eq_by_cmp entry_cmp q (entry index c)) (Some c.1)) (find-sorted_by index q cs)

entries-in_range : (q : Query) (cs : List (Key × PathTree)) → in_range q cs ≡ where_key entry_cmp (has q.range) (map (by_entry q.index) cs)
entries-in_range q [] = refl
entries-in_range q (c ∷ cs) =
    elim (has q.range (entry q.index c)) as (λ b. map (by_entry q.index) (cond b (c ∷ filter (λ d. has q.range (entry q.index d)) cs) (filter (λ d. has q.range (entry q.index d)) cs))
    ≡ cond b (by_entry q.index c ∷ where_key entry_cmp (has q.range) (map (by_entry q.index) cs)) (where_key entry_cmp (has q.range) (map (by_entry q.index) cs))) [
      | true ↦ ap (λ es. by_entry q.index c ∷ es) (entries-in_range q cs)
      | false ↦ entries-in_range q cs
    ]

-- the children in the range are found where the definition has them
find-in_range : (q : Query) (e : Entry) (cs : List (Key × PathTree)) → find entry_cmp e (in_range q cs) ≡ find entry_cmp e (where_key entry_cmp (has q.range) (sorted_by q.index cs))
find-in_range q e cs =
    let alike = λ (x : Entry) (t : entry_cmp e x ≡ Equal). ap (has q.range) (sym (entry_cmp-IsAntisymmetric e x t)) in
    ap (find entry_cmp e) (entries-in_range q cs)
    ∙ find-where_key entry_cmp (has q.range) e alike (map (by_entry q.index) cs)
    ∙ ap (λ o. cond (has q.range e) o None) (sym (find-sorted_by q.index e cs))
    ∙ sym (find-where_key entry_cmp (has q.range) e alike (sorted_by q.index cs))

-- ---- entries with a key each

abbrev same_key : Entry × PathTree → Entry × PathTree → Bool
same_key d e = key_eq d.0.1 e.0.1

distinct_head : (index : Index) (k : Key) (cs : List (Key × PathTree)) → AllByRecursion (λ y. key_eq k y ≡ false) (keys_of cs) → AllByRecursion (λ e. key_eq k e.0.1 ≡ false) (map (by_entry index) cs)
distinct_head index k [] h = tt
distinct_head index k (c ∷ cs) h = (h.0, distinct_head index k cs h.1)

distinct_children : (index : Index) (cs : List (Key × PathTree)) → IsDistinct key_eq (keys_of cs) → IsDistinct same_key (map (by_entry index) cs)
unfolding IsDistinct
distinct_children index [] h = tt
distinct_children index (c ∷ cs) h = (distinct_head index c.0 cs h.0, distinct_children index cs h.1)

distinct-in_range : (q : Query) (cs : List (Key × PathTree)) → IsStrictlySortedBy key_cmp (keys_of cs) → IsDistinct same_key (in_range q cs)
distinct-in_range q cs h =
    distinct_children q.index _ (IsDistinct-keys_filter key_eq (λ c. has q.range (entry q.index c)) cs (IsDistinct-from_sorted key_cmp (keys_of cs) h))

permuted : {X : Type 0} (P : X → Type 0) (xs ys : List X) → IsPermutation xs ys → AllByRecursion P xs → AllByRecursion P ys
permuted P xs ys p h = recursion_from_All P ys (All-permutation P xs ys p (All-from_recursion P xs h))

-- ---- finding in another order
module _ (q : Entry) where
  abbrev found : List (Entry × PathTree) → Option PathTree
  found es = find entry_cmp q es

  abbrev is_here : Entry × PathTree → Bool
  is_here e = eq_by_cmp entry_cmp q e.0

  not_here : (es : List (Entry × PathTree)) → found es ≡ None → AllByRecursion (λ e. is_here e ≡ false) es
  not_here [] n = tt
  not_here (e ∷ es) n =
      elim (is_here e) as (λ b. is_here e ≡ b → cond b (Some e.1) (found es) ≡ None → AllByRecursion (λ x. is_here x ≡ false) (e ∷ es)) [
        | true ↦ λ h f. cc
        | false ↦ λ h f. (h, not_here es f)
      ] refl n

  nowhere : (es : List (Entry × PathTree)) → AllByRecursion (λ e. is_here e ≡ false) es → found es ≡ None
  nowhere [] h = refl
  nowhere (e ∷ es) h = (λ i. cond (h.0 i) (Some e.1) (found es)) ∙ nowhere es h.1

  here_key : (e : Entry × PathTree) → is_here e ≡ true → q.1 ≡ e.0.1
  here_key e h = ap (λ (x : Entry). x.1) (entry_cmp-IsAntisymmetric q e.0 (equal _ h))
    where
      equal : (o : Ordering) → is_eq o ≡ true → o ≡ Equal
      equal Less e = cc
      equal Equal e = refl
      equal Greater e = cc

  apart_here : (v : PathTree) (e : Entry × PathTree) (es : List (Entry × PathTree)) → is_here e ≡ true → AllByRecursion (λ x. same_key e x ≡ false) es → AllByRecursion (λ x. is_here x ≡ true → x.1 ≡ v) es
  apart_here v e [] h d = tt
  apart_here v e (x ∷ es) h d =
      ((λ t. cc (d.0, ap (key_eq e.0.1) (sym (here_key x t) ∙ here_key e h) ∙ key_eq-same e.0.1)), apart_here v e es h d.1)

  value_here : (es : List (Entry × PathTree)) (v : PathTree) → IsDistinct same_key es → found es ≡ Some v → AllByRecursion (λ e. is_here e ≡ true → e.1 ≡ v) es
  unfolding IsDistinct
  value_here [] v d n = cc
  value_here (e ∷ es) v d n =
      elim (is_here e) as (λ b. is_here e ≡ b → cond b (Some e.1) (found es) ≡ Some v → AllByRecursion (λ x. is_here x ≡ true → x.1 ≡ v) (e ∷ es)) [
        | true ↦ λ h f. ((λ _. cc), apart_here v e es h d.0)
        | false ↦ λ h f. ((λ t. cc (h, t)), value_here es v d.1 f)
      ] refl n

  is_value : (es : List (Entry × PathTree)) (v w : PathTree) → AllByRecursion (λ e. is_here e ≡ true → e.1 ≡ v) es → found es ≡ Some w → w ≡ v
  is_value [] v w h n = cc
  is_value (e ∷ es) v w h n =
      elim (is_here e) as (λ b. is_here e ≡ b → cond b (Some e.1) (found es) ≡ Some w → w ≡ v) [
        | true ↦ λ t f. cc (f, h.0 t)
        | false ↦ λ t f. is_value es v w h.1 f
      ] refl n

  find-permutation : (xs ys : List (Entry × PathTree)) → IsPermutation xs ys → IsDistinct same_key xs → found ys ≡ found xs
  find-permutation xs ys p d =
      elim (found xs) as (λ o. found xs ≡ o → found ys ≡ o) [
        | None ↦ λ e. nowhere ys (permuted _ xs ys p (not_here xs e))
        | Some v ↦ λ e. elim (found ys) as (λ o. found ys ≡ o → o ≡ Some v) [
          | None ↦ λ f. cc (e, nowhere xs (permuted _ ys xs (IsPermutation-sym xs ys p) (not_here ys f)))
          | Some w ↦ λ f. ap Some (is_value ys v w (permuted _ xs ys p (value_here xs v d e)) f)
        ] refl
      ] refl

-- ---- sorted children with a key each rise

rises : (a b : Child) → is_lt (child_cmp b a) ≡ false → same_key (seen a) (seen b) ≡ false → T (is_lt (child_cmp a b))
unfolding child_cmp
rises a b h d =
    elim (child_cmp a b) as (λ o. child_cmp a b ≡ o → T (is_lt o)) [
      | Less ↦ λ e. tt
      | Equal ↦ λ e. cc (d, ap (λ (x : Entry). key_eq ((seen a).0.1) x.1) (sym (entry_cmp-IsAntisymmetric ((seen a).0) ((seen b).0) e)) ∙ key_eq-same ((seen a).0.1))
      | Greater ↦ λ e. cc (h, ap is_lt (entry_cmp_total.antisymm ((seen b).0) ((seen a).0) ∙ ap ordering_reverse e))
    ] refl

rises_below : (a : Child) (xs : List Child) → AllByRecursion (λ x. is_lt (child_cmp x a) ≡ false) xs → AllByRecursion (λ e. same_key (seen a) e ≡ false) (map seen xs) → T (below_all entry_cmp ((seen a).0) (map seen xs))
unfolding child_cmp
rises_below a [] h d = tt
rises_below a (x ∷ xs) h d = both _ _ (rises a x h.0 d.0) (rises_below a xs h.1 d.1)

rise : (xs : List Child) → AllPairs (λ a b. is_lt (child_cmp b a) ≡ false) xs → IsDistinct same_key (map seen xs) → T (is_sorted entry_cmp (map seen xs))
unfolding IsDistinct
rise [] h d = tt
rise (a ∷ xs) h d =
    both _ _ (rises_below a xs (recursion_from_All _ xs (λ j x inside. h zero (suc j) x (omega arith) (omega arith))) d.0)
    (rise xs (λ i j x below inside. h (suc i) (suc j) x (omega arith) (omega arith)) d.1)

-- the order of children is one that a sort can follow
pub child_cmp_ranks : IsStrictWeakOrder (λ a b. is_lt (child_cmp a b))
unfolding child_cmp
child_cmp_ranks = ranks_by entry_cmp_total (λ (c : Child). (seen c).0)

-- the children in the range in another order, which is sorted, are those of the definition
pub sorted_children : (q : Query) (cs : List (Key × PathTree)) (xs : List Child) → IsStrictlySortedBy key_cmp (keys_of cs) → IsPermutation (in_range q cs) (map seen xs) → IsSorted child_cmp xs
    → map seen xs ≡ filter (λ e. has q.range e.0) (sorted_by q.index cs)
sorted_children q cs xs keys same sorted =
    let apart = distinct-in_range q cs keys in
    let still = IsDistinct-IsPermutation same_key (λ a b. key_eq-symm a.0.1 b.0.1) (in_range q cs) (map seen xs) same apart in
    let up : AllPairs (λ a b. is_lt (child_cmp b a) ≡ false) xs = λ i j d below inside.
    sorted_far _ child_cmp_ranks xs sorted i j d (omega arith) inside in
    same_entries entry_cmp entry_cmp_total entry_cmp-IsAntisymmetric (map seen xs) (where_key entry_cmp (has q.range) (sorted_by q.index cs))
    (rise xs up still) (is_sorted-where_key entry_cmp (has q.range) (sorted_by q.index cs) (is_sorted-sorted_by q.index cs))
    (λ e. find-permutation e (in_range q cs) (map seen xs) same apart ∙ find-in_range q e cs)

pub limited-map : {X Y : Type 0} (limit : Option Limit) (f : X → Y) (xs : List X) → limited limit (map f xs) ≡ map f (limited limit xs)
limited-map None f xs = refl
limited-map (Some (First n)) f xs = take-map f n xs
limited-map (Some (Last n)) f xs = ap (λ m. drop (m - n) (map f xs)) (length-map xs f) ∙ drop-map f (length xs - n) xs
