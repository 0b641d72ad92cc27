-- Children in any order, and the same ones in order.
use Rattle.std.specs.Prelude.{T}
use Rattle.std.proofs.Common.{◌≡◌, zero, suc, Bool, true, false, cond, List, [], ◌∷◌, refl, sym, ap, subst, ◌∙◌, arith, Option, Some, None}
use Rattle.std.specs.declared.cmp.Ordering.TheVariants.{Less, Equal, Greater}
use Rattle.std.specs.Ordering.{is_lt, is_eq, ordering_reverse, eq_by_cmp}
use Rattle.std.specs.Cmp.{IsStrictWeakOrder}
use Rattle.std.specs.List.{AllByRecursion, AllPairs, IsDistinct}
use Rattle.std.specs.List.Sorted.{IsPermutation, IsSorted}
use Rattle.std.specs.Map.{lookup}
use Rattle.std.specs.BTreeMap.{is_at}
use Rattle.std.specs.FinMap.Entries.{find, is_sorted, below_all, find-put, same_entries}
use Rattle.std.proofs.lemmas.List.Elements.{recursion_from_All, All-from_recursion}
use Rattle.std.proofs.lemmas.List.MinMax.{ranks_by}
use Rattle.std.proofs.lemmas.List.Sorted.{sorted_far, All-permutation, IsPermutation-sym}
use Rattle.std.proofs.lemmas.Map.Keys.{IsDistinct-IsPermutation}
use Rattle.rt_tree.specs.PathTree.{Key, PathTree, key_eq, key_eq-symm, child_of, both}
use Rattle.rt_tree.specs.Children.{children_of, children_sorted}
use Rattle.rt_order.specs.declared.index.Index.{Index}
use Rattle.rt_order.specs.Entries.{Entry, entry, entry_cmp}
use Rattle.rt_order.specs.laws.EntryOrder.{entry_cmp_total, entry_cmp-IsAntisymmetric}
use Rattle.rt_query.specs.Select.{sorted_by}
use Rattle.rt_view.specs.inside.Windows.{Entries, IsApart, IsOrdering}
use Rattle.rt_view.specs.inside.ViewIndex.{entries_of}
use Rattle.rt_view.proofs.Listed.{EachOnce, apart_keys, each_once, listed-children}
use Rattle.rt_view.proofs.WindowLaws.{same_entry}

-- ---- entries that are alike

pub find_lookup : (es : Entries) (e : Entry) → lookup (is_at (entry_cmp e)) es ≡ find entry_cmp e es
find_lookup [] e = refl
find_lookup (x ∷ es) e = ap (cond (eq_by_cmp entry_cmp e x.0) (Some x.1)) (find_lookup es e)

tied : (a b : Entry) → eq_by_cmp entry_cmp a b ≡ true → eq_by_cmp entry_cmp b a ≡ true
tied a b t = subst (λ (z : Entry). eq_by_cmp entry_cmp z a ≡ true) (same_entry a b t) (ap (eq_by_cmp entry_cmp a) (same_entry a b t) ∙ t)

turned : (a b : Entry) → eq_by_cmp entry_cmp a b ≡ eq_by_cmp entry_cmp b a
turned a b =
    elim (eq_by_cmp entry_cmp a b) as (λ c. eq_by_cmp entry_cmp a b ≡ c → c ≡ eq_by_cmp entry_cmp b a) [
      | true ↦ λ t. sym (tied a b t)
      | false ↦ λ t. elim (eq_by_cmp entry_cmp b a) as (λ d. eq_by_cmp entry_cmp b a ≡ d → false ≡ d) [
        | true ↦ λ u. cc (t, tied b a u)
        | false ↦ λ u. refl
      ] refl
    ] refl

-- ---- a sorted list

abbrev alike : Entry × PathTree → Entry × PathTree → Bool
alike d e = eq_by_cmp entry_cmp d.0 e.0

permuted : {X : Type 0} (P : X → Type 0) (xs ys : List X) → IsPermutation xs ys → AllByRecursion P xs → AllByRecursion P ys
permuted P xs ys p h = recursion_from_All P ys (All-permutation P xs ys p (All-from_recursion P xs h))

-- ---- finding in another order
module _ (q : Entry) where
  abbrev found : List (Entry × PathTree) → Option PathTree
  found es = find entry_cmp q es

  abbrev is_here : Entry × PathTree → Bool
  is_here e = eq_by_cmp entry_cmp q e.0

  not_here : (es : List (Entry × PathTree)) → found es ≡ None → AllByRecursion (λ e. is_here e ≡ false) es
  not_here [] n = tt
  not_here (e ∷ es) n =
      elim (is_here e) as (λ b. is_here e ≡ b → cond b (Some e.1) (found es) ≡ None → AllByRecursion (λ x. is_here x ≡ false) (e ∷ es)) [
        | true ↦ λ h f. cc
        | false ↦ λ h f. (h, not_here es f)
      ] refl n

  nowhere : (es : List (Entry × PathTree)) → AllByRecursion (λ e. is_here e ≡ false) es → found es ≡ None
  nowhere [] h = refl
  nowhere (e ∷ es) h = (λ i. cond (h.0 i) (Some e.1) (found es)) ∙ nowhere es h.1

  apart_here : (v : PathTree) (e : Entry × PathTree) (es : List (Entry × PathTree)) → is_here e ≡ true → AllByRecursion (λ x. alike e x ≡ false) es → AllByRecursion (λ x. is_here x ≡ true → x.1 ≡ v) es
  apart_here v e [] h d = tt
  apart_here v e (x ∷ es) h d =
      ((λ t. cc (d.0, ap (λ (z : Entry). eq_by_cmp entry_cmp z x.0) (same_entry q e.0 h), t)), apart_here v e es h d.1)

  value_here : (es : List (Entry × PathTree)) (v : PathTree) → IsDistinct alike es → found es ≡ Some v → AllByRecursion (λ e. is_here e ≡ true → e.1 ≡ v) es
  unfolding IsDistinct
  value_here [] v d n = cc
  value_here (e ∷ es) v d n =
      elim (is_here e) as (λ b. is_here e ≡ b → cond b (Some e.1) (found es) ≡ Some v → AllByRecursion (λ x. is_here x ≡ true → x.1 ≡ v) (e ∷ es)) [
        | true ↦ λ h f. ((λ _. cc), apart_here v e es h d.0)
        | false ↦ λ h f. ((λ t. cc (h, t)), value_here es v d.1 f)
      ] refl n

  is_value : (es : List (Entry × PathTree)) (v w : PathTree) → AllByRecursion (λ e. is_here e ≡ true → e.1 ≡ v) es → found es ≡ Some w → w ≡ v
  is_value [] v w h n = cc
  is_value (e ∷ es) v w h n =
      elim (is_here e) as (λ b. is_here e ≡ b → cond b (Some e.1) (found es) ≡ Some w → w ≡ v) [
        | true ↦ λ t f. cc (f, h.0 t)
        | false ↦ λ t f. is_value es v w h.1 f
      ] refl n

  find-permutation : (xs ys : List (Entry × PathTree)) → IsPermutation xs ys → IsDistinct alike xs → found ys ≡ found xs
  find-permutation xs ys p d =
      elim (found xs) as (λ o. found xs ≡ o → found ys ≡ o) [
        | None ↦ λ e. nowhere ys (permuted _ xs ys p (not_here xs e))
        | Some v ↦ λ e. elim (found ys) as (λ o. found ys ≡ o → o ≡ Some v) [
          | None ↦ λ f. cc (e, nowhere xs (permuted _ ys xs (IsPermutation-sym xs ys p) (not_here ys f)))
          | Some w ↦ λ f. ap Some (is_value ys v w (permuted _ xs ys p (value_here xs v d e)) f)
        ] refl
      ] refl

distinct : (es : Entries) → IsApart es → IsDistinct alike es
unfolding IsDistinct
distinct [] h = tt
distinct (e ∷ es) h = (not_here e.0 es h.0, distinct es h.1)

climbs : (a b : Entry × PathTree) → is_lt (entry_cmp b.0 a.0) ≡ false → alike a b ≡ false → T (is_lt (entry_cmp a.0 b.0))
climbs a b h d =
    elim (entry_cmp a.0 b.0) as (λ o. entry_cmp a.0 b.0 ≡ o → T (is_lt o)) [
      | Less ↦ λ e. tt
      | Equal ↦ λ e. cc (d, ap is_eq e)
      | Greater ↦ λ e. cc (h, ap is_lt (entry_cmp_total.antisymm b.0 a.0 ∙ ap ordering_reverse e))
    ] refl

climb_below : (a : Entry × PathTree) (xs : Entries) → AllByRecursion (λ x. is_lt (entry_cmp x.0 a.0) ≡ false) xs → AllByRecursion (λ e. alike a e ≡ false) xs → T (below_all entry_cmp a.0 xs)
climb_below a [] h d = tt
climb_below a (x ∷ xs) h d = both _ _ (climbs a x h.0 d.0) (climb_below a xs h.1 d.1)

climb : (xs : Entries) → AllPairs (λ a b. is_lt (entry_cmp b.0 a.0) ≡ false) xs → IsDistinct alike xs → T (is_sorted entry_cmp xs)
unfolding IsDistinct
climb [] h d = tt
climb (a ∷ xs) h d =
    both _ _ (climb_below a xs (recursion_from_All _ xs (λ j x inside. h zero (suc j) x (omega arith) (omega arith))) d.0)
    (climb xs (λ i j x below inside. h (suc i) (suc j) x (omega arith) (omega arith)) d.1)

-- the order of entries is one that a sort can follow
pub entry_ranks : IsStrictWeakOrder (λ (a b : Entry × PathTree). is_lt (entry_cmp a.0 b.0))
entry_ranks = ranks_by entry_cmp_total (λ (c : Entry × PathTree). c.0)

pub ordering_sorted : (xs es : Entries) → IsApart xs → IsPermutation xs es → IsSorted (λ (a b : Entry × PathTree). entry_cmp a.0 b.0) es → IsOrdering xs es
ordering_sorted xs es apart same sorted =
    let once = distinct xs apart in
    let still = IsDistinct-IsPermutation alike (λ a b. turned a.0 b.0) xs es same once in
    let up : AllPairs (λ (a b : Entry × PathTree). is_lt (entry_cmp b.0 a.0) ≡ false) es = λ i j d below inside. sorted_far _ entry_ranks es sorted i j d (omega arith) inside in
    record { rises = climb es up still; same = λ e. find-permutation e xs es same once }

-- ---- the children of a tree

module _ (index : Index) where
  find-sorted_by : (e : Entry) (cs : List (Key × PathTree)) → find entry_cmp e (sorted_by index cs) ≡ find entry_cmp e (entries_of index cs)
  find-sorted_by e [] = refl
  find-sorted_by e (c ∷ cs) =
      find-put entry_cmp entry_cmp_total e (entry index c) c.1 (sorted_by index cs)
      ∙ ap (cond (eq_by_cmp entry_cmp e (entry index c)) (Some c.1)) (find-sorted_by e cs)

  none_there : (e : Entry) (cs : List (Key × PathTree)) → child_of cs e.1 ≡ None → find entry_cmp e (entries_of index cs) ≡ None
  none_there e [] h = refl
  none_there e (c ∷ cs) h =
      elim (key_eq e.1 c.0) as (λ b. key_eq e.1 c.0 ≡ b → cond b (Some c.1) (child_of cs e.1) ≡ None → find entry_cmp e (entries_of index (c ∷ cs)) ≡ None) [
        | true ↦ λ t g. cc
        | false ↦ λ t g. ap (λ b. cond b (Some c.1) (find entry_cmp e (entries_of index cs))) (apart_keys e (entry index c) (key_eq-symm c.0 e.1 ∙ t)) ∙ none_there e cs g
      ] refl h

  apart_entries : (cs : List (Key × PathTree)) → EachOnce cs → IsApart (entries_of index cs)
  apart_entries [] h = tt
  apart_entries (c ∷ cs) h = (none_there (entry index c) cs h.0, apart_entries cs h.1)

  -- no two children of a tree stand at one entry
  pub apart_children : (t : PathTree) → IsApart (entries_of index (children_of t))
  apart_children t = apart_entries (children_of t) (each_once (children_of t) (children_sorted t))

  -- in order they are those of the definition
  pub ordered_children : (t : PathTree) (all : Entries) → IsOrdering (entries_of index (children_of t)) all → all ≡ sorted_by index (children_of t)
  ordered_children t all o =
      same_entries entry_cmp entry_cmp_total entry_cmp-IsAntisymmetric all (sorted_by index (children_of t)) o.rises (listed-children index t).rises
      (λ e. o.same e ∙ sym (find-sorted_by e (children_of t)))
