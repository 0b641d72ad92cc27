-- The rows that a query shows are children of the tree, and so none is null.
use Rattle.std.specs.Prelude.{OnSome, is_some, not, ◌&&◌}
use Rattle.std.proofs.Common.{◌≡◌, ℕ, zero, suc, ◌-◌, Bool, true, false, cond, List, [], ◌∷◌, map, length, take, drop, refl, sym, ap, subst, ◌∙◌, Option, Some, None}
use Rattle.std.specs.declared.cmp.Ordering.TheVariants.{Less, Equal, Greater}
use Rattle.std.specs.Map.{keys_of}
use Rattle.std.specs.List.{AllByRecursion, IsDistinct, filter}
use Rattle.std.specs.FinMap as map_of
use Rattle.std.specs.FinMap.Entries.{by_order}
use Rattle.std.proofs.lemmas.Map.Keys.{IsDistinct-from_sorted}
use Rattle.rt_tree.specs.PathTree.{Key, PathTree, key_cmp, key_eq, key_eq-is, key_eq-same, key_eq-symm, leaf_of, is_null, child, child_of, non_null, object}
use Rattle.rt_tree.specs.Allowed.{IsAllowed, MayStandAt, allowed-object, allowed-sub}
use Rattle.rt_tree.specs.Children.{children_of, children_sorted, child_of-children_of}
use Rattle.rt_tree.proofs.Trees.{children_of-none}
use Rattle.rt_order.specs.declared.index.Index.{Index}
use Rattle.rt_order.specs.Entries.{Entry, entry, entry_cmp}
use Rattle.rt_order.specs.Cuts.{has}
use Rattle.rt_order.specs.laws.EntryOrder.{entry_cmp-IsAntisymmetric}
use Rattle.rt_query.specs.declared.query.Limit.{Limit}
use Rattle.rt_query.specs.declared.query.Limit.TheVariants.{First, Last}
use Rattle.rt_query.specs.declared.row.Row.{Row}
use Rattle.rt_query.specs.Queries.{Query, is_filtered}
use Rattle.rt_query.specs.Rows.{HasNoNull, row_at}
use Rattle.rt_query.specs.Select.{sorted_by, limited, row_of, rows_of, as_children, tree_by}
use Rattle.rt_query.specs.inside.ShownView.{IsShown}
use Rattle.rt_query.specs.inside.Sorting.{child_row}
use Rattle.rt_query.specs.laws.Select.{row_at-cons, select-distinct, select-whole}
use Rattle.rt_query.proofs.ShownLaws.{child_of-as_children}

-- ---- what holds of each element
module _ {X : Type 0} (P : X → Type 0) where
  all-filter : (p : X → Bool) (xs : List X) → AllByRecursion P xs → AllByRecursion P (filter p xs)
  all-filter p [] h = tt
  all-filter p (x ∷ xs) h =
      elim (p x) as (λ b. AllByRecursion P (cond b (x ∷ filter p xs) (filter p xs))) [ true ↦ (h.0, all-filter p xs h.1) | false ↦ all-filter p xs h.1 ]

  all-take : (n : ℕ) (xs : List X) → AllByRecursion P xs → AllByRecursion P (take n xs)
  all-take zero xs h = tt
  all-take (suc n) [] h = tt
  all-take (suc n) (x ∷ xs) h = (h.0, all-take n xs h.1)

  all-drop : (n : ℕ) (xs : List X) → AllByRecursion P xs → AllByRecursion P (drop n xs)
  all-drop zero xs h = h
  all-drop (suc n) [] h = tt
  all-drop (suc n) (x ∷ xs) h = all-drop n xs h.1

  all-limited : (limit : Option Limit) (xs : List X) → AllByRecursion P xs → AllByRecursion P (limited limit xs)
  all-limited None xs h = h
  all-limited (Some (First n)) xs h = all-take n xs h
  all-limited (Some (Last n)) xs h = all-drop (length xs - n) xs h

module _ (P : Row → Type 0) where
  all-rows : (es : List (Entry × PathTree)) → AllByRecursion (λ e. P (row_of e)) es → AllByRecursion P (map row_of es)
  all-rows [] h = tt
  all-rows (e ∷ es) h = (h.0, all-rows es h.1)

  all-put : (e : Entry) (v : PathTree) (es : List (Entry × PathTree)) → P (row_of (e, v)) → AllByRecursion (λ x. P (row_of x)) es → AllByRecursion (λ x. P (row_of x)) (map_of.put entry_cmp e v es)
  all-put e v [] p h = (p, tt)
  all-put e v (x ∷ es) p h =
      elim (entry_cmp e x.0) as (λ o. entry_cmp e x.0 ≡ o → AllByRecursion (λ y. P (row_of y)) (by_order o ((e, v) ∷ x ∷ es) ((x.0, v) ∷ es) (x ∷ map_of.put entry_cmp e v es))) [
        | Less ↦ λ _. (p, h)
        | Equal ↦ λ t. (subst (λ (z : Entry). P (row_of (z, v))) (entry_cmp-IsAntisymmetric e x.0 t) p, h.1)
        | Greater ↦ λ _. (h.0, all-put e v es p h.1)
      ] refl

  all-sorted_by : (index : Index) (cs : List (Key × PathTree)) → AllByRecursion (λ c. P (child_row c)) cs → AllByRecursion (λ e. P (row_of e)) (sorted_by index cs)
  all-sorted_by index [] h = tt
  all-sorted_by index (c ∷ cs) h = all-put (entry index c) c.1 (sorted_by index cs) h.0 (all-sorted_by index cs h.1)

  -- what holds of the children holds of the rows
  pub all-rows_of : (q : Query) (cs : List (Key × PathTree)) → AllByRecursion (λ c. P (child_row c)) cs → AllByRecursion P (rows_of q cs)
  all-rows_of q cs h =
      all-rows _ (all-limited (λ e. P (row_of e)) q.limit _ (all-filter (λ e. P (row_of e)) (λ e. has q.range e.0) _ (all-sorted_by q.index cs h)))

-- ---- rows are children

abbrev IsChild : List (Key × PathTree) → Row → Type 0
IsChild cs r = child_of cs r.key ≡ Some r.value

past_head : (c : Key × PathTree) (cs ds : List (Key × PathTree)) → AllByRecursion (λ k. key_eq c.0 k ≡ false) (keys_of ds) → AllByRecursion (λ d. IsChild cs (child_row d)) ds → AllByRecursion (λ d. IsChild (c ∷ cs) (child_row d)) ds
past_head c cs [] g h = tt
past_head c cs (d ∷ ds) g h = (ap (λ b. cond b (Some c.1) (child_of cs d.0)) (key_eq-symm d.0 c.0 ∙ g.0) ∙ h.0, past_head c cs ds g.1 h.1)

own_children : (cs : List (Key × PathTree)) → IsDistinct key_eq (keys_of cs) → AllByRecursion (λ c. IsChild cs (child_row c)) cs
unfolding IsDistinct
own_children [] h = tt
own_children (c ∷ cs) h = (ap (λ b. cond b (Some c.1) (child_of cs c.0)) (key_eq-same c.0), past_head c cs cs h.0 (own_children cs h.1))

-- each row is a child
pub rows_are_children : (q : Query) (t : PathTree) → AllByRecursion (IsChild (children_of t)) (rows_of q (children_of t))
rows_are_children q t = all-rows_of (IsChild (children_of t)) q (children_of t) (own_children (children_of t) (IsDistinct-from_sorted key_cmp (keys_of (children_of t)) (children_sorted t)))

the_part : (t : PathTree) (k : Key) (u : PathTree) → child_of (children_of t) k ≡ Some u → (is_null u ≡ false) × (child t k ≡ u)
the_part t k u e = at (sym (child_of-children_of t k) ∙ e)
  where
    at : non_null (child t k) ≡ Some u → (is_null u ≡ false) × (child t k ≡ u)
    at = elim (is_null (child t k)) as (λ b. is_null (child t k) ≡ b → cond b None (Some (child t k)) ≡ Some u → (is_null u ≡ false) × (child t k ≡ u)) [
      | true ↦ λ h f. cc
      | false ↦ λ h f. let same : child t k ≡ u = cc in (ap is_null (sym same) ∙ h, same)
    ] refl

children_full : (t : PathTree) (rows : List Row) → AllByRecursion (IsChild (children_of t)) rows → HasNoNull rows
children_full t [] h = tt
children_full t (r ∷ rows) h = ((the_part t r.key r.value h.0).0, children_full t rows h.1)

-- no row is null
pub full-rows_of : (q : Query) (t : PathTree) → HasNoNull (rows_of q (children_of t))
full-rows_of q t = children_full t _ (rows_are_children q t)

child_there : (cs : List (Key × PathTree)) (rows : List Row) (k : Key) (u : PathTree) → AllByRecursion (IsChild cs) rows → row_at rows k ≡ Some u → child_of cs k ≡ Some u
child_there cs [] k u h e = cc
child_there cs (r ∷ rows) k u h e =
    elim (key_eq r.key k) as (λ b. key_eq r.key k ≡ b → cond b (Some r.value) (row_at rows k) ≡ Some u → child_of cs k ≡ Some u) [
      | true ↦ λ t f. ap (child_of cs) (sym (key_eq-is r.key k t)) ∙ h.0 ∙ f
      | false ↦ λ t f. child_there cs rows k u h.1 f
    ] refl (sym (row_at-cons r rows k) ∙ e)

-- what is shown may stand where the tree may
pub allowed-rows_of : (q : Query) (t : PathTree) → IsAllowed t → IsAllowed (object (as_children (rows_of q (children_of t))))
allowed-rows_of q t h = allowed-object (as_children (rows_of q (children_of t))) (λ k u e.
    let here = child_there (children_of t) (rows_of q (children_of t)) k u (rows_are_children q t) (sym (child_of-as_children (rows_of q (children_of t)) k) ∙ e) in
    subst (MayStandAt (k ∷ [])) ((the_part t k u here).1) (allowed-sub t (k ∷ []) h))

-- ---- a leaf has no rows

and_false : (b : Bool) → (b && false) ≡ false
and_false true = refl
and_false false = refl

limited-nil : {X : Type 0} (limit : Option Limit) → limited {X = X} limit [] ≡ []
limited-nil None = refl
limited-nil (Some (First zero)) = refl
limited-nil (Some (First (suc n))) = refl
limited-nil {X} (Some (Last n)) = drop-nil (0 - n)
  where
    drop-nil : (m : ℕ) → drop {A = X} m [] ≡ []
    drop-nil zero = refl
    drop-nil (suc m) = refl

pub rows_of-leaf : (q : Query) (t : PathTree) → OnSome (leaf_of t) (rows_of q (children_of t) ≡ [])
rows_of-leaf q t =
    elim (leaf_of t) as (λ o. leaf_of t ≡ o → OnSome o (rows_of q (children_of t) ≡ [])) [
      | None ↦ λ e. tt
      | Some l ↦ λ e. ap (rows_of q) (children_of-none t (ap (λ o. not (is_null t) && not (is_some o)) e ∙ and_false (not (is_null t)))) ∙ ap (map row_of) (limited-nil q.limit)
    ] refl

-- ---- what is shown is a view

pub shown_filtered : (q : Query) (t : PathTree) → IsShown None (rows_of q (children_of t)) (object (as_children (rows_of q (children_of t))))
shown_filtered q t = record { distinct = select-distinct q t; full = full-rows_of q t; alone = tt; whole = refl }

pub shown_whole : (q : Query) (t : PathTree) → is_filtered q ≡ false → IsShown (leaf_of t) (rows_of q (children_of t)) t
shown_whole q t h = record {
  distinct = select-distinct q t;
  full = full-rows_of q t;
  alone = rows_of-leaf q t;
  whole = sym (select-whole q t h) ∙ (λ i. tree_by (cond (h i) None (leaf_of t)) (rows_of q (children_of t)));
}
