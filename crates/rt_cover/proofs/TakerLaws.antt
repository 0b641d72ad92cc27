-- Ranges of which none takes in another: the last that stands up to a query without its limit tells whether one takes it in.
use Rattle.std.proofs.Common.{◌≡◌, ℕ, ◌+◌, ◌<◌, ◌≤◌, nat_lt, Bool, true, false, not, ◌&&◌, ◌||◌, ◌⊎◌, inl, inr, List, length, get_or, refl, sym, ap, subst, ◌∙◌, arith, ltb, ltb-true, ltb-false}
use mathlib.Core.Bool.{true≢false}
use Rattle.std.specs.List.{filter, list_any, All}
use Rattle.std.specs.List.Sorted.{IsSorted, IsPartitionedBy, IsPartitionPoint}
use Rattle.std.specs.Ordering.{is_lt, is_gt, ordering_index, ordering_reverse}
use Rattle.std.specs.declared.cmp.Ordering.{Ordering}
use Rattle.std.specs.declared.cmp.Ordering.TheVariants.{Less, Equal, Greater}
use Rattle.std.proofs.lemmas.List.{get_or_default}
use Rattle.std.proofs.lemmas.List.Folds.{Any-from_list_any, list_any_at}
use Rattle.std.proofs.lemmas.List.Sorted.{searchable_from_sorted, IsPartitionedBy-ltb, sorted_far}
use Rattle.rt_tree.specs.TreeEq.{both, both_first, both_second}
use Rattle.rt_query.specs.Queries.{Query, is_filtered}
use Rattle.rt_query.specs.QueryEq.{query_eq}
use Rattle.rt_query.specs.QueryOrder.{query_cmp, unlimited}
use Rattle.rt_query.specs.Ranges.{takes_in}
use Rattle.rt_query.specs.Supply.{does_supply}
use Rattle.rt_query.specs.laws.QueryEq.{query_eq_tells}
use Rattle.rt_query.specs.laws.QueryOrder.{queries_total, takes_in_front, taken_between}
use Rattle.rt_cover.specs.inside.Index.{by_form, is_taker, AreApart}
use Rattle.rt_cover.specs.laws.FormLaws.{same_tests, supply_filtered}
use Rattle.rt_cover.proofs.SearchLaws.{form_ranks, at_gap}

not_true : (b : Bool) → not b ≡ true → b ≡ false
not_true true e = absurd (true≢false (sym e))
not_true false e = refl

-- ---- in order

up_to_two : (o : Ordering) → not (is_gt o) ≡ ltb (ordering_index o) 2
up_to_two Less = refl
up_to_two Equal = refl
up_to_two Greater = refl

-- what stands up to a query stands first
pub up_to_first : {X : Type 0} (q : X → Query) (r : Query) (xs : List X) → IsSorted (by_form q) xs → IsPartitionedBy (λ (x : X). not (is_gt (query_cmp (q x) r))) xs
up_to_first {X = X} q r xs up i j d le lt e = up_to_two (query_cmp (q (get_or xs i d)) r)
    ∙ IsPartitionedBy-ltb (λ (x : X). ordering_index (query_cmp (q x) r)) xs 2 (searchable_from_sorted queries_total q xs r up) i j d le lt
    (sym (up_to_two (query_cmp (q (get_or xs j d)) r)) ∙ e)

other_way : (o : Ordering) → is_lt o ≡ false → is_gt (ordering_reverse o) ≡ false
other_way Less e = absurd (true≢false e)
other_way Equal e = refl
other_way Greater e = refl

-- none stands further than one behind it
pub no_further : {X : Type 0} (q : X → Query) (xs : List X) → IsSorted (by_form q) xs → (i j : ℕ) (d : X) → i ≤ j → j < length xs
    → is_gt (query_cmp (q (get_or xs i d)) (q (get_or xs j d))) ≡ false
no_further {X = X} q xs up i j d le lt =
    ap is_gt (queries_total.antisymm (q (get_or xs i d)) (q (get_or xs j d)))
    ∙ other_way (query_cmp (q (get_or xs j d)) (q (get_or xs i d))) (sorted_far (λ (x y : X). is_lt (by_form q x y)) (form_ranks q) xs up i j d le lt)

-- ---- apart

pub apart_at : {X : Type 0} (q : X → Query) (xs : List X) → AreApart q xs → (i j : ℕ) (d : X) → i < length xs → j < length xs
    → is_taker (q (get_or xs i d)) (q (get_or xs j d)) ≡ false
apart_at {X = X} q xs apart i j d a b = at (is_taker (q (get_or xs i d)) (q (get_or xs j d))) refl
  where
    at : (c : Bool) → is_taker (q (get_or xs i d)) (q (get_or xs j d)) ≡ c → c ≡ false
    at false e = refl
    at true e = absurd (true≢false (sym (list_any_at (λ (x : X). list_any (λ (y : X). is_taker (q x) (q y)) xs) xs i d a
        (list_any_at (λ (y : X). is_taker (q (get_or xs i d)) (q y)) xs j d b e)) ∙ apart))

-- what one of them takes in, it is
pub taken_is : (f g : Query) → is_taker f g ≡ false → takes_in f g ≡ true → f ≡ g
taken_is f g none t = at (query_eq f g) refl
  where
    at : (b : Bool) → query_eq f g ≡ b → f ≡ g
    at true e = (query_eq_tells f g).0 e
    at false e = absurd (true≢false (sym (both (not (query_eq f g)) (takes_in f g) (ap not e) t) ∙ none))

module _ {X : Type 0} (q : X → Query) (of : Query) (xs : List X) (up : IsSorted (by_form q) xs) (filtered : All (λ (x : X). is_filtered (q x) ≡ true) xs) (apart : AreApart q xs)
    (n : ℕ) (within : n ≤ length xs)
    (point : IsPartitionPoint (λ (x : X). not (is_gt (query_cmp (q x) (unlimited of))) ≡ true) (λ (x : X). not (is_gt (query_cmp (q x) (unlimited of))) ≡ false) xs n) where
  -- what takes in the query stands in front
  in_front : (k : ℕ) (d : X) → k < length xs → takes_in (q (get_or xs k d)) of ≡ true → k < n
  in_front k d lt t = at (nat_lt k n) refl
    where
      at : (b : Bool) → nat_lt k n ≡ b → k < n
      at true e = ltb-true k n e
      at false e = absurd (true≢false (ap not (sym (takes_in_front (q (get_or xs k d)) of t)) ∙ point.1 k d (ltb-false k n e) lt))

  pub none_up_to : n ≡ 0 → false ≡ list_any (λ (x : X). takes_in (q x) of) xs
  none_up_to none = same_tests false (list_any (λ (x : X). takes_in (q x) of) xs) (λ e. absurd (true≢false (sym e)))
      (λ e. let a = Any-from_list_any (λ (x : X). takes_in (q x) of) xs e in
      let less : a.0 < n = in_front a.0 a.1 a.2 (ap (λ x. takes_in (q x) of) a.3 ∙ a.4) in
      absurd (omega (arith, less, none)))

  pub last_tells : (m : ℕ) (x : X) → m + 1 ≡ n → x ≡ get_or xs m x → takes_in (q x) of ≡ list_any (λ (x : X). takes_in (q x) of) xs
  last_tells m x next there = same_tests (takes_in (q x) of) (list_any (λ (y : X). takes_in (q y) of) xs)
      (λ e. list_any_at (λ (y : X). takes_in (q y) of) xs m x last (ap (λ y. takes_in (q y) of) (sym there) ∙ e))
      (λ e. let a = Any-from_list_any (λ (y : X). takes_in (q y) of) xs e in
      ap (λ y. takes_in (q y) of) (there ∙ get_or_default xs m x a.1 last) ∙ reaches a.0 a.1 a.2 (ap (λ y. takes_in (q y) of) a.3 ∙ a.4))
    where
      last : m < length xs
      last = omega (arith, next, within)

      reaches : (k : ℕ) (d : X) → k < length xs → takes_in (q (get_or xs k d)) of ≡ true → takes_in (q (get_or xs m d)) of ≡ true
      reaches k d lt t =
          let less : k < n = in_front k d lt t in
          let le : k ≤ m = omega (arith, less, next) in
          elim (taken_between (q (get_or xs k d)) (q (get_or xs m d)) of t (filtered m d last) (no_further q xs up k m d le last)
          (not_true (is_gt (query_cmp (q (get_or xs m d)) (unlimited of))) (point.0 m d (omega arith) (omega (arith, next))))) [
            | inl u ↦ subst (λ f. takes_in f of ≡ true) (taken_is (q (get_or xs k d)) (q (get_or xs m d)) (apart_at q xs apart k m d lt last) u) t
            | inr u ↦ u
          ]

-- ---- whether one supplies a query

-- the query's own form does, or what takes it in
pub supplier_either : {X : Type 0} (q : X → Query) (of : Query) (xs : List X) → All (λ (x : X). is_filtered (q x) ≡ true) xs
    → (list_any (λ (x : X). query_eq (q x) of) xs || list_any (λ (x : X). takes_in (q x) of) xs) ≡ list_any (λ (x : X). does_supply (q x) of) xs
supplier_either {X = X} q of xs filtered =
    same_tests (list_any (λ (x : X). query_eq (q x) of) xs || list_any (λ (x : X). takes_in (q x) of) xs) (list_any (λ (x : X). does_supply (q x) of) xs)
    (λ e. from (list_any (λ (x : X). query_eq (q x) of) xs) refl e)
    (λ e. let a = Any-from_list_any (λ (x : X). does_supply (q x) of) xs e in
    let is : get_or xs a.0 a.1 ≡ a.1 = a.3 in
    let own : (query_eq (q a.1) of || takes_in (q a.1) of) ≡ true = sym (supply_filtered (q a.1) of (ap (λ x. is_filtered (q x)) (sym is) ∙ filtered a.0 a.1 a.2)) ∙ a.4 in
    to a.0 a.1 a.2 is (query_eq (q a.1) of) refl own)
  where
    each : (k : ℕ) (d : X) → k < length xs → does_supply (q (get_or xs k d)) of ≡ (query_eq (q (get_or xs k d)) of || takes_in (q (get_or xs k d)) of)
    each k d lt = supply_filtered (q (get_or xs k d)) of (filtered k d lt)

    yes : (b : Bool) → (b || true) ≡ true
    yes true = refl
    yes false = refl

    from : (b : Bool) → list_any (λ (x : X). query_eq (q x) of) xs ≡ b → (b || list_any (λ (x : X). takes_in (q x) of) xs) ≡ true → list_any (λ (x : X). does_supply (q x) of) xs ≡ true
    from true e _ =
        let a = Any-from_list_any (λ (x : X). query_eq (q x) of) xs e in
        list_any_at (λ (x : X). does_supply (q x) of) xs a.0 a.1 a.2
        (each a.0 a.1 a.2 ∙ ap (λ b. b || takes_in (q (get_or xs a.0 a.1)) of) (ap (λ x. query_eq (q x) of) a.3 ∙ a.4))
    from false _ e =
        let a = Any-from_list_any (λ (x : X). takes_in (q x) of) xs e in
        list_any_at (λ (x : X). does_supply (q x) of) xs a.0 a.1 a.2
        (each a.0 a.1 a.2 ∙ ap (λ b. query_eq (q (get_or xs a.0 a.1)) of || b) (ap (λ x. takes_in (q x) of) a.3 ∙ a.4) ∙ yes (query_eq (q (get_or xs a.0 a.1)) of))

    to : (k : ℕ) (x : X) → k < length xs → get_or xs k x ≡ x → (b : Bool) → query_eq (q x) of ≡ b → (b || takes_in (q x) of) ≡ true
        → (list_any (λ (y : X). query_eq (q y) of) xs || list_any (λ (y : X). takes_in (q y) of) xs) ≡ true
    to k x lt is true e _ = ap (λ b. b || list_any (λ (y : X). takes_in (q y) of) xs) (list_any_at (λ (y : X). query_eq (q y) of) xs k x lt (ap (λ y. query_eq (q y) of) is ∙ e))
    to k x lt is false _ e = ap (λ b. list_any (λ (y : X). query_eq (q y) of) xs || b) (list_any_at (λ (y : X). takes_in (q y) of) xs k x lt (ap (λ y. takes_in (q y) of) is ∙ e))
        ∙ yes (list_any (λ (y : X). query_eq (q y) of) xs)

-- the first that doesn't stand before a form is of it, or none is
pub form_there : {X : Type 0} (q : X → Query) (f : Query) (xs : List X) (up : IsSorted (by_form q) xs) (n : ℕ)
    (point : IsPartitionPoint (λ (x : X). is_lt (query_cmp (q x) f) ≡ true) (λ (x : X). is_lt (query_cmp (q x) f) ≡ false) xs n)
    (y : X) → n < length xs → y ≡ get_or xs n y → query_eq (q y) f ≡ list_any (λ (x : X). query_eq (q x) f) xs
form_there {X = X} q f xs up n point y within is = same_tests (query_eq (q y) f) (list_any (λ (x : X). query_eq (q x) f) xs)
    (λ e. list_any_at (λ (x : X). query_eq (q x) f) xs n y within (ap (λ x. query_eq (q x) f) (sym is) ∙ e))
    (λ e. at (query_eq (q y) f) refl e)
  where
    at : (b : Bool) → query_eq (q y) f ≡ b → list_any (λ (x : X). query_eq (q x) f) xs ≡ true → b ≡ true
    at true t e = refl
    at false t e = absurd (true≢false (sym e ∙ at_gap q f xs up n point y within (ap (λ x. query_eq (q x) f) (sym is) ∙ t)))
