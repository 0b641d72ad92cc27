-- Queries in order: whether one of them is a given one.
use Rattle.std.proofs.Common.{◌≡◌, ℕ, zero, suc, ◌+◌, ◌<◌, ◌≤◌, Bool, true, false, ◌||◌, List, [], ◌∷◌, length, take, drop, get_or, refl, sym, ap, ◌∙◌, arith, ltb, ltb-true, ltb-false, nat_lt}
use mathlib.Core.Bool.{true≢false}
use Rattle.std.specs.Cmp.{IsStrictWeakOrder, tied_itself}
use Rattle.std.specs.List.{list_any}
use Rattle.std.specs.List.Sorted.{IsPartitionedBy, IsPartitionPoint, IsSorted}
use Rattle.std.specs.Ordering.{is_lt, ordering_index, ordering_reverse}
use Rattle.std.specs.declared.cmp.Ordering.{Ordering}
use Rattle.std.specs.declared.cmp.Ordering.TheVariants.{Less, Equal, Greater}
use Rattle.std.proofs.lemmas.List.{get_or_default}
use Rattle.std.proofs.lemmas.List.Folds.{list_any_at, list_any_none}
use Rattle.std.proofs.lemmas.List.Sorted.{searchable_from_sorted, IsPartitionedBy-ltb, ranks_by, sorted_far}
use Rattle.rt_query.specs.Queries.{Query}
use Rattle.rt_query.specs.QueryEq.{query_eq}
use Rattle.rt_query.specs.QueryOrder.{query_cmp}
use Rattle.rt_query.specs.laws.QueryEq.{query_eq_tells}
use Rattle.rt_query.specs.laws.QueryOrder.{queries_total, exact_queries}
use Rattle.rt_cache.specs.Recover.{is_among}

before_one : (o : Ordering) → is_lt o ≡ ltb (ordering_index o) 1
before_one Less = refl
before_one Equal = refl
before_one Greater = refl

pub lesser_first : (r : Query) (qs : List Query) → IsSorted query_cmp qs → IsPartitionedBy (λ q. is_lt (query_cmp q r)) qs
lesser_first r qs up i j d le lt e = before_one (query_cmp (get_or qs i d) r)
    ∙ IsPartitionedBy-ltb (λ x. ordering_index (query_cmp x r)) qs 1 (searchable_from_sorted queries_total (λ (x : Query). x) qs r up) i j d le lt
    (sym (before_one (query_cmp (get_or qs j d) r)) ∙ e)

pub ranks : IsStrictWeakOrder (λ (x y : Query). is_lt (query_cmp x y))
ranks = ranks_by queries_total (λ (x : Query). x)

far : (qs : List Query) → IsSorted query_cmp qs → (i j : ℕ) (d : Query) → i ≤ j → j < length qs → is_lt (query_cmp (get_or qs j d) (get_or qs i d)) ≡ false
far qs up = sorted_far (λ (x y : Query). is_lt (query_cmp x y)) ranks qs up

-- what stands before a query is another one
lesser_other : (r q : Query) → is_lt (query_cmp r q) ≡ true → query_eq r q ≡ false
lesser_other r q e = at (query_eq r q) refl
  where
    at : (b : Bool) → query_eq r q ≡ b → query_eq r q ≡ false
    at false f = f
    at true f = absurd (true≢false (sym e ∙ ap (λ x. is_lt (query_cmp x q)) ((query_eq_tells r q).0 f) ∙ ap is_lt (tied_itself queries_total q)))

-- of two of which neither stands before the other each is the other
neither_lesser : (r q : Query) → is_lt (query_cmp r q) ≡ false → is_lt (query_cmp q r) ≡ false → r ≡ q
neither_lesser r q a b = at (query_cmp r q) refl
  where
    at : (o : Ordering) → query_cmp r q ≡ o → r ≡ q
    at Less e = absurd (true≢false (sym (ap is_lt e) ∙ a))
    at Equal e = exact_queries r q e
    at Greater e = absurd (true≢false (sym (ap is_lt (queries_total.antisymm q r ∙ ap ordering_reverse e)) ∙ b))

module _ (q : Query) (qs : List Query) (up : IsSorted query_cmp qs) (n : ℕ)
    (point : IsPartitionPoint (λ (x : Query). is_lt (query_cmp x q) ≡ true) (λ (x : Query). is_lt (query_cmp x q) ≡ false) qs n) where
  -- all stand before the query
  pub at_end : n ≡ length qs → is_among qs q ≡ false
  at_end all = list_any_none (λ (x : Query). query_eq x q) qs (λ k d lt. lesser_other (get_or qs k d) q (point.0 k d (omega arith) (omega (arith, lt, all))))

  -- or the first that doesn't is the query, or none is
  pub at_first : (x : Query) → n < length qs → is_among qs q ≡ query_eq (get_or qs n x) q
  at_first x within = at (query_eq (get_or qs n x) q) refl
    where
      none : query_eq (get_or qs n x) q ≡ false → (k : ℕ) (d : Query) → k < length qs → query_eq (get_or qs k d) q ≡ false
      none other k d lt = at (nat_lt k n) refl
        where
          same_here : get_or qs k d ≡ q → n ≤ k → ⊥
          same_here same le =
              let here : get_or qs n d ≡ q = neither_lesser (get_or qs n d) q (point.1 n d (omega arith) within)
              (ap (λ r. is_lt (query_cmp r (get_or qs n d))) (sym same) ∙ far qs up n k d le lt) in
              true≢false (sym ((query_eq_tells (get_or qs n x) q).1 (get_or_default qs n x d within ∙ here)) ∙ other)

          here : (b : Bool) → query_eq (get_or qs k d) q ≡ b → n ≤ k → query_eq (get_or qs k d) q ≡ false
          here false f le = f
          here true f le = absurd (same_here ((query_eq_tells (get_or qs k d) q).0 f) le)

          at : (b : Bool) → nat_lt k n ≡ b → query_eq (get_or qs k d) q ≡ false
          at true e = lesser_other (get_or qs k d) q (point.0 k d (omega arith) (ltb-true k n e))
          at false e = here (query_eq (get_or qs k d) q) refl (ltb-false k n e)

      at : (b : Bool) → query_eq (get_or qs n x) q ≡ b → is_among qs q ≡ query_eq (get_or qs n x) q
      at true e = list_any_at (λ (y : Query). query_eq y q) qs n x within e ∙ sym e
      at false e = list_any_none (λ (y : Query). query_eq y q) qs (none e) ∙ sym e

-- ---- a part of a list

or_true : (b : Bool) → (b || true) ≡ true
or_true true = refl
or_true false = refl

-- what is found among fewer is found
found_sooner : {X : Type 0} (test : X → Bool) (xs : List X) (m n : ℕ) → m ≤ n → list_any test (take m xs) ≡ true → list_any test (take n xs) ≡ true
found_sooner test xs zero n le e = absurd (true≢false (sym e))
found_sooner test [] (suc m) n le e = absurd (true≢false (sym e))
found_sooner test (x ∷ xs) (suc m) zero le e = absurd (omega (arith, le))
found_sooner test (x ∷ xs) (suc m) (suc n) le e = elim (test x) as (λ b. (b || list_any test (take m xs)) ≡ true → (b || list_any test (take n xs)) ≡ true) [
  | true ↦ λ f. refl
  | false ↦ λ f. found_sooner test xs m n (omega (arith, le)) f
] e

-- and so is what is found behind so many
pub found_behind : {X : Type 0} (test : X → Bool) (xs : List X) (k m n : ℕ) → k + m ≤ n → list_any test (take m (drop k xs)) ≡ true → list_any test (take n xs) ≡ true
found_behind test xs zero m n le e = found_sooner test xs m n (omega (arith, le)) e
found_behind test [] (suc k) zero n le e = absurd (true≢false (sym e))
found_behind test [] (suc k) (suc m) n le e = absurd (true≢false (sym e))
found_behind test (x ∷ xs) (suc k) m zero le e = absurd (omega (arith, le))
found_behind test (x ∷ xs) (suc k) m (suc n) le e = ap (λ b. test x || b) (found_behind test xs k m n (omega (arith, le)) e) ∙ or_true (test x)
