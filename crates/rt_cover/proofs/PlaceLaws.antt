-- Where a number stands among listeners by number, and that a new listener is put there.
use Rattle.std.proofs.Common.{◌≡◌, ◌≢◌, ℕ, suc, ◌+◌, ◌<◌, ◌≤◌, Bool, true, false, cond, not, nat_le, nat_lt, ◌==◌, ◌||◌, List, [], ◌∷◌, ◌++◌, length, refl, sym, ap, ◌∙◌, arith, slice_index_or, ltb, ltb-true, ltb-false, eqb-true, eq-eqb}
use mathlib.Core.Bool.{true≢false}
use Rattle.std.specs.List.{filter, insert, slice_get, All, AllPairs}
use Rattle.std.specs.Option.{option_map_or}
use Rattle.std.specs.List.Sorted.{IsNonDecreasingBy, IsPartitionedBy, IsPartitionPoint}
use Rattle.std.proofs.lemmas.Bool.Decides.{nat_tests}
use Rattle.std.proofs.lemmas.List.Elements.{All-cons, All-weaker}
use Rattle.std.proofs.lemmas.List.Folds.{list_any_none}
use Rattle.std.proofs.lemmas.List.Sorted.{IsPartitionedBy-ltb}
use Rattle.std.proofs.lemmas.List.Sums.{position_or_len_is}
use Rattle.rt_query.specs.Queries.{Query}
use Rattle.rt_cover.specs.Cover.{Registered}
use Rattle.rt_cover.specs.State.{is_registered, with_listener}
use Rattle.rt_cover.specs.inside.Places.{place}
use Rattle.rt_cover.specs.laws.Pairs.{AllPairs-first, AllPairs-rest, filter_none, filter_all}
use Rattle.rt_cover.proofs.StartLaws.{lt_true, lt_false}

-- ---- the place

never_fall : (ls : List Registered) → AllPairs (λ (l m : Registered). l.0 < m.0) ls → IsNonDecreasingBy (λ (l : Registered). l.0) ls
never_fall ls h i j d le lt =
    elim (ltb i j) as (λ b. ltb i j ≡ b → (slice_index_or ls i d).0 ≤ (slice_index_or ls j d).0) [
      | true ↦ λ e. let above : (slice_index_or ls i d).0 < (slice_index_or ls j d).0 = h i j d (ltb-true i j e) lt in omega (arith, above)
      | false ↦ λ e. let same : i ≡ j = omega (arith, le, ltb-false i j e) in
          let eq : (slice_index_or ls i d).0 ≡ (slice_index_or ls j d).0 = ap (λ k. (slice_index_or ls k d).0) same in omega (arith, eq)
    ] refl

-- the lesser ones stand before the others
pub lesser_first : (n : ℕ) (ls : List Registered) → AllPairs (λ (l m : Registered). l.0 < m.0) ls → IsPartitionedBy (λ (l : Registered). ltb l.0 n) ls
lesser_first n ls h = IsPartitionedBy-ltb (λ (l : Registered). l.0) ls n (never_fall ls h)

pub lesser : (m n : ℕ) → ltb m n ≡ true → nat_le n m ≡ false
lesser m n e = grind (arith, nat_tests)

pub no_lesser : (m n : ℕ) → ltb m n ≡ false → nat_le n m ≡ true
no_lesser m n e = grind (arith, nat_tests)

pub below : (m n : ℕ) → nat_le n m ≡ false → m < n
below m n e = grind (arith, nat_tests)

pub not_below : (m n : ℕ) → nat_le n m ≡ true → n ≤ m
not_below m n e = grind (arith, nat_tests)

-- the place between the lesser ones and the others
pub place_is : (n : ℕ) (ls : List Registered) (i : ℕ) → i ≤ length ls → IsPartitionPoint (λ (l : Registered). ltb l.0 n ≡ true) (λ (l : Registered). ltb l.0 n ≡ false) ls i → (d : Registered) → place n ls ≡ i
place_is n ls i le h d =
    position_or_len_is (λ (l : Registered). nat_le n l.0) ls i d le
    (λ k lt. lesser (slice_index_or ls k d).0 n (h.0 k d (omega arith) lt))
    (λ lt. no_lesser (slice_index_or ls i d).0 n (h.1 i d (omega arith) lt))

-- ---- who stands there

pub differs : (m n : ℕ) → m ≢ n → (m == n) ≡ false
differs m n h = elim (m == n) as (λ b. (m == n) ≡ b → b ≡ false) [
  | true ↦ λ e. absurd (h (eqb-true m n e))
  | false ↦ λ _. refl
] refl

none_above : (n : ℕ) (ls : List Registered) → All (λ (l : Registered). n < l.0) ls → is_registered ls n ≡ false
none_above n ls h = list_any_none (λ (l : Registered). l.0 == n) ls
    (All-weaker (λ (l : Registered). n < l.0) (λ (l : Registered). (l.0 == n) ≡ false) (λ l lt. differs l.0 n (λ e. omega (arith, lt, e))) ls h)

-- a number is registered where it stands at its place
pub at_place : (n : ℕ) (ls : List Registered) → AllPairs (λ (l m : Registered). l.0 < m.0) ls
    → option_map_or (λ (l : Registered). l.0 == n) (slice_get ls (place n ls)) false ≡ is_registered ls n
at_place n [] rise = refl
at_place n (l ∷ ls) rise =
    elim (nat_le n l.0) as (λ b. nat_le n l.0 ≡ b → option_map_or (λ (x : Registered). x.0 == n) (slice_get (l ∷ ls) (cond (not b) (1 + place n ls) 0)) false ≡ is_registered (l ∷ ls) n) [
      | true ↦ λ e. sym (ap (λ b. (l.0 == n) || b) (none_above n ls
          (All-weaker (λ (x : Registered). l.0 < x.0) (λ (x : Registered). n < x.0) (λ x lt. let le = not_below l.0 n e in omega (arith, lt, le)) ls
          (AllPairs-first (λ (x y : Registered). x.0 < y.0) l ls rise))) ∙ or_false (l.0 == n))
      | false ↦ λ e.
          ap (λ p. option_map_or (λ (x : Registered). x.0 == n) (slice_get (l ∷ ls) p) false) (sym (one_on (place n ls)))
          ∙ at_place n ls (AllPairs-rest (λ (x y : Registered). x.0 < y.0) l ls rise)
          ∙ sym (ap (λ b. b || is_registered ls n) (differs l.0 n (λ s. let lt = below l.0 n e in omega (arith, lt, s))))
    ] refl
  where
    one_on : (p : ℕ) → suc p ≡ 1 + p
    one_on p = omega arith

    or_false : (b : Bool) → (b || false) ≡ b
    or_false true = refl
    or_false false = refl

-- ---- the new listener

neither : (a b : Bool) → (a || b) ≡ false → (a ≡ false) × (b ≡ false)
neither true b e = absurd (true≢false e)
neither false b e = (refl, e)

pub insert_place : (n : ℕ) (f : Query) (ls : List Registered) → AllPairs (λ (l m : Registered). l.0 < m.0) ls → is_registered ls n ≡ false
    → insert ls (place n ls) (n, f) ≡ with_listener ls n f
insert_place n f [] rise free = refl
insert_place n f (l ∷ ls) rise free =
    elim (nat_le n l.0) as (λ b. nat_le n l.0 ≡ b → insert (l ∷ ls) (cond (not b) (1 + place n ls) 0) (n, f) ≡ with_listener (l ∷ ls) n f) [
      | true ↦ λ e. sym (λ i. none e i ++ (n, f) ∷ every e i)
      | false ↦ λ e. let lt : l.0 < n = below l.0 n e in
          ap (λ p. insert (l ∷ ls) p (n, f)) (sym (next (place n ls)))
          ∙ ap (λ z. l ∷ z) (insert_place n f ls (AllPairs-rest (λ (x y : Registered). x.0 < y.0) l ls rise) (neither (l.0 == n) (is_registered ls n) free).1)
          ∙ sym (λ i. cond (lt_true l.0 n lt i) (l ∷ filter (λ (x : Registered). nat_lt x.0 n) ls) (filter (λ (x : Registered). nat_lt x.0 n) ls)
          ++ (n, f) ∷ cond (lt_false n l.0 (omega (arith, lt)) i) (l ∷ filter (λ (x : Registered). nat_lt n x.0) ls) (filter (λ (x : Registered). nat_lt n x.0) ls))
    ] refl
  where
    next : (p : ℕ) → suc p ≡ 1 + p
    next p = omega arith

    above : nat_le n l.0 ≡ true → All (λ (x : Registered). n < x.0) (l ∷ ls)
    above e = All-cons (λ (x : Registered). n < x.0) l ls first
        (All-weaker (λ (x : Registered). l.0 < x.0) (λ (x : Registered). n < x.0) (λ x lt. omega (arith, first, lt)) ls
        (AllPairs-first (λ (x y : Registered). x.0 < y.0) l ls rise))
      where
        other : l.0 ≢ n
        other same = true≢false (sym (eq-eqb l.0 n same) ∙ (neither (l.0 == n) (is_registered ls n) free).0)

        first : n < l.0
        first = elim (ltb n l.0) as (λ b. ltb n l.0 ≡ b → n < l.0) [
          | true ↦ λ t. ltb-true n l.0 t
          | false ↦ λ t. absurd (other (omega (arith, not_below l.0 n e, ltb-false n l.0 t)))
        ] refl

    none : nat_le n l.0 ≡ true → filter (λ (x : Registered). nat_lt x.0 n) (l ∷ ls) ≡ []
    none e = filter_none (λ (x : Registered). nat_lt x.0 n) (l ∷ ls)
        (All-weaker (λ (x : Registered). n < x.0) (λ (x : Registered). nat_lt x.0 n ≡ false) (λ x lt. lt_false x.0 n (omega (arith, lt))) (l ∷ ls) (above e))

    every : nat_le n l.0 ≡ true → filter (λ (x : Registered). nat_lt n x.0) (l ∷ ls) ≡ l ∷ ls
    every e = filter_all (λ (x : Registered). nat_lt n x.0) (l ∷ ls)
        (All-weaker (λ (x : Registered). n < x.0) (λ (x : Registered). nat_lt n x.0 ≡ true) (λ x lt. lt_true n x.0 lt) (l ∷ ls) (above e))
