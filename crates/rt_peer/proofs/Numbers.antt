-- The least number that is not among rising ones.
use Rattle.std.proofs.Common.{◌≡◌, ℕ, ◌+◌, ◌<◌, ◌≤◌, ◌==◌, Bool, true, false, cond, not, ◌||◌, nat_lt}
use Rattle.std.proofs.Common.{List, [], ◌∷◌, ◌++◌, refl, sym, ap, subst, ◌∙◌, arith}
use Rattle.std.specs.List.{filter, fold}
use Rattle.std.proofs.lemmas.Bool.Decides.{nat_tests}
use Rattle.rt_peer.specs.Peers.{in_place, is_known}
use Rattle.rt_peer.specs.inside.Rising.{RisesFrom}

-- ---- tests

lt_of : (n m : ℕ) → nat_lt n m ≡ true → n < m
lt_of n m e = grind (arith, nat_tests)

le_of : (n m : ℕ) → nat_lt n m ≡ false → m ≤ n
le_of n m e = grind (arith, nat_tests)

lt_true : (n m : ℕ) → n < m → nat_lt n m ≡ true
lt_true n m h = grind (arith, nat_tests)

eq_of : (m n : ℕ) → (m == n) ≡ true → m ≡ n
eq_of m n e = grind (arith, nat_tests)

above_of : (n m : ℕ) → (m == n) ≡ false → n ≤ m → n + 1 ≤ m
above_of n m e h = grind (arith, nat_tests)

below_of : (n m : ℕ) → (m == n) ≡ false → m ≤ n → m + 1 ≤ n
below_of n m e h = grind (arith, nat_tests)

below_other : (m n : ℕ) → m < n → (m == n) ≡ false
below_other m n h = grind (arith, nat_tests)

above_other : (m n : ℕ) → n < m → (m == n) ≡ false
above_other m n h = grind (arith, nat_tests)

same_true : (m n : ℕ) → m ≡ n → (m == n) ≡ true
same_true m n h = grind (arith, nat_tests)

either_false : (a b : Bool) → a ≡ false → b ≡ false → (a || b) ≡ false
either_false a b e f = cc (ap (λ x. x || b) e)

second_true : (a b : Bool) → b ≡ true → (a || b) ≡ true
second_true true b e = refl
second_true false b e = e

first_false : (a b : Bool) → (a || b) ≡ false → a ≡ false
first_false true b e = e
first_false false b e = refl

second_false : (a b : Bool) → (a || b) ≡ false → b ≡ false
second_false true b e = cc
second_false false b e = e

-- ---- rising numbers

-- they rise from any lesser number
pub rises_lower : (n k : ℕ) (ms : List ℕ) → n ≤ k → RisesFrom k ms → RisesFrom n ms
rises_lower n k [] le h = tt
rises_lower n k (m ∷ ms) le h = (omega (arith, h.0), h.1)

pub rises-filter : (p : ℕ → Bool) (n : ℕ) (ms : List ℕ) → RisesFrom n ms → RisesFrom n (filter p ms)
rises-filter p n [] h = tt
rises-filter p n (m ∷ ms) h =
    let rest = rises-filter p (m + 1) ms h.1 in
    elim (p m) as (λ b. RisesFrom n (cond b (m ∷ filter p ms) (filter p ms))) [
      | true ↦ (h.0, rest)
      | false ↦ rises_lower n (m + 1) (filter p ms) (omega (arith, h.0)) rest
    ]

-- none of them is below where they begin
pub not_known : (n k : ℕ) (ms : List ℕ) → n < k → RisesFrom k ms → is_known ms n ≡ false
not_known n k [] lt h = refl
not_known n k (m ∷ ms) lt h =
    either_false (m == n) (is_known ms n) (above_other m n (omega (arith, h.0)))
    (not_known n (m + 1) ms (omega (arith, h.0)) h.1)

-- ---- the least free number, from n

pub free_from : ℕ → List ℕ → ℕ
free_from n ms = fold (λ k m. cond (m == k) (k + 1) k) n ms

unfolded : (n m : ℕ) (ms : List ℕ) → free_from n (m ∷ ms) ≡ free_from (cond (m == n) (n + 1) n) ms
unfolding free_from
unfolded n m ms = refl

ended : (n : ℕ) → free_from n [] ≡ n
unfolding free_from
ended n = refl

pub free_from-fold : (ms : List ℕ) → free_from 1 ms ≡ fold (λ k m. cond (m == k) (k + 1) k) 1 ms
unfolding free_from
free_from-fold ms = refl

-- where all are above n, it is n
stays : (n : ℕ) (ms : List ℕ) → RisesFrom (n + 1) ms → free_from n ms ≡ n
stays n [] h = ended n
stays n (m ∷ ms) h =
    unfolded n m ms
    ∙ ap (λ b. free_from (cond b (n + 1) n) ms) (above_other m n (omega (arith, h.0)))
    ∙ stays n ms (rises_lower (n + 1) (m + 1) ms (omega (arith, h.0)) h.1)

-- one step, by whether the first is n
found : (n m : ℕ) (ms : List ℕ) → (m == n) ≡ true → free_from n (m ∷ ms) ≡ free_from (n + 1) ms
found n m ms e = unfolded n m ms ∙ ap (λ b. free_from (cond b (n + 1) n) ms) e

-- what is known of it
pub record IsLeastFree (n : ℕ) (ms : List ℕ) (r : ℕ) : Type 0 where
  pub from : n ≤ r
  pub fresh : is_known ms r ≡ false
  pub least : (k : ℕ) → n ≤ k → k < r → is_known ms k ≡ true

next : (n m : ℕ) (ms : List ℕ) → m ≡ n → IsLeastFree (n + 1) ms (free_from (n + 1) ms)
    → IsLeastFree n (m ∷ ms) (free_from (n + 1) ms)
next n m ms e h = record {
  from = omega (arith, h.from);
  fresh = either_false (m == free_from (n + 1) ms) (is_known ms (free_from (n + 1) ms))
      (below_other m (free_from (n + 1) ms) (omega (arith, h.from))) h.fresh;
  least = λ k le lt.
      elim (m == k) as (λ b. (m == k) ≡ b → (b || is_known ms k) ≡ true) [
        | true ↦ λ f. refl
        | false ↦ λ f. h.least k (above_of n k (k_is k f) le) lt
      ] refl;
}
  where
    k_is : (k : ℕ) → (m == k) ≡ false → (k == n) ≡ false
    k_is k f = grind (arith, nat_tests)

pub least_free_from : (n : ℕ) (ms : List ℕ) → RisesFrom n ms → IsLeastFree n ms (free_from n ms)
least_free_from n [] h =
    let P : ℕ → Type 0 = λ r. IsLeastFree n [] r in
    subst P (sym (ended n)) (record {
      from = omega arith;
      fresh = refl;
      least = λ k le lt. absurd (omega arith);
    })
least_free_from n (m ∷ ms) h =
    elim (m == n) as (λ b. (m == n) ≡ b → IsLeastFree n (m ∷ ms) (free_from n (m ∷ ms))) [
      | true ↦ λ e.
          let P : ℕ → Type 0 = λ r. IsLeastFree n (m ∷ ms) r in
          subst P (sym (found n m ms e)) (next n m ms (eq_of m n e)
          (least_free_from (n + 1) ms (rises_lower (n + 1) (m + 1) ms (omega (arith, h.0)) h.1)))
      | false ↦ λ e.
          let above : n + 1 ≤ m = above_of n m e h.0 in
          let all : RisesFrom (n + 1) (m ∷ ms) = (above, h.1) in
          let P : ℕ → Type 0 = λ r. IsLeastFree n (m ∷ ms) r in
          subst P (sym (stays n (m ∷ ms) all)) (record {
            from = omega arith;
            fresh = not_known n (n + 1) (m ∷ ms) (omega arith) all;
            least = λ k le lt. absurd (omega arith);
          })
    ] refl

-- ---- a number in its place

none_below : (n : ℕ) (ms : List ℕ) → RisesFrom (n + 1) ms → filter (λ y. not (nat_lt n y)) ms ≡ []
none_below n [] h = refl
none_below n (m ∷ ms) h =
    ap (λ b. cond (not b) (m ∷ filter (λ y. not (nat_lt n y)) ms) (filter (λ y. not (nat_lt n y)) ms))
    (lt_true n m (omega (arith, h.0)))
    ∙ none_below n ms (rises_lower (n + 1) (m + 1) ms (omega (arith, h.0)) h.1)

all_above : (n : ℕ) (ms : List ℕ) → RisesFrom (n + 1) ms → filter (nat_lt n) ms ≡ ms
all_above n [] h = refl
all_above n (m ∷ ms) h =
    ap (λ b. cond b (m ∷ filter (nat_lt n) ms) (filter (nat_lt n) ms))
    (lt_true n m (omega (arith, h.0)))
    ∙ ap (λ rest. m ∷ rest) (all_above n ms (rises_lower (n + 1) (m + 1) ms (omega (arith, h.0)) h.1))

pub rises-in_place : (k n : ℕ) (ms : List ℕ) → k ≤ n → RisesFrom k ms → is_known ms n ≡ false
    → RisesFrom k (in_place nat_lt n ms)
rises-in_place k n [] le h fresh = (le, tt)
rises-in_place k n (m ∷ ms) le h fresh =
    elim (nat_lt n m) as (λ b. nat_lt n m ≡ b → RisesFrom k
    (cond (not b) (m ∷ filter (λ y. not (nat_lt n y)) ms) (filter (λ y. not (nat_lt n y)) ms)
    ++ n ∷ cond b (m ∷ filter (nat_lt n) ms) (filter (nat_lt n) ms))) [
      | true ↦ λ e.
          let above : RisesFrom (n + 1) ms = rises_lower (n + 1) (m + 1) ms (omega (arith, lt_of n m e)) h.1 in
          let P : List ℕ → Type 0 = λ xs. RisesFrom k (xs ++ n ∷ m ∷ filter (nat_lt n) ms) in
          let Q : List ℕ → Type 0 = λ xs. RisesFrom k (n ∷ m ∷ xs) in
          subst P (sym (none_below n ms above)) (subst Q (sym (all_above n ms above))
          (le, (omega (arith, lt_of n m e), h.1)))
      | false ↦ λ e.
          let below : m + 1 ≤ n =
          below_of n m (first_false (m == n) (is_known ms n) fresh) (le_of n m e) in
          (h.0, rises-in_place (m + 1) n ms below h.1 (second_false (m == n) (is_known ms n) fresh))
    ] refl
