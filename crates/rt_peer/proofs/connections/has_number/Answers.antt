use Rattle.std.proofs.Common.{◌≡◌, ◌≢◌, ◌≤◌, ◌<◌, ◌==◌, ◌||◌, ℕ, zero, suc, ◌+◌, Bool, true, false, List, [], ◌∷◌, length, get_or, ltb, ltb-true, ltb-false, eq-eqb, eqb-true, arith, refl, sym, ap, ◌∙◌}
use Rattle.std.specs.Prelude.{Result, Ok, Err}
use Rattle.std.specs.Ordering.{nat_cmp}
use Rattle.std.specs.List.Sorted.{IsBinarySearchResult}
use Rattle.std.specs.Result.{is_ok}
use Rattle.std.proofs.lemmas.List.Sorted.{searched}
use Rattle.rt_peer.specs.Peers.{is_known}
use Rattle.rt_peer.specs.inside.Rising.{RisesFrom}
use Rattle.rt_peer.proofs.connections.has_number.Goals as goal

-- each is at least where they begin
above : (n : ℕ) (xs : List ℕ) → RisesFrom n xs → (i : ℕ) → i < length xs → n ≤ get_or xs i 0
above n [] h i lt = absurd (omega (arith, lt))
above n (x ∷ xs) h zero lt = h.0
above n (x ∷ xs) h (suc i) lt =
    let rest = above (x + 1) xs h.1 i (omega (arith, lt)) in
    omega (arith, rest, h.0)

rising : (n : ℕ) (xs : List ℕ) → RisesFrom n xs → (i j : ℕ) → i ≤ j → j < length xs → get_or xs i 0 ≤ get_or xs j 0
rising n [] h i j le lt = absurd (omega (arith, lt))
rising n (x ∷ xs) h zero zero le lt = omega arith
rising n (x ∷ xs) h zero (suc j) le lt = let rest = above (x + 1) xs h.1 j (omega (arith, lt)) in omega (arith, rest)
rising n (x ∷ xs) h (suc i) zero le lt = absurd (omega (arith, le))
rising n (x ∷ xs) h (suc i) (suc j) le lt = rising (x + 1) xs h.1 i j (omega (arith, le)) (omega (arith, lt))

or_true : (b : Bool) → (b || true) ≡ true
or_true true = refl
or_true false = refl

differs : (m n : ℕ) → m ≢ n → (m == n) ≡ false
differs m n h = elim (m == n) as (λ b. (m == n) ≡ b → b ≡ false) [
  | true ↦ λ e. absurd (h (eqb-true m n e))
  | false ↦ λ e. refl
] refl

found : (xs : List ℕ) (x i : ℕ) → i < length xs → get_or xs i 0 ≡ x → is_known xs x ≡ true
found [] x i lt e = absurd (omega (arith, lt))
found (y ∷ ys) x zero lt e = ap (λ b. b || is_known ys x) (eq-eqb y x e)
found (y ∷ ys) x (suc i) lt e = ap (λ b. (y == x) || b) (found ys x i (omega (arith, lt)) e) ∙ or_true (y == x)

lacks : (xs : List ℕ) (x : ℕ) → ((k : ℕ) → k < length xs → get_or xs k 0 ≢ x) → is_known xs x ≡ false
lacks [] x h = refl
lacks (y ∷ ys) x h = (λ i. differs y x (h 0 (omega arith)) i || lacks ys x (λ k lt. h (suc k) (omega (arith, lt))) i)

decided : (xs : List ℕ) (x : ℕ) (r : Result ℕ ℕ) → RisesFrom 0 xs → IsBinarySearchResult (λ y. nat_cmp y x) xs r
    → is_ok r ≡ is_known xs x
decided xs x (Ok i) h s = let at = searched xs x (Ok i) s (rising 0 xs h) in sym (found xs x i at.0 at.1)
decided xs x (Err i) h s =
    let at = searched xs x (Err i) s (rising 0 xs h) in
    sym (lacks xs x (λ k lt same. elim (ltb k i) as (λ b. ltb k i ≡ b → ⊥) [
      | true ↦ λ e. let below = at.1 k (ltb-true k i e) in absurd (omega (arith, below, same))
      | false ↦ λ e. let beyond = at.2 k (omega (arith, ltb-false k i e)) lt in absurd (omega (arith, beyond, same))
    ] refl))

pub returns : goal.returns
returns c =
    c.is_ok.ensures.value
    ∙ decided c.args.numbers.now c.args.number c.binary_search.result c.requires c.binary_search.ensures.position
