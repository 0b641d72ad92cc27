use Rattle.std.proofs.Common.{◌≡◌, ◌≢◌, ◌≤◌, ◌<◌, ◌==◌, ◌||◌, ℕ, zero, suc, Bool, true, false, List, [], ◌∷◌, length, get_or, ltb, ltb-true, ltb-false, eq-eqb, arith, refl, sym, ap, subst, ◌∙◌}
use Rattle.std.specs.Prelude.{Result, Ok, Err}
use Rattle.std.specs.Ordering.{nat_cmp}
use Rattle.std.specs.List.{list_any, AllPairs}
use Rattle.std.specs.List.Sorted.{IsBinarySearchResult}
use Rattle.std.specs.Result.{is_ok}
use Rattle.std.proofs.lemmas.List.Sorted.{searched}
use Rattle.rt_cover.proofs.PlaceLaws.{differs}
use Rattle.rt_cover.proofs.listeners.Sorted.has.Goals as goal

rising : (xs : List ℕ) → AllPairs (λ m n. m < n) xs → (i j : ℕ) → i ≤ j → j < length xs → get_or xs i 0 ≤ get_or xs j 0
rising xs h i j le lt =
    elim (ltb i j) as (λ b. ltb i j ≡ b → get_or xs i 0 ≤ get_or xs j 0) [
      | true ↦ λ e. let above : get_or xs i 0 < get_or xs j 0 = h i j 0 (ltb-true i j e) lt in omega (arith, above)
      | false ↦ λ e.
          let same : i ≡ j = omega (arith, le, ltb-false i j e) in
          let eq : get_or xs i 0 ≡ get_or xs j 0 = ap (λ k. get_or xs k 0) same in omega (arith, eq)
    ] refl

or_true : (b : Bool) → (b || true) ≡ true
or_true true = refl
or_true false = refl

found : (xs : List ℕ) (x i : ℕ) → i < length xs → get_or xs i 0 ≡ x → list_any (λ n. n == x) xs ≡ true
found [] x i lt e = absurd (omega (arith, lt))
found (y ∷ ys) x zero lt e = ap (λ b. b || list_any (λ n. n == x) ys) (eq-eqb y x e)
found (y ∷ ys) x (suc i) lt e = ap (λ b. (y == x) || b) (found ys x i (omega (arith, lt)) e) ∙ or_true (y == x)

lacks : (xs : List ℕ) (x : ℕ) → ((k : ℕ) → k < length xs → get_or xs k 0 ≢ x) → list_any (λ n. n == x) xs ≡ false
lacks [] x h = refl
lacks (y ∷ ys) x h = (λ i. differs y x (h 0 (omega arith)) i || lacks ys x (λ k lt. h (suc k) (omega (arith, lt))) i)

decided : (xs : List ℕ) (x : ℕ) (r : Result ℕ ℕ) → AllPairs (λ m n. m < n) xs → IsBinarySearchResult (λ y. nat_cmp y x) xs r → is_ok r ≡ list_any (λ n. n == x) xs
decided xs x (Ok i) h s = let at = searched xs x (Ok i) s (rising xs h) in sym (found xs x i at.0 at.1)
decided xs x (Err i) h s =
    let at = searched xs x (Err i) s (rising xs h) in
    sym (lacks xs x (λ k lt same. elim (ltb k i) as (λ b. ltb k i ≡ b → ⊥) [
      | true ↦ λ e. let below = at.1 k (ltb-true k i e) in absurd (omega (arith, below, same))
      | false ↦ λ e. let above = at.2 k (omega (arith, ltb-false k i e)) lt in absurd (omega (arith, above, same))
    ] refl))

pub returns : goal.returns
returns c =
    c.is_ok.ensures.value
    ∙ decided c.self.inside.items.items c.args.number c.binary_search.result c.self.invariant
    (subst (λ xs. IsBinarySearchResult (λ y. nat_cmp y c.args.number) xs c.binary_search.result) c.deref.ensures.value c.binary_search.ensures.position)
    ∙ ap (list_any (λ n. n == c.args.number)) c.self.view_is
