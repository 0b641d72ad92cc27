-- Lists.
use Rattle.std.proofs.Common.{◌≡◌, ℕ, zero, suc, ◌≤◌, List, [], ◌∷◌, length, take, refl, ap, arith}

-- as many as there are, or more
pub taken_all : {X : Type 0} (n : ℕ) (xs : List X) → length xs ≤ n → take n xs ≡ xs
taken_all zero [] le = refl
taken_all (suc n) [] le = refl
taken_all zero (x ∷ xs) le = absurd (omega (arith, le))
taken_all (suc n) (x ∷ xs) le = ap (λ ys. x ∷ ys) (taken_all n xs (omega (arith, le)))
