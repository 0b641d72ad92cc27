-- Numbers of listeners in rising order, with one more and with one less.
use Rattle.std.specs.Prelude.{ℕ, nat_lt, ◌==◌, not, List, ◌∷◌, ◌++◌}
use Rattle.std.specs.List.{filter}

-- the numbers with one more, in its place
abbrev pub with_number : ℕ → List ℕ → List ℕ
with_number number numbers =
    filter (λ m. nat_lt m number) numbers ++ number ∷ filter (λ m. nat_lt number m) numbers

-- the numbers without one
abbrev pub without_number : ℕ → List ℕ → List ℕ
without_number number numbers = filter (λ m. not (m == number)) numbers
