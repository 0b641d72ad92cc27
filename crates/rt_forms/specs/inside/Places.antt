-- Where a number stands among numbers that rise.
use Rattle.std.specs.Prelude.{ℕ, ◌<◌, nat_le, List, [], ◌∷◌}
use Rattle.std.specs.List.{position_or_len}

-- each number of the list is above this one
abbrev pub AllAbove : ℕ → List ℕ → Type 0
AllAbove n [] = Unit {0}
AllAbove n (m ∷ ms) = (n < m) × AllAbove n ms

-- each number is below all behind it
abbrev pub Rises : List ℕ → Type 0
Rises [] = Unit {0}
Rises (n ∷ ns) = AllAbove n ns × Rises ns

-- the first place at which no lesser number stands
abbrev pub place : ℕ → List ℕ → ℕ
place number numbers = position_or_len (λ m. nat_le number m) numbers
