-- Elements of a list found by their numbers.
use Rattle.std.specs.Prelude.{ℕ, ◌==◌, List, [], ◌∷◌}
use Rattle.std.specs.List.{find}
use Rattle.std.specs.Option.{option_map_or}

-- for each of the numbers the first element that has it, where there is one
abbrev pub picked : {X : Type 0} → (X → ℕ) → List X → List ℕ → List X
picked key xs [] = []
picked key xs (n ∷ ns) =
    option_map_or (λ x. x ∷ picked key xs ns) (find (λ x. key x == n) xs) (picked key xs ns)
