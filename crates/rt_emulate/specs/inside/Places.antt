-- Where the guests of connections are.
use Rattle.std.specs.Prelude.{ℕ, zero, suc, List, Option, None}
use Rattle.std.specs.List.{slice_get}
use Rattle.std.specs.Option.{option_flatten}

-- the place of the guest of the connection of that number, from 1, if it has one
abbrev pub place_of : List (Option ℕ) → ℕ → Option ℕ
place_of places zero = None
place_of places (suc before) = option_flatten (slice_get places before)
