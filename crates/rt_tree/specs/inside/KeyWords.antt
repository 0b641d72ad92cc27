-- The first bytes of a key as numbers, which are compared before its text is read.
use Rattle.std.specs.Prelude.{◌≡◌, ℕ, zero, suc, ◌<◌, ◌+◌, ◌*◌, List, [], ◌∷◌, drop}

-- w is a with n more bytes behind it: those of the list, and 0 for each that is missing
abbrev pub IsPacked : ℕ → ℕ → List ℕ → ℕ → Type 0
IsPacked a zero bs w = w ≡ a
IsPacked a (suc n) [] w = IsPacked (a * 256) n [] w
IsPacked a (suc n) (b ∷ bs) w = (b < 256) × IsPacked (a * 256 + b) n bs w

-- w has the first eight bytes, the first of them highest
abbrev pub IsWord : List ℕ → ℕ → Type 0
IsWord bs w = IsPacked 0 8 bs w

-- the first eight bytes, and the next eight
abbrev pub HasWords : List ℕ → ℕ → ℕ → Type 0
HasWords bs head next = IsWord bs head × IsWord (drop 8 bs) next
