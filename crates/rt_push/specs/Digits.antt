-- Numbers in base 64.
use Rattle.std.specs.Prelude.{ℕ, zero, suc, ◌+◌, ◌*◌, ◌/◌, ◌%◌, Bool, nat_lt, List, [], ◌∷◌, ◌++◌}
use Rattle.std.specs.Prelude.{map, codes, slice_index}
use Rattle.std.specs.List.{fold}

-- the digits by value, from 0 to 63; their bytes rise
abbrev pub alphabet : List ℕ
alphabet = codes "-0123456789ABCDEFGHIJKLMNOPQRSTUVWXYZ_abcdefghijklmnopqrstuvwxyz"

-- the byte of a digit of this value
unfoldable pub digit_byte : ℕ → ℕ
digit_byte value = slice_index alphabet value

-- a value that a digit has
abbrev pub is_digit : ℕ → Bool
is_digit value = nat_lt value 64

-- the number that digits write, most significant first
abbrev pub number : List ℕ → ℕ
number digits = fold (λ n value. 64 * n + value) 0 digits

-- the last digits of a number, so many of them, most significant first
unfoldable pub digits : ℕ → ℕ → List ℕ
digits zero n = []
digits (suc count) n = digits count (n / 64) ++ n % 64 ∷ []

-- their text
abbrev pub text : ℕ → ℕ → List ℕ
text count n = map digit_byte (digits count n)
