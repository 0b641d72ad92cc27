-- The order of keys: integer keys by number, then the others by bytes.
use Rattle.std.specs.Prelude.{ℕ, ◌-◌, ◌+◌, ◌*◌, ◌&&◌, if◌then◌else◌, List, [], ◌∷◌, length, ℤ, pos}
use Rattle.std.specs.Prelude.{negsuc, neg_ℤ, ◌==◌, int_le, Option, Some, None}
use Rattle.std.specs.declared.cmp.Ordering.{Ordering}
use Rattle.std.specs.declared.cmp.Ordering.TheVariants.{Less, Greater}
use Rattle.std.specs.List.{fold, list_all}
use Rattle.std.specs.Option.{option_map}
use Rattle.std.specs.Char.{is_ascii_digit}
use Rattle.std.specs.Ordering.{ordering_then, nat_cmp, int_cmp}
use Rattle.std.specs.Cmp.Lexicographic.{slice_cmp}
use Rattle.rt_tree.specs.PathTree.{Key}

-- by bytes
abbrev pub bytes_cmp : List ℕ → List ℕ → Ordering
bytes_cmp = slice_cmp nat_cmp

-- the number that decimal digits write
abbrev pub decimal : List ℕ → ℕ
decimal digits = fold (λ n digit. 10 * n + (digit - 48)) 0 digits

-- the number of a text of one or more digits
abbrev pub digits_value : List ℕ → Option ℕ
digits_value [] = None
digits_value (d ∷ ds) = if list_all is_ascii_digit (d ∷ ds) then Some (decimal (d ∷ ds)) else None

-- the number of a text of an optional minus and one or more digits
abbrev pub numeral_value : List ℕ → Option ℤ
numeral_value [] = None
numeral_value (c ∷ cs) =
    if c == 45 then option_map (λ n. neg_ℤ (pos n)) (digits_value cs)
    else option_map pos (digits_value (c ∷ cs))

-- the number, where it lies in -2147483648 to 2147483647
abbrev pub within_32_bits : Option ℤ → Option ℤ
within_32_bits None = None
within_32_bits (Some n) = if int_le (negsuc 2147483647) n
    && int_le n (pos 2147483647) then Some n else None

-- the number of an integer key
abbrev pub integer_of : Key → Option ℤ
integer_of key = within_32_bits (numeral_value key)

-- integer keys come first, by number, then length, then bytes; other keys follow, by bytes
abbrev pub key_cmp_by : Option ℤ → Option ℤ → Key → Key → Ordering
key_cmp_by (Some m) (Some n) a b =
    ordering_then (int_cmp m n) (ordering_then (nat_cmp (length a) (length b)) (bytes_cmp a b))
key_cmp_by (Some m) None a b = Less
key_cmp_by None (Some n) a b = Greater
key_cmp_by None None a b = bytes_cmp a b

-- the order of keys
abbrev pub key_cmp : Key → Key → Ordering
key_cmp a b = key_cmp_by (integer_of a) (integer_of b) a b
