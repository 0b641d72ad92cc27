-- The words of a line, as they stand there. JSON data are called Json: a Data is what the server
-- sends.
use Rattle.std.specs.Prelude.{ℕ, zero, suc, ◌==◌, nat_le, nat_lt, if◌then◌else◌, List, [], ◌∷◌, length}
use Rattle.std.specs.Prelude.{Option, Some, None, option_map, option_and_then}
use Rattle.serde_json.specs.Data.{Data as Json, Items, no_items, item}
use Rattle.serde_json.specs.Find.{as_array, as_number, as_str, as_u64}

-- a whole number of 64 bits
abbrev pub whole : Json → Option ℕ
whole d = option_and_then as_u64 (as_number d)

-- from 1 on
abbrev pub positive : ℕ → Option ℕ
positive zero = None
positive (suc n) = Some (suc n)

-- a seat
abbrev pub seat_in : Json → Option ℕ
seat_in d = option_and_then positive (whole d)

-- a number of 32 bits
abbrev pub small : ℕ → Option ℕ
small n = if nat_le n 4294967295 then Some n else None

-- how many rows a limit lets through
abbrev pub count_in : Json → Option ℕ
count_in d = option_and_then small (whole d)

-- a number of 8 bits
abbrev pub byte_in : Json → Option ℕ
byte_in d = option_and_then (λ n. if nat_lt n 256 then Some n else None) (whole d)

-- numbers of 8 bits, if each is one
abbrev pub bytes_of : List Json → Option (List ℕ)
bytes_of [] = Some []
bytes_of (d ∷ ds) =
    option_and_then (λ byte. option_map (λ bytes. byte ∷ bytes) (bytes_of ds)) (byte_in d)

-- the elements of an array, in order
abbrev pub elements : Items → List Json
elements no_items = []
elements (item d ds) = d ∷ elements ds

-- twelve numbers of 8 bits
abbrev pub twelve_of : List Json → Option (List ℕ)
twelve_of ds = if length ds == 12 then bytes_of ds else None

-- the random part of a push id
abbrev pub random_in : Json → Option (List ℕ)
random_in d = option_and_then (λ ds. twelve_of (elements ds)) (as_array d)

-- ---- a name, and the words behind it

abbrev pub split : List Json → Option (List ℕ × List Json)
split [] = None
split (name ∷ words) = option_map (λ n. (n, words)) (as_str name)

-- those of an array
abbrev pub parts_in : Json → Option (List ℕ × List Json)
parts_in d = option_and_then (λ ds. split (elements ds)) (as_array d)

-- what an array is, by its name and the words behind it
abbrev pub named_in : {A : Type 0} → (List ℕ → List Json → Option A) → Json → Option A
named_in named d = option_and_then (λ parts. named parts.0 parts.1) (parts_in d)
