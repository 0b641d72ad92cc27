-- Which handshakes are of another protocol: those of a Firebase SDK, which asks for `/.ws?v=5&ns=NAME`.
use Rattle.std.specs.Prelude.{ℕ, List, Bool, false, ◌&&◌, ◌||◌, ◌==◌, Option, codes}
use Rattle.std.specs.List.{list_any, slice_split, starts_with}
use Rattle.std.specs.Option.{option_map_or}
use Rattle.std.specs.Str.{bytes_eq}

abbrev pub is_same : ℕ → ℕ → Bool
is_same a b = a == b

-- a parameter that says the version of the SDK's protocol, or names a database
abbrev pub is_sdk_parameter : List ℕ → Bool
is_sdk_parameter parameter = bytes_eq parameter (codes "v=5") || starts_with is_same parameter (codes "ns=")

-- a query with such a parameter: its parameters stand between `&`s
abbrev pub is_sdk_query : List ℕ → Bool
is_sdk_query query = list_any is_sdk_parameter (slice_split (λ b. b == 38) query)

-- the path `/.ws`, with such a query
abbrev pub is_of_sdk : List ℕ → Option (List ℕ) → Bool
is_of_sdk path query = bytes_eq path (codes "/.ws") && option_map_or is_sdk_query query false
