-- What the fields of a head say: each is a name and a value, without white space around it.
use Rattle.std.specs.Prelude.{ℕ, List, [], ◌∷◌, Bool, ◌&&◌, if◌then◌else◌, Option, Some, None, Result, Ok, Err}
use Rattle.std.specs.List.{list_any}
use Rattle.std.specs.Str.{str_eq_ignore_ascii_case}
use Rattle.rt_http.specs.declared.fault.Refusal.{Refusal}
use Rattle.rt_http.specs.declared.fault.Refusal.TheVariants.{Malformed}

-- a field of that name, in capitals or not
abbrev pub is_named : List ℕ → List ℕ × List ℕ → Bool
is_named name field = str_eq_ignore_ascii_case field.0 name

-- whether there is a field of that name
abbrev pub is_there : List ℕ → List (List ℕ × List ℕ) → Bool
is_there name fields = list_any (is_named name) fields

-- whether a field of that name has that value, in capitals or not
abbrev pub does_say : List ℕ → List ℕ → List (List ℕ × List ℕ) → Bool
does_say name word fields =
    list_any (λ field. is_named name field && str_eq_ignore_ascii_case field.1 word) fields

-- the values of the fields of that name
abbrev pub values_of : List ℕ → List (List ℕ × List ℕ) → List (List ℕ)
values_of name [] = []
values_of name (field ∷ fields) =
    if is_named name field then field.1 ∷ values_of name fields else values_of name fields

-- the one value, if there is any; several are refused
abbrev pub only : List (List ℕ) → Result (Option (List ℕ)) Refusal
only [] = Ok None
only (value ∷ []) = Ok (Some value)
only (value ∷ other ∷ values) = Err Malformed
