-- Which file of a folder a path names.
use Rattle.std.specs.Prelude.{ℕ, List, [], ◌∷◌, ◌++◌, Bool, false, not, ◌==◌, ◌||◌, length, if◌then◌else◌, codes, nat_eq}
use Rattle.std.specs.Prelude.{Option, Some, None}
use Rattle.std.specs.List.{ends_with, list_all, slice_split}
use Rattle.std.specs.Option.{option_and_then}

-- a slash
abbrev pub is_slash : ℕ → Bool
is_slash b = b == 47

-- a text between slashes that is a name: some bytes, with no dot in front, so neither `.` nor `..`
abbrev pub is_name : List ℕ → Bool
is_name [] = false
is_name (b ∷ bs) = not (b == 46)

-- a text whose texts between slashes are names
abbrev pub are_names : List ℕ → Bool
are_names text = list_all is_name (slice_split is_slash text)

-- what stands behind a slash at the front
abbrev pub behind_slash : List ℕ → Option (List ℕ)
behind_slash [] = None
behind_slash (b ∷ bs) = if b == 47 then Some bs else None

-- a text that is a folder's: an empty one, or one with a slash at its end
abbrev pub ends_as_folder : List ℕ → Bool
ends_as_folder text = length text == 0 || ends_with nat_eq text (codes "/")

-- the text, with the file that stands for a folder where it is a folder's
abbrev pub whole : List ℕ → List ℕ
whole text = if ends_as_folder text then text ++ codes "index.html" else text

-- the text, where its texts between slashes are names
abbrev pub named : List ℕ → Option (List ℕ)
named text = if are_names text then Some text else None

-- the file that a path names, as names between slashes
abbrev pub file_of : List ℕ → Option (List ℕ)
file_of path = option_and_then (λ text. named (whole text)) (behind_slash path)
