-- Where a file stands.
use Rattle.std.specs.Prelude.{ℕ, List, ◌++◌, Bool, ◌&&◌, length, drop, codes, nat_eq}
use Rattle.std.specs.List.{starts_with}

-- the place of a file below a folder
abbrev pub place_of : List ℕ → List ℕ → List ℕ
place_of folder name = folder ++ codes "/" ++ name

-- a place that begins with a folder's, and goes on with a slash
abbrev pub is_below : List ℕ → List ℕ → Bool
is_below folder place =
    starts_with nat_eq place folder && starts_with nat_eq (drop (length folder) place) (codes "/")
