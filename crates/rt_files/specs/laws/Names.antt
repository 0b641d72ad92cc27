-- No name leads out of a folder.
use Rattle.std.specs.Prelude.{◌≡◌, ℕ, List, Some, true}
use Rattle.rt_files.specs.Names.{are_names, file_of}
use Rattle.rt_files.specs.Places.{is_below, place_of}

-- the file that a path names has names between its slashes, none of which is `.` or `..`, and it stands below
-- the folder
abbrev pub NamesStay : Type 0
NamesStay =
    (path name folder : List ℕ) → file_of path ≡ Some name
    → (are_names name ≡ true) × (is_below folder (place_of folder name) ≡ true)
