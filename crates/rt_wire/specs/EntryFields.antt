-- Entries in a message: an object of at least one member, from paths to trees.
use Rattle.std.specs.Prelude.{List, [], ◌∷◌, Option, Some, None, option_map, option_and_then}
use Rattle.std.specs.Prelude.{Result, Ok, Err}
use Rattle.serde_json.specs.Data.{Data, Members, no_members, member}
use Rattle.serde_json.specs.Find.{as_object}
use Rattle.rt_tree.specs.PathTree.{Path, PathTree}
use Rattle.rt_tree.specs.Assignments.{Assignment}
use Rattle.rt_wire.specs.declared.error.WireError.{WireError}
use Rattle.rt_wire.specs.Fields.{path_of_text, tree_of, made}

-- each member's path and value, in the order of the bytes of the names: two spellings of a path are
-- two members
abbrev pub places_of : Members → Option (List (Path × Data))
places_of no_members = Some []
places_of (member name d ms) =
    option_and_then (λ path. option_map (λ places. (path, d) ∷ places) (places_of ms))
    (path_of_text name)

-- at least one
abbrev pub some_of : {A : Type 0} → List A → Option (List A)
some_of [] = None
some_of (x ∷ xs) = Some (x ∷ xs)

-- the paths of the entries, each with its value, of which no one has been looked at
abbrev pub entries_of : Data → Option (List (Path × Data))
entries_of d = option_and_then some_of (option_and_then places_of (as_object d))

-- an entry in front of others; a value that is no tree refuses them all
abbrev pub in_front : Path → Result PathTree WireError → Result (List Assignment) WireError
    → Result (List Assignment) WireError
in_front path (Err e) rest = Err e
in_front path (Ok tree) rest = made rest (λ entries. (path, tree) ∷ entries)

-- the entries, or the first value's refusal
abbrev pub trees_of : List (Path × Data) → Result (List Assignment) WireError
trees_of [] = Ok []
trees_of (place ∷ places) = in_front place.0 (tree_of place.1) (trees_of places)
