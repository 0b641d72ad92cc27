-- Parts in a message: an array of at least one object, each with a tag and entries.
use Rattle.std.specs.Prelude.{ℕ, List, [], ◌∷◌, codes, Option, Some, option_map, option_and_then}
use Rattle.std.specs.Prelude.{Result, Ok, Err}
use Rattle.serde_json.specs.Data.{Data, Items, no_items, item}
use Rattle.serde_json.specs.Find.{as_array}
use Rattle.rt_tree.specs.PathTree.{Path}
use Rattle.rt_tree.specs.Assignments.{Assignment}
use Rattle.rt_wire.specs.declared.error.WireError.{WireError}
use Rattle.rt_wire.specs.Parts.{Part}
use Rattle.rt_wire.specs.Fields.{field, number_of, made}
use Rattle.rt_wire.specs.EntryFields.{some_of, entries_of, trees_of}

-- a part of which no value has been looked at: its tag, and the paths of its entries, each with its value
abbrev pub Unread : Type 0
Unread = ℕ × List (Path × Data)

abbrev pub part_of : Data → Option Unread
part_of d =
    option_and_then (λ tag. option_map (λ places. (tag, places)) (field entries_of (codes "entries") d))
    (field number_of (codes "tag") d)

-- each element's part, in order
abbrev pub all_parts : Items → Option (List Unread)
all_parts no_items = Some []
all_parts (item d ds) = option_and_then (λ p. option_map (λ ps. p ∷ ps) (all_parts ds)) (part_of d)

-- at least one
abbrev pub parts_of : Data → Option (List Unread)
parts_of d = option_and_then some_of (option_and_then all_parts (as_array d))

-- a part in front of others; a value that is no tree refuses them all
abbrev pub part_in_front : ℕ → Result (List Assignment) WireError → Result (List Part) WireError
    → Result (List Part) WireError
part_in_front tag (Err e) rest = Err e
part_in_front tag (Ok entries) rest = made rest (λ parts. (tag, entries) ∷ parts)

-- the parts, or the first value's refusal
abbrev pub part_trees : List Unread → Result (List Part) WireError
part_trees [] = Ok []
part_trees (p ∷ ps) = part_in_front p.0 (trees_of p.1) (part_trees ps)
