-- Paths, trees, entries and parts of a line; each that is no path or no tree refuses the line.
use Rattle.std.specs.Prelude.{ℕ, List, [], ◌∷◌, Option, Some, None, Result, Ok, Err}
use Rattle.std.specs.Option.{option_map_or}
use Rattle.serde_json.specs.Data.{Data as Json, Members, no_members, member}
use Rattle.rt_tree.specs.declared.error.TreeError.{TreeError}
use Rattle.rt_tree.specs.Assignments.{Assignment}
use Rattle.rt_tree.specs.Path.{path_keys, path_fault}
use Rattle.rt_tree.specs.PathTree.{Path, PathTree, leaf_of, null}
use Rattle.rt_tree.specs.Reading.{tree_of_data, data_fault}
use Rattle.rt_order.specs.declared.cut.Mark.{Mark}
use Rattle.rt_order.specs.declared.cut.Mark.TheVariants as mark
use Rattle.rt_wire.specs.Parts.{Part}
use Rattle.rt_wire.specs.declared.request.Action.{Action}
use Rattle.rt_wire.specs.declared.request.Action.TheVariants.{Put, Merge}
use Rattle.rt_lines.specs.declared.error.LineError.{LineError}
use Rattle.rt_lines.specs.declared.error.LineError.TheVariants.{Refused}
use Rattle.rt_lines.specs.declared.error.Refusal.TheVariants.{Tree}
use Rattle.rt_lines.specs.Forms.{Written, Set, Update, Remove}

-- what follows on what was read
abbrev pub and_then : {A B : Type 0} → Result A LineError → (A → Result B LineError)
    → Result B LineError
and_then (Err e) f = Err e
and_then (Ok x) f = f x

-- what has no fault
abbrev pub unless : {A : Type 0} → Option TreeError → A → Result A LineError
unless None x = Ok x
unless (Some e) x = Err (Refused (Tree e))

-- a path, in any spelling
abbrev pub path_in : List ℕ → Result Path LineError
path_in text = unless (path_fault text) (path_keys text)

-- a tree
abbrev pub tree_in : Json → Result PathTree LineError
tree_in d = unless (data_fault d) (tree_of_data d)

-- a value of a bound: null, or the leaf that the value is
abbrev pub mark_in : Json → Result Mark LineError
mark_in d = and_then (tree_in d) (λ t. Ok (option_map_or mark.Leaf (leaf_of t) mark.Null))

-- an entry in front of others
abbrev pub in_front : Path → PathTree → Result (List Assignment) LineError
    → Result (List Assignment) LineError
in_front path tree rest = and_then rest (λ entries. Ok ((path, tree) ∷ entries))

-- entries, in the order of the bytes of the members' names: of each the path comes first, then the
-- tree
abbrev pub entries_in : Members → Result (List Assignment) LineError
entries_in no_members = Ok []
entries_in (member name d ms) =
    and_then (path_in name) (λ path. and_then (tree_in d) (λ tree. in_front path tree (entries_in ms)))

-- parts, in their order: of each the entries
abbrev pub parts_read : List (ℕ × Members) → Result (List Part) LineError
parts_read [] = Ok []
parts_read (p ∷ ps) =
    and_then (entries_in p.1) (λ entries. and_then (parts_read ps) (λ parts. Ok ((p.0, entries) ∷ parts)))

-- what a write sets
abbrev pub action_in : Written → Result Action LineError
action_in (Set path value) = and_then (path_in path) (λ p. and_then (tree_in value) (λ t. Ok (Put p t)))
action_in (Update ms) = and_then (entries_in ms) (λ entries. Ok (Merge entries))
action_in (Remove path) = and_then (path_in path) (λ p. Ok (Put p null))
