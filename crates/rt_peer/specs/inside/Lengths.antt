-- How long the text of an object is, by its children.
use Rattle.std.specs.Prelude.{ℕ, ◌+◌, List, [], ◌∷◌, length, Option, Some, None}
use Rattle.json.specs.Print.{quoted}
use Rattle.rt_tree.specs.Leaves.{Key}
use Rattle.rt_tree.specs.Trees.{PathTree}
use Rattle.rt_peer.specs.Lengths.{text_length}

-- what a child adds: its key in quotes, a colon, its text, and a comma or the closing bracket
abbrev pub entry_length : Key × PathTree → ℕ
entry_length e = length (quoted e.0) + 2 + text_length e.1

-- what all children add to the opening bracket
abbrev pub entries_length : List (Key × PathTree) → ℕ
entries_length [] = 0
entries_length (e ∷ es) = entry_length e + entries_length es

-- what the child at a key adds, if there is one
abbrev pub child_length : Key → Option PathTree → ℕ
child_length k None = 0
child_length k (Some t) = entry_length (k, t)
