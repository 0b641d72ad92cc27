-- What a write sets, and what it may not set.
use Rattle.std.specs.Prelude.{◌+◌, Bool, true, false, List, [], ◌∷◌, length, nat_lt}
use Rattle.rt_tree.specs.declared.limits.TheConstants.{MAX_LEVELS}
use Rattle.rt_tree.specs.PathTree.{levels}
use Rattle.rt_tree.specs.Assignments.{Assignment}
use Rattle.rt_wire.specs.declared.request.Action.{Action}
use Rattle.rt_wire.specs.declared.request.Action.TheVariants.{Put, Merge}

-- the paths and trees that an action sets
abbrev pub entries_of : Action → List Assignment
entries_of (Put path tree) = (path, tree) ∷ []
entries_of (Merge entries) = entries

-- an update without entries
abbrev pub is_empty_action : Action → Bool
is_empty_action (Put path tree) = false
is_empty_action (Merge []) = true
is_empty_action (Merge (a ∷ entries)) = false

-- whether a leaf of the entry would stand under too many keys: levels counts one more
abbrev pub stands_too_deep : Assignment → Bool
stands_too_deep a = nat_lt MAX_LEVELS (length a.0 + levels a.1)
