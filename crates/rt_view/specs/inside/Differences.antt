-- The children in which two trees differ.
use Rattle.std.specs.Prelude.{Bool, false, not, List, map, ◌++◌, Option, is_some}
use Rattle.std.specs.List.{filter}
use Rattle.std.specs.Option.{option_map_or}
use Rattle.rt_tree.specs.PathTree.{Key, PathTree, child_of, null}
use Rattle.rt_tree.specs.TreeEq.{tree_eq}

-- whether what stood at a key, if anything, is what stands there now
abbrev pub stays : Option PathTree → PathTree → Bool
stays old new = option_map_or (λ t. tree_eq t new) old false

-- whether no child has this one's key
abbrev pub is_gone : List (Key × PathTree) → Key × PathTree → Bool
is_gone new c = not (is_some (child_of new c.0))

-- whether this child doesn't stand at its key already
abbrev pub is_come : List (Key × PathTree) → Key × PathTree → Bool
is_come old c = not (stays (child_of old c.0) c.1)

-- these children, each null
abbrev pub emptied : List (Key × PathTree) → List (Key × PathTree)
emptied cs = map (λ c. (c.0, null)) cs

-- the old children whose keys are gone, each named null
abbrev pub gone : List (Key × PathTree) → List (Key × PathTree) → List (Key × PathTree)
gone old new = emptied (filter (is_gone new) old)

-- the new children that don't stand at their keys already
abbrev pub come : List (Key × PathTree) → List (Key × PathTree) → List (Key × PathTree)
come old new = filter (is_come old) new

-- the named children that turn the one into the other
abbrev pub differing : List (Key × PathTree) → List (Key × PathTree) → List (Key × PathTree)
differing old new = gone old new ++ come old new
