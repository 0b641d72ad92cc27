-- Which JSON data a tree is written as.
use Rattle.std.specs.Prelude.{ℕ, zero, suc, List, [], ◌∷◌, length, nat_lt, if◌then◌else◌, Option}
use Rattle.std.specs.Prelude.{Some, None}
use Rattle.serde_json.specs.Data.{Data, Members, no_members, member}
use Rattle.serde_json.specs.Data as json
use Rattle.serde_json.specs.Find.{of_integer}
use Rattle.rt_tree.specs.Leaf.{LeafValue, truth, number, text}
use Rattle.rt_tree.specs.Leaves.{Key}
use Rattle.rt_tree.specs.Trees.{PathTree, leaf_of, levels, children_of}
use Rattle.rt_tree.specs.Reading.{visits}
use Rattle.rt_tree.specs.declared.limits.TheConstants.{MAX_NODES}
use Rattle.rt_tree.specs.declared.error.TreeError.{TreeError}
use Rattle.rt_tree.specs.declared.error.TreeError.TheVariants.{TooManyNodes}

-- the data of a leaf
abbrev pub leaf_data : LeafValue → Data
leaf_data (truth b) = json.boolean b
leaf_data (number z) = json.number (of_integer z)
leaf_data (text s) = json.string s

-- a member for each child, of the data that f gives
abbrev pub members_with : (PathTree → Data) → List (Key × PathTree) → Members
members_with f [] = no_members
members_with f (e ∷ es) = member e.0 (f e.1) (members_with f es)

-- the object of these members; null where there are none
abbrev pub object_data : Members → Data
object_data no_members = json.null
object_data (member k d ms) = json.object (member k d ms)

-- the data of a leaf, if there is one, or else of the members
abbrev pub leaf_or : Option LeafValue → Members → Data
leaf_or (Some l) ms = leaf_data l
leaf_or None ms = object_data ms

-- the data of a tree that has at most n levels: members in the order of their keys' bytes
abbrev pub data_at : ℕ → PathTree → Data
data_at zero t = json.null
data_at (suc n) t = leaf_or (leaf_of t) (members_with (data_at n) (children_of t))

-- the data of a tree
unfoldable pub data_of : PathTree → Data
data_of t = data_at (levels t) t

-- how many values a tree is written as: itself and all that is in it
abbrev pub value_count : PathTree → ℕ
value_count t = length (visits 0 None (data_of t))

-- why a tree is not read back: only that it has more values than are read
abbrev pub back_fault : PathTree → Option TreeError
back_fault t = if nat_lt MAX_NODES (value_count t) then Some TooManyNodes else None
