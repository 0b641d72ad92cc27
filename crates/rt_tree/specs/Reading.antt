-- Which tree JSON data is, and why data is refused as a tree.
use Rattle.std.specs.Prelude.{ℕ, suc, ℤ, int_lt, ◌≡◌, ◌||◌, List, [], ◌∷◌, ◌++◌, length, nat_le, nat_lt}
use Rattle.std.specs.Prelude.{if◌then◌else◌, Option, Some, None, Result, Ok, Err, decimal}
use Rattle.std.specs.List.{AllByRecursion}
use Rattle.std.specs.Option.{option_or, option_map_or}
use Rattle.std.specs.Result.{result_err}
use Rattle.serde_json.specs.Data.{Data, Num, Items, Members, no_items, item, no_members, member}
use Rattle.serde_json.specs.Data as json
use Rattle.serde_json.specs.Find.{as_i64}
use Rattle.serde_json.specs.Read.{read}
use Rattle.rt_tree.specs.Leaf.{truth, number, text}
use Rattle.rt_tree.specs.Key.{key_fault}
use Rattle.rt_tree.specs.Leaves.{Key}
use Rattle.rt_tree.specs.Trees.{PathTree, null, of_leaf, object}
use Rattle.rt_tree.specs.declared.limits.TheConstants.{MAX_KEYS, MAX_NODES, MAX_TEXT_BYTES}
use Rattle.rt_tree.specs.declared.limits.TheConstants.{MIN_WHOLE, MAX_WHOLE}
use Rattle.rt_tree.specs.declared.error.TreeError.{TreeError}
use Rattle.rt_tree.specs.declared.error.TreeError.TheVariants.{TooDeep, NotWhole, TextTooLong}
use Rattle.rt_tree.specs.declared.error.TreeError.TheVariants.{TooManyNodes, NotJson}

-- ---- the tree

-- the leaf of a number of 64 bits
abbrev pub number_tree : Option ℤ → PathTree
number_tree None = null
number_tree (Some z) = of_leaf (number z)

-- the tree that data is: an element has its place as its key
abbrev mutual
  pub tree_of_data : Data → PathTree
  tree_of_data json.null = null
  tree_of_data (json.boolean b) = of_leaf (truth b)
  tree_of_data (json.number n) = number_tree (as_i64 n)
  tree_of_data (json.string s) = of_leaf (text s)
  tree_of_data (json.array ds) = object (item_trees 0 ds)
  tree_of_data (json.object ms) = object (member_trees ms)

  -- the first at place i
  pub item_trees : ℕ → Items → List (Key × PathTree)
  item_trees i no_items = []
  item_trees i (item d ds) = (decimal i, tree_of_data d) ∷ item_trees (suc i) ds

  pub member_trees : Members → List (Key × PathTree)
  member_trees no_members = []
  member_trees (member k d ms) = (k, tree_of_data d) ∷ member_trees ms

-- ---- the walk

-- a value in its place: the number of keys above it, its name where it is a member, and the value
pub data Visit : Type 0 where
  visit : ℕ → Option (List ℕ) → Data → Visit

-- the value and all that is in it, each before what is in it, elements in order, members by the
-- bytes of their names
abbrev mutual
  pub visits : ℕ → Option (List ℕ) → Data → List Visit
  visits level name json.null = visit level name json.null ∷ []
  visits level name (json.boolean b) = visit level name (json.boolean b) ∷ []
  visits level name (json.number n) = visit level name (json.number n) ∷ []
  visits level name (json.string s) = visit level name (json.string s) ∷ []
  visits level name (json.array ds) = visit level name (json.array ds) ∷ item_visits (suc level) ds
  visits level name (json.object ms) = visit level name (json.object ms) ∷ member_visits (suc level) ms

  pub item_visits : ℕ → Items → List Visit
  item_visits level no_items = []
  item_visits level (item d ds) = visits level None d ++ item_visits level ds

  pub member_visits : ℕ → Members → List Visit
  member_visits level no_members = []
  member_visits level (member k d ms) = visits level (Some k) d ++ member_visits level ms

-- why a name is no key
abbrev pub name_fault : Option (List ℕ) → Option TreeError
name_fault None = None
name_fault (Some k) = key_fault k

-- why a number is no leaf
abbrev pub number_fault : Option ℤ → Option TreeError
number_fault None = Some NotWhole
number_fault (Some z) = if int_lt z MIN_WHOLE || int_lt MAX_WHOLE z then Some NotWhole else None

-- why a value by itself is refused
abbrev pub value_fault : Data → Option TreeError
value_fault json.null = None
value_fault (json.boolean b) = None
value_fault (json.number n) = number_fault (as_i64 n)
value_fault (json.string s) = if nat_lt MAX_TEXT_BYTES (length s) then Some TextTooLong else None
value_fault (json.array ds) = None
value_fault (json.object ms) = None

-- why a value is refused in its place: its level is looked at first, then its name
abbrev pub place_fault : Visit → Option TreeError
place_fault (visit level name d) =
    if nat_lt MAX_KEYS level then Some TooDeep else option_or (name_fault name) (value_fault d)

-- the first fault of the values, where n were counted before; or how many were counted
abbrev pub walked : ℕ → List Visit → Result ℕ TreeError
walked n [] = Ok n
walked n (v ∷ vs) =
    if nat_le MAX_NODES n then Err TooManyNodes
    else option_map_or Err (place_fault v) (walked (suc n) vs)

-- why data is refused as a tree
abbrev pub data_fault : Data → Option TreeError
data_fault d = result_err (walked 0 (visits 0 None d))

-- why a text is refused as a tree
abbrev pub text_fault : List ℕ → Option TreeError
text_fault s = option_map_or data_fault (read s) (Some NotJson)

-- ---- data without a fault
abbrev pub HasPlace : Visit → Type 0
HasPlace v = place_fault v ≡ None

-- the data stands somewhere, and no value in it is refused there
abbrev pub IsTreeData : Data → Type 0
IsTreeData d = (level : ℕ) × (name : Option (List ℕ)) × AllByRecursion HasPlace (visits level name d)

abbrev pub AreTreeItems : Items → Type 0
AreTreeItems ds = (level : ℕ) × AllByRecursion HasPlace (item_visits (suc level) ds)

abbrev pub AreTreeMembers : Members → Type 0
AreTreeMembers ms = (level : ℕ) × AllByRecursion HasPlace (member_visits (suc level) ms)
