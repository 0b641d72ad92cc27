-- The trees that linked nodes stand for.
use Rattle.std.specs.Prelude.{[], ◌∷◌, Option, Some, None}
use Rattle.slab.specs.Slab.{Slab}
use Rattle.rt_tree.specs.Leaf.{LeafValue}
use Rattle.rt_tree.specs.PathTree.{PathTree, of_leaf, object}
use Rattle.rt_nodes.specs.Forest.{Forest, bare, node}
use Rattle.rt_nodes.specs.declared.nodes.Slot.{Slot}
use Rattle.rt_store.specs.Rows.{Row}

-- a node carries the leaf that it is, where it has no children
abbrev pub NodeSlot : Type 0
NodeSlot = Slot (Option LeafValue)

abbrev pub Nodes : Type 0
Nodes = Slab NodeSlot

abbrev pub Trees : Type 0
Trees = Forest (Option LeafValue)

-- the tree of a leaf, or else of children
abbrev pub tree_with : Option LeafValue → Row → PathTree
tree_with (Some l) es = of_leaf l
tree_with None es = object es

-- each key of the row with the tree that stands there
abbrev pub entries : Trees → Row
entries bare = []
entries (node n key leaf below behind) = (key, tree_with leaf (entries below)) ∷ entries behind

-- a leaf without children, or some children
abbrev pub IsFull : Option LeafValue → Trees → Type 0
IsFull (Some l) bare = Unit {0}
IsFull (Some l) (node n key leaf below behind) = ⊥
IsFull None bare = ⊥
IsFull None (node n key leaf below behind) = Unit {0}

-- nothing is null
abbrev pub Filled : Trees → Type 0
Filled bare = Unit {0}
Filled (node n key leaf below behind) = IsFull leaf below × Filled below × Filled behind
