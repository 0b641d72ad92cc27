-- A tree cut to its children.
use Rattle.std.specs.Prelude.{[], ◌∷◌, true, if◌then◌else◌}
use Rattle.std.specs.List.{fold}
use Rattle.rt_tree.specs.Leaf.{truth}
use Rattle.rt_tree.specs.Leaves.{Key}
use Rattle.rt_tree.specs.Trees.{PathTree, children_of, is_object, null, of_leaf, put}

-- the tree with `true` at that child
abbrev pub with_true : PathTree → Key × PathTree → PathTree
with_true t child = put t (child.0 ∷ []) (of_leaf (truth true))

-- the tree with `true` for each child; a leaf as it is
abbrev pub shallow_of : PathTree → PathTree
shallow_of t = if is_object t then fold with_true null (children_of t) else t
