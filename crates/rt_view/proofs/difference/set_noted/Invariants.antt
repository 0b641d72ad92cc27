use Rattle.std.proofs.Common.{◌≡◌, None, take}
use Rattle.std.specs.List.{All}
use Rattle.rt_tree.specs.PathTree.{PathTree, leaf_of}
use Rattle.rt_tree.specs.Children.{children_of}
use Rattle.rt_view.specs.inside.Windows.{Entries}
use Rattle.rt_view.specs.inside.ViewIndex.{SetsNoted}
use Rattle.rt_view.specs.inside.Telling.{IsSeen, keys_in}
use Rattle.rt_view.proofs.difference.set_noted.Given as goal

abbrev pub invariant-loop-one : goal.invariant-loop-one
invariant-loop-one l = (leaf_of l.tree ≡ None)
    × ((t : PathTree) (shown : Entries) → All (IsSeen t shown) l.seen → SetsNoted (keys_in (take l.one-index l.seen)) shown (children_of l.initial.tree) (children_of l.tree))
