use Rattle.std.proofs.Common.{◌≡◌, ◌≤◌, drop, length}
use Rattle.rt_tree.specs.PathTree.{object}
use Rattle.rt_query.specs.Select.{as_children}
use Rattle.rt_view.proofs.position.object_of.Given as goal

abbrev pub invariant-loop-left : goal.invariant-loop-left
invariant-loop-left l = (l.left ≤ length l.rows) × (l.tree ≡ object (as_children (drop l.left l.rows)))

abbrev pub decreases-loop-left : goal.decreases-loop-left
decreases-loop-left l = l.left
