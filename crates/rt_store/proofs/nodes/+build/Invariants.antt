use Rattle.rt_nodes.specs.Forest.{row_at, size}
use Rattle.rt_store.proofs.Building.{Building}
use Rattle.rt_store.proofs.nodes.+build.Given as goal

abbrev pub decreases-build : goal.decreases-build
decreases-build l = size (row_at l.nodes.now l.first)

abbrev pub invariant-loop-next : goal.invariant-loop-next
invariant-loop-next l = Building l.nodes (row_at l.nodes l.fn.first) l.children.entries l.next

abbrev pub decreases-loop-next : goal.decreases-loop-next
decreases-loop-next l = size (row_at l.nodes l.next)
