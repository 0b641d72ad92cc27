use Rattle.std.proofs.Common.{◌≡◌}
use Rattle.rt_nodes.specs.Forest.{row_at, size}
use Rattle.rt_nodes.specs.Walks.{spot_in, IsPlace}
use Rattle.rt_nodes.proofs.nodes.walk.Given as goal

abbrev pub invariant-loop-next : goal.invariant-loop-next
invariant-loop-next g l = IsPlace l.nodes l.next × (spot_in l.key l.fn.previous (row_at l.nodes l.fn.next) ≡ spot_in l.key l.previous (row_at l.nodes l.next))

abbrev pub decreases-loop-next : goal.decreases-loop-next
decreases-loop-next g l = size (row_at l.nodes l.next)
