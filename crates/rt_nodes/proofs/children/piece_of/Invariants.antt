use Rattle.std.proofs.Common.{◌-◌, ◌≤◌, length}
use Rattle.rt_nodes.proofs.children.piece_of.Given as goal

abbrev pub invariant-loop-low : goal.invariant-loop-low
invariant-loop-low g l = (l.low ≤ l.high) × (l.high ≤ length l.pieces)

abbrev pub decreases-loop-low : goal.decreases-loop-low
decreases-loop-low g l = l.high - l.low
