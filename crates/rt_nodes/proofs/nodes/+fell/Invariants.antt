use Rattle.rt_nodes.specs.Forest.{row_at, size}
use Rattle.rt_nodes.specs.inside.Ranks.{IsRanked}
use Rattle.rt_nodes.proofs.Felling.{Felling}
use Rattle.rt_nodes.proofs.nodes.+fell.Given as goal

abbrev pub decreases-fell : goal.decreases-fell
decreases-fell g l = size (row_at l.nodes.now l.first)

abbrev pub invariant-loop-next : goal.invariant-loop-next
invariant-loop-next g l = Felling l.initial.nodes (row_at l.initial.nodes l.fn.first) l.nodes l.next × IsRanked l.nodes l.ranks

abbrev pub decreases-loop-next : goal.decreases-loop-next
decreases-loop-next g l = size (row_at l.nodes l.next)
