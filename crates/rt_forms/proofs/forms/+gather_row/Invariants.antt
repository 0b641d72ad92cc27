use Rattle.rt_nodes.specs.Forest.{row_at, size}
use Rattle.rt_forms.proofs.GatherLaws.{Gathering}
use Rattle.rt_forms.proofs.forms.+gather_row.Given as goal

abbrev pub decreases-gather_row : goal.decreases-gather_row
decreases-gather_row l = size (row_at l.nodes.now l.first)

abbrev pub invariant-loop-next : goal.invariant-loop-next
invariant-loop-next l = Gathering l.nodes (row_at l.nodes l.fn.first) l.initial.numbers.items l.numbers.items l.next

abbrev pub decreases-loop-next : goal.decreases-loop-next
decreases-loop-next l = size (row_at l.nodes l.next)
