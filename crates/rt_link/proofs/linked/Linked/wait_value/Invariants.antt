use Rattle.rt_link.specs.Seeing.{Sees}
use Rattle.rt_link.proofs.linked.Linked.wait_value.Given as goal

abbrev pub invariant-loop : goal.invariant-loop
invariant-loop g l = Sees l.initial.seat l.initial.seen l.seat l.seen
