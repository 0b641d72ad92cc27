use Rattle.rt_link.specs.Answering.{IsSilent}
use Rattle.rt_link.proofs.linked.Linked.answer.Given as goal

-- nothing is said of it so far
abbrev pub invariant-loop : goal.invariant-loop
invariant-loop g l = IsSilent l.initial.seat l.request l.seat
