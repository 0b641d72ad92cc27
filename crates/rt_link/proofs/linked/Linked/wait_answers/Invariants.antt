use Rattle.rt_link.specs.Answering.{Hears}
use Rattle.rt_link.proofs.linked.Linked.wait_answers.Given as goal

abbrev pub invariant-loop : goal.invariant-loop
invariant-loop g l = Hears l.initial.seat l.initial.heard l.initial.answers l.seat l.heard l.answers
