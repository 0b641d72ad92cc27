use Rattle.rt_connect.specs.Ending.{Passes}
use Rattle.rt_connect.proofs.link.pass_over.Given as goal

abbrev pub invariant-loop : goal.invariant-loop
invariant-loop g l = Passes g.W.Awaited.ends l.counter l.initial.wire l.wire
