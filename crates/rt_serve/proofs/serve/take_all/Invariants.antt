use Rattle.std.specs.Prelude.{IfSome}
use Rattle.rt_serve.specs.Sessions.{HasTaken}
use Rattle.rt_serve.proofs.serve.take_all.Given as goal

abbrev pub invariant-loop : goal.invariant-loop
invariant-loop g l = IfSome l.initial.peer (λ p. HasTaken l.counter l.connection p l.peer)
