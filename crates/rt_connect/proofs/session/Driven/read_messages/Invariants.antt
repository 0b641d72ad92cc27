use Rattle.std.proofs.Common.{◌≡◌}
use Rattle.rt_connect.proofs.session.Driven.read_messages.Given as goal

abbrev pub invariant-loop : goal.invariant-loop
invariant-loop g l = g.D.Drain.failures l.writer ≡ g.D.Drain.failures l.fn.writer
