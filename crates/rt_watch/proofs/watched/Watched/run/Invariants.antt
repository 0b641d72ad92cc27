use Rattle.std.proofs.Common.{◌≡◌}
use Rattle.rt_watch.proofs.watched.Watched.run.Given as goal

abbrev pub invariant-loop : goal.invariant-loop
invariant-loop g l = g.D.Drain.failures l.writer ≡ g.D.Drain.failures l.fn.writer
