use Rattle.rt_connect.proofs.Sending.{IsAwaiting}
use Rattle.rt_connect.proofs.link.ServerLink.read_ahead.Given as goal

abbrev pub invariant-loop : goal.invariant-loop
invariant-loop g l = IsAwaiting l.len l.fn.self.ahead l.self.ahead
