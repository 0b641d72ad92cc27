use Rattle.rt_connect.proofs.Hears.{IsPassing}
use Rattle.rt_connect.proofs.link.hear.Given as goal

abbrev pub invariant-pings : goal.invariant-pings
invariant-pings g l = IsPassing g.W.Awaited.hears l.fn.pings l.fn.wire l.pings l.wire

abbrev pub decreases-pings : goal.decreases-pings
decreases-pings g l = l.pings
