use Rattle.rt_client.specs.Giving.{HasGiven}
use Rattle.rt_client.proofs.seat.Seat.for_each.Given as goal

-- some first items were given
abbrev pub invariant-loop : goal.invariant-loop
invariant-loop g l = HasGiven g.F.FnMut l.initial.f l.initial.self l.f l.self × goal.F-IsAlwaysCallable g l.f
