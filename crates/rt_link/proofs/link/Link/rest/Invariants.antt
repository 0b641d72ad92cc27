use Rattle.std.proofs.Common.{◌≡◌}
use Rattle.rt_link.proofs.link.Link.rest.Given as goal

abbrev pub invariant-loop : goal.invariant-loop
invariant-loop g l = l.self ≡ l.initial.self
