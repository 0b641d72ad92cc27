use Rattle.rt_link.specs.Keeping.{PassesMore}
use Rattle.rt_link.proofs.link.Link.carry.Given as goal

abbrev pub invariant-loop : goal.invariant-loop
invariant-loop g l = PassesMore l.initial.self l.self
