use Rattle.std.proofs.Common.{◌≡◌}
use Rattle.rt_link.specs.Carrying.{IsLeft}
use Rattle.rt_link.proofs.link.Link.close.Given as goal

-- what is left of the connection was left before
abbrev pub invariant-loop : goal.invariant-loop
invariant-loop g l =
    IsLeft l.connection.standing
    × (l.connection.passed ≡ l.initial.connection.passed)
    × (l.self ≡ l.initial.self)
