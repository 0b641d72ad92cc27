use Rattle.std.proofs.Common.{◌≡◌}
use Rattle.rt_link.specs.inside.Rounds.{SaysRounds}
use Rattle.rt_link.proofs.turn.say_turn.Given as goal

-- each round so far gave messages
abbrev pub invariant-loop : goal.invariant-loop
invariant-loop g l =
    SaysRounds l.counter (g.W.Wire.contents l.initial.wire) (g.W.Wire.contents l.wire)
    × (g.W.Wire.remaining l.wire ≡ g.W.Wire.remaining l.initial.wire)
