use Rattle.std.proofs.Common.{◌≡◌}
use Rattle.rt_hub.specs.Turns.{Hears}
use Rattle.rt_hub.proofs.turn.take_turn.Given as goal

abbrev pub invariant-loop : goal.invariant-loop
invariant-loop g l =
    Hears l.counter l.connection l.initial.hub l.hub (g.D.Door.remaining l.initial.door)
    (g.D.Door.remaining l.door) l.initial.notes l.notes
    × (g.D.Door.contents l.door ≡ g.D.Door.contents l.initial.door)
