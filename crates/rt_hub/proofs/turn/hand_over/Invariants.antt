use Rattle.std.proofs.Common.{◌≡◌}
use Rattle.rt_hub.specs.Handing.{Fewer, HasHanded, InHub}
use Rattle.rt_hub.proofs.turn.hand_over.Given as goal

abbrev pub invariant-loop : goal.invariant-loop
invariant-loop g l =
    InHub (HasHanded l.connection (g.D.Door.contents l.initial.door) (g.D.Door.contents l.door)) l.initial.hub l.hub
    × (g.D.Door.remaining l.door ≡ g.D.Door.remaining l.initial.door)
    × Fewer l.counter l.connection l.initial.hub l.hub
