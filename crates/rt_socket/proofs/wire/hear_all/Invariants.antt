use Rattle.std.proofs.Common.{◌≡◌}
use Rattle.rt_socket.specs.Reading.{Reads}
use Rattle.rt_socket.proofs.wire.hear_all.Given as goal

abbrev pub invariant-loop : goal.invariant-loop
invariant-loop g l =
    Reads l.counter (g.W.Wire.remaining l.initial.wire) (g.W.Wire.remaining l.wire) l.messages.items
    × (g.W.Wire.contents l.wire ≡ g.W.Wire.contents l.initial.wire)
