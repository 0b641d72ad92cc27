use Rattle.std.proofs.Common.{◌≡◌, take}
use Rattle.rt_socket.specs.Reading.{texts_of}
use Rattle.rt_socket.specs.Wires.{Takes}
use Rattle.rt_socket.proofs.wire.say_all.Given as goal

-- the wire took the texts of the messages so far
abbrev pub invariant-loop-message : goal.invariant-loop-message
invariant-loop-message g l =
    Takes (g.W.Wire.contents l.initial.wire) (g.W.Wire.contents l.wire)
    (texts_of (take l.message-index l.messages))
    × (g.W.Wire.remaining l.wire ≡ g.W.Wire.remaining l.initial.wire)
