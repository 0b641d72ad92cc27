use Rattle.rt_input.specs.Counted.{known_output}
use Rattle.rt_socket.specs.Awaiting.{IsSilent, known_input}
use Rattle.rt_socket.proofs.socket.SocketCountedAwaited.hear_next.Given as goal

-- so far nothing came
abbrev pub invariant-loop-tick : goal.invariant-loop-tick
invariant-loop-tick g l =
    IsSilent (known_input g.S.Read.remaining) (known_output g.S.Write.contents) l.tick l.fn.self.socket
    l.self.socket
