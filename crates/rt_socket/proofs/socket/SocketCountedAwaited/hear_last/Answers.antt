use Rattle.rt_input.specs.Counted.{known_output}
use Rattle.rt_socket.specs.Awaiting.{known_input}
use Rattle.rt_socket.proofs.Awaiting.{heard_last}
use Rattle.rt_socket.proofs.socket.SocketCountedAwaited.hear_last.Goals as goal

pub returns : goal.returns
returns g c =
    heard_last (known_input g.S.Read.remaining) (known_output g.S.Write.contents) c.args.self.now.socket
    c.hear.new.self.socket c.hear.result c.hear.ensures.heard
