use Rattle.std.proofs.Common.{◌≡◌, ap}
use Rattle.std.specs.Prelude.{OnOk, IfErr}
use Rattle.tungstenite.specs.Connection.{write_step}
use Rattle.tungstenite.specs.Content.{text}
use Rattle.tungstenite.specs.Failure.{WriteFails}
use Rattle.tungstenite.specs.Socket.{Writes, content_of}
use Rattle.rt_input.specs.Counted.{known_output}
use Rattle.rt_socket.specs.Sockets.{WireSocket}
use Rattle.rt_socket.proofs.Awaiting.{at_equals, pushes_by}
use Rattle.rt_socket.proofs.socket.SocketCountedAwaited.send.Goals as goal

pub returns : goal.returns
returns g c =
    let was = c.self.inside.socket in
    let old = c.args.self.now.socket in
    let new = c.send.new.self in
    let contents = known_output g.S.Write.contents in
    let given = content_of c.in_ok-message.message in
    let words = text c.args.text.now in
    let same : was ≡ old = ap (λ (s : WireSocket _). s.socket) c.self.view_is in
    let is : given ≡ words = c.in_ok-message.ensures in
    pushes_by contents (write_step old.conn words) old new c.send.result c.sent_by.result c.sent_by.ensures
    (at_equals (λ s m r. OnOk r (Writes contents s new (write_step s.conn m))) was old given words c.send.result same
    is c.send.ensures.wrote)
    c.send.ensures.empty
    (at_equals (λ s m r. IfErr r (WriteFails (write_step s.conn m))) was old given words c.send.result same is
    c.send.ensures.failed)
