use Rattle.std.proofs.Common.{◌≡◌, [], ap}
use Rattle.std.specs.Prelude.{OnOk, IfErr}
use Rattle.tungstenite.specs.Connection.{write_step}
use Rattle.tungstenite.specs.Content.{ping}
use Rattle.tungstenite.specs.Failure.{WriteFails}
use Rattle.tungstenite.specs.Socket.{Writes}
use Rattle.rt_input.specs.Counted.{known_output}
use Rattle.rt_socket.specs.Sockets.{WireSocket}
use Rattle.rt_socket.proofs.Awaiting.{asks_so, at_equals, pushes_by}
use Rattle.rt_socket.proofs.socket.Socket+Counted+S+K.ask_at.Goals as goal

pub returns-then-tick-eq-ASKING_TICK : goal.returns-then-tick-eq-ASKING_TICK
returns-then-tick-eq-ASKING_TICK g c =
    let was = c.self.inside.socket in
    let old = c.args.self.now.socket in
    let new = c.send.new.self in
    let contents = known_output g.S.Write.contents in
    let same : was ≡ old = ap (λ (s : WireSocket _). s.socket) c.self.view_is in
    let is : ping c.new.result ≡ ping [] = ap ping c.new.ensures in
    asks_so contents c.args.tick old new c.sent_by.result c.if-tick-eq-ASKING_TICK.true
    (pushes_by contents (write_step old.conn (ping [])) old new c.send.result c.sent_by.result c.sent_by.ensures
    (at_equals (λ s m r. OnOk r (Writes contents s new (write_step s.conn m))) was old (ping c.new.result) (ping [])
    c.send.result same is c.send.ensures.wrote)
    c.send.ensures.empty
    (at_equals (λ s m r. IfErr r (WriteFails (write_step s.conn m))) was old (ping c.new.result) (ping []) c.send.result
    same is c.send.ensures.failed))
