use Rattle.std.proofs.Common.{rules, None}
use Rattle.std.specs.Prelude.{OnOk, IfErr}
use Rattle.tungstenite.specs.Connection.{close_step}
use Rattle.tungstenite.specs.Failure.{WriteFails}
use Rattle.tungstenite.specs.Socket.{Writes}
use Rattle.rt_input.specs.Counted.{known_output}
use Rattle.rt_socket.proofs.Awaiting.{pushes_by}
use Rattle.rt_socket.proofs.socket.SocketCountedAwaited.leave.Goals as goal

pub returns : goal.returns
returns g c =
    let old = c.args.self.now.socket in
    let contents = known_output g.S.Write.contents in
    let step = close_step old.conn None in
    let wrote : OnOk c.close.result (Writes contents old c.close.new.self step) = search rules in
    let fails : IfErr c.close.result (WriteFails step) = search rules in
    pushes_by contents step old c.close.new.self c.close.result c.sent_by.result c.sent_by.ensures wrote
    c.close.ensures.empty fails
