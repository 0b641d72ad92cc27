use Rattle.std.proofs.Common.{rules, ◌≡◌, None, IfOk, OnOk, subst, sym}
use Rattle.tungstenite.specs.Connection.{write_step}
use Rattle.tungstenite.specs.Socket.{Writes, content_of}
use Rattle.rt_socket.proofs.Sending.{write_sends}
use Rattle.rt_socket.proofs.socket.Socket.write.Goals as goal

pub returns-clause-wrote : goal.returns-clause-wrote
returns-clause-wrote g c =
    let wrote : OnOk c.write.result (Writes g.S.Write.contents c.args.self.now.socket c.write.new.self
    (write_step c.args.self.now.socket.conn (content_of c.args.message))) = search rules in
    subst
    (λ r. IfOk r (λ lost. lost ≡ None → Writes g.S.Write.contents c.args.self.now.socket c.write.new.self
    (write_step c.args.self.now.socket.conn (content_of c.args.message))))
    (sym c.taken_by.ensures)
    (write_sends
    (Writes g.S.Write.contents c.args.self.now.socket c.write.new.self
    (write_step c.args.self.now.socket.conn (content_of c.args.message)))
    c.write.result wrote)
