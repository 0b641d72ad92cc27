use Rattle.std.proofs.Common.{rules, ◌≡◌, Ok, Err}
use Rattle.tungstenite.specs.Socket.{Reads}
use Rattle.rt_socket.specs.Hearing.{heard_from}
use Rattle.rt_socket.proofs.Sending.{hears_err, hears_ok}
use Rattle.rt_socket.proofs.socket.SocketWire.hear.Goals as goal

pub returns-in_err-heard-clause-heard : goal.returns-in_err-heard-clause-heard
returns-in_err-heard-clause-heard g c =
    let reads : Reads g.S.Read.remaining c.args.self.now.socket c.read.new.self c.read.result = search rules in
    let fails : c.from_residual.result ≡ Err (record {}) = search rules in
    let says : c.from_residual.result ≡ heard_from c.read.result = search rules in
    hears_err g.S.Read.remaining g.S.Write.contents c.args.self.now.socket c.read.new.self c.read.result
    c.from_residual.result reads says fails

pub returns-clause-heard : goal.returns-clause-heard
returns-clause-heard g c =
    let reads : Reads g.S.Read.remaining c.args.self.now.socket c.read.new.self c.read.result = search rules in
    let says : heard_from c.read.result ≡ Ok c.in_ok-heard.heard = search rules in
    hears_ok g.S.Read.remaining g.S.Write.contents c.args.self.now.socket c.read.new.self
    c.send_behind.new.self.socket c.read.result c.in_ok-heard.heard reads says c.send_behind.ensures.sent
