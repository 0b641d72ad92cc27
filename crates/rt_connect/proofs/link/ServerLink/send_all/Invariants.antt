use Rattle.std.proofs.Common.{drop}
use Rattle.rt_connect.specs.Sending.{Linked, SendsAll, linked}
use Rattle.rt_connect.proofs.link.ServerLink.send_all.Given as goal

abbrev pub invariant-loop-message : goal.invariant-loop-message
invariant-loop-message g l =
    (last : Linked _)
    → SendsAll g.W.Awaited.sends (linked l.self.wire l.self.ahead)
    (drop l.message-index l.messages) last
    → SendsAll g.W.Awaited.sends (linked l.initial.self.wire l.initial.self.ahead) l.messages last
