use Rattle.rt_connect.specs.Sending.{linked}
use Rattle.rt_connect.proofs.Sending.{send_more}
use Rattle.rt_connect.proofs.link.ServerLink.send_all.Goals as goal

pub loop-message-preserved : goal.loop-message-preserved
loop-message-preserved g c = λ last h.
    c.loop-message.invariant last
    (send_more g.W.Awaited.sends
    (linked c.loop-message.self.wire c.loop-message.self.ahead)
    (linked c.send.new.self.wire c.send.new.self.ahead) last c.args.messages.now
    c.loop-message.message-index c.message-item.result c.loop-message-test.true c.message-item.is
    (c.in_ok-why.ensures c.in_default.is) h)
