use Rattle.rt_input.specs.Counted.{known_output}
use Rattle.rt_serve.proofs.Answers.{tell_more, told_all}
use Rattle.rt_serve.proofs.socket.send_all.Goals as goal

pub loop-one-preserved : goal.loop-one-preserved
loop-one-preserved g c = λ last h.
    c.loop-one.invariant last
    (tell_more (known_output g.S.Write.contents) c.loop-one.socket c.send.new.socket last c.args.sent.now
    c.loop-one.one-index c.one-item.result c.loop-one-test.true c.one-item.is
    (c.in_ok-send.ensures.wrote c.if-not-branch.false)
    (c.in_ok-send.ensures.empty c.if-not-branch.false) h)

pub returns-clause-told : goal.returns-clause-told
returns-clause-told g c = λ _.
    c.loop-one.invariant c.loop-one.socket
    (told_all (known_output g.S.Write.contents) c.loop-one.socket c.args.sent.now c.loop-one.one-index
    c.loop-one-test.false)
