use Rattle.rt_hub.proofs.Done.{are_puts, put_more, puts}
use Rattle.rt_hub.proofs.lines.Waiting.put_each.Goals as goal

pub loop-one-preserved : goal.loop-one-preserved
loop-one-preserved c =
    put_more puts c.args.self.now c.loop-one.self c.put_one.new.self
    c.args.sent.now c.loop-one.one-index c.one-item.result are_puts c.loop-one-test.true c.one-item.is
    c.loop-one.invariant c.in_ok-put_one.ensures
