use Rattle.rt_hub.proofs.Done.{are_checks, check_here, checks, put_more}
use Rattle.rt_hub.proofs.lines.Waiting.check_all.Goals as goal

pub loop-one-preserved : goal.loop-one-preserved
loop-one-preserved c =
    put_more (checks c.args.bounds) c.args.self.now c.loop-one.self c.check_one.new.self
    c.args.sent.now c.loop-one.one-index c.one-item.result (are_checks c.args.bounds) c.loop-one-test.true
    c.one-item.is c.loop-one.invariant
    (check_here c.args.bounds c.loop-one.self c.check_one.new.self c.one-item.result
    c.check_one.ensures)
