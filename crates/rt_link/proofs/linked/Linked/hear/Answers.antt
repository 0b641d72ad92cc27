use Rattle.std.proofs.Common.{rules}
use Rattle.rt_link.proofs.Told.{all_heard, has_worked, same_on, settled_same}
use Rattle.rt_link.proofs.linked.Linked.hear.Goals as goal

pub returns-in-Ok-clause-heard : goal.returns-in-Ok-clause-heard
returns-in-Ok-clause-heard g c =
    all_heard c.args.seat.now c.settle.new.seat c.take_ring.new.seat c.args.heard.now c.take_ring.new.heard
    c.args.answers.now c.in-Ok.has (search rules) c.in_ok-settle.ensures.settled c.in-Ok.ensures.counted
    c.in-Ok.ensures.knows c.in-Ok.ensures.seat

pub returns-in-Err-clause-refused : goal.returns-in-Err-clause-refused
returns-in-Err-clause-refused g c =
    let failed = c.in-Err.ensures.failed in (
      has_worked c.args.heard.now (search rules),
      failed.0,
      same_on c.args.seat.now c.settle.new.seat c.take_ring.new.seat
          (settled_same c.args.seat.now c.settle.new.seat c.in_ok-settle.ensures.settled) failed.1,
    )
