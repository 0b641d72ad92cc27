use Rattle.rt_link.proofs.Seen.{all_seen, some_seen}
use Rattle.rt_link.proofs.linked.Linked.see.Goals as goal

pub returns-in-Ok-clause-seen : goal.returns-in-Ok-clause-seen
returns-in-Ok-clause-seen g c =
    all_seen c.args.seat.now c.settle.new.seat c.see_ring.new.seat c.args.seen.now c.see_ring.new.seen
    c.in_ok-settle.ensures.settled c.in-Ok.ensures.seen c.in-Ok.ensures.seat

pub returns-in-Err-clause-refused : goal.returns-in-Err-clause-refused
returns-in-Err-clause-refused g c =
    some_seen c.args.seat.now c.settle.new.seat c.see_ring.new.seat c.args.seen.now c.see_ring.new.seen
    c.in_ok-settle.ensures.settled c.in-Err.ensures.some
