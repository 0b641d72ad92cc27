use Rattle.std.proofs.Common.{◌≡◌, Ok, ap, false}
use Rattle.rt_foreign.proofs.Room.{out_none}
use Rattle.rt_foreign.proofs.seat.take_out.Goals as goal

pub returns-in-Ok-clause-all : goal.returns-in-Ok-clause-all
returns-in-Ok-clause-all c = λ e.
    let none : c.in-Ok.is_there ≡ false = cc in
    out_none c.args.shared.now c.settle.new.self c.args.seat.now c.settle.new.seat c.take_next.new.seat
    c.args.taken.now c.take_next.new.self c.in_ok-settle.ensures.settled c.in-Ok.ensures.rest
    c.in-Ok.ensures.taken (c.in-Ok.ensures.none (ap Ok none)) c.requires.can_hold
