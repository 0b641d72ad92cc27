use Rattle.rt_lines.specs.inside.Appending.{Appends}
use Rattle.rt_lines.specs.declared.order.Order.TheVariants as kinds
use Rattle.rt_connect.proofs.Seating.{looked, obeyed}
use Rattle.rt_connect.proofs.seats.obey.Goals as goal

pub returns-in-Seat : goal.returns-in-Seat
returns-in-Seat c =
    obeyed (Appends c.args.out.now c.make_call.new.out) c.make_call.result c.args.order
    (kinds.Seat c.in-Seat.seat c.in-Seat.call) c.args.shared.now c.make_call.new.shared c.args.seats.now.items
    c.make_call.new.seats.items c.in-Seat.is c.make_call.ensures

pub returns-in-Close : goal.returns-in-Close
returns-in-Close c =
    obeyed (Appends c.args.out.now c.close_seat.new.out) c.close_seat.result c.args.order
    (kinds.Close c.in-Close.seat) c.args.shared.now c.close_seat.new.shared c.args.seats.now.items
    c.close_seat.new.seats.items c.in-Close.is c.close_seat.ensures

pub returns-in-Cover : goal.returns-in-Cover
returns-in-Cover c =
    looked (Appends c.args.out.now c.show_cover.new.out) c.show_cover.result c.args.order c.args.shared.now
    c.args.seats.now.items c.in-Cover.is c.show_cover.ensures
