use Rattle.std.proofs.Common.{refl, sym, ◌∙◌}
use Rattle.rt_lines.specs.inside.Appending.{Appends}
use Rattle.rt_connect.proofs.Seating.{at_place, closed_none, closed_some, put_back}
use Rattle.rt_connect.proofs.seats.close_seat.Goals as goal

pub returns-in_default : goal.returns-in_default
returns-in_default c =
    closed_none (Appends c.args.out.now c.write_why.new.out) c.write_why.result c.args.shared.now
    c.args.seats.now.items c.args.seats.now.items c.args.number (c.place_of.ensures.none c.in_default.is) refl
    c.write_why.ensures.printed

pub returns-in_default-take : goal.returns-in_default-take
returns-in_default-take c =
    let was = sym c.take.ensures.value ∙ c.in_default-take.is in
    closed_none (Appends c.args.out.now c.write_why-in_default-take.new.out) c.write_why-in_default-take.result
    c.args.shared.now c.args.seats.now.items _ c.args.number
    (at_place c.args.seats.now.items c.args.number c.in-Some.place c.index_mut.result.now c.in-Some.ensures.here.0
    c.in-Some.ensures.here.1 c.index_mut.ensures.value ∙ was)
    (put_back c.args.seats.now.items c.in-Some.place c.index_mut.result.now c.take.new.self
    c.index_mut.ensures.value (c.take.ensures.after ∙ sym was))
    c.write_why-in_default-take.ensures.printed

pub returns : goal.returns
returns c =
    closed_some (Appends c.args.out.now c.close_open.new.out) c.args.shared.now c.close_open.new.shared
    c.args.seats.now.items c.args.number c.in-Some.place c.in-Some-take.seat c.take.new.self c.in_ok-seats.field-0
    (at_place c.args.seats.now.items c.args.number c.in-Some.place c.index_mut.result.now c.in-Some.ensures.here.0
    c.in-Some.ensures.here.1 c.index_mut.ensures.value ∙ (sym c.take.ensures.value ∙ c.in-Some-take.is))
    c.in-Some.ensures.here.1 c.in_ok-seats.ensures
