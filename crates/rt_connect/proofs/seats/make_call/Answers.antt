use Rattle.std.proofs.Common.{refl, ◌∙◌}
use Rattle.rt_lines.specs.inside.Appending.{Appends}
use Rattle.rt_connect.proofs.Seating.{at_place, called_none, called_some, put_back}
use Rattle.rt_connect.proofs.seats.make_call.Goals as goal

pub returns-in_default : goal.returns-in_default
returns-in_default c =
    called_none (Appends c.args.out.now c.write_why.new.out) c.write_why.result c.args.shared.now
    c.args.seats.now.items c.args.seats.now.items c.args.number c.args.call (c.place_of.ensures.none c.in_default.is)
    refl c.write_why.ensures.printed

pub returns-in-Some-index_mut : goal.returns-in-Some-index_mut
returns-in-Some-index_mut c =
    called_some (Appends c.args.out.now c.call_open.new.out) c.call_open.result c.args.shared.now
    c.call_open.new.shared c.args.seats.now.items c.args.number c.in-Some.place c.args.call c.in-Some-index_mut.seat
    c.call_open.new.seat
    (at_place c.args.seats.now.items c.args.number c.in-Some.place c.index_mut.result.now c.in-Some.ensures.here.0
    c.in-Some.ensures.here.1 c.index_mut.ensures.value ∙ c.in-Some-index_mut.is)
    c.in-Some.ensures.here.1 c.call_open.ensures

pub returns-in-None : goal.returns-in-None
returns-in-None c =
    called_none (Appends c.args.out.now c.write_why-in-None.new.out) c.write_why-in-None.result c.args.shared.now
    c.args.seats.now.items _ c.args.number c.args.call
    (at_place c.args.seats.now.items c.args.number c.in-Some.place c.index_mut.result.now c.in-Some.ensures.here.0
    c.in-Some.ensures.here.1 c.index_mut.ensures.value ∙ c.in-None.is)
    (put_back c.args.seats.now.items c.in-Some.place c.index_mut.result.now c.index_mut.result.now
    c.index_mut.ensures.value refl)
    c.write_why-in-None.ensures.printed
