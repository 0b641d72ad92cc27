use Rattle.std.proofs.Common.{◌≡◌, Err, Ok, ap, rules}
use Rattle.rt_foreign.proofs.Room.{far_all, far_lacks_more, far_more}
use Rattle.rt_foreign.proofs.seat.take_all_out.Goals as goal

pub returns-in_err-take_out-clause-refused : goal.returns-in_err-take_out-clause-refused
returns-in_err-take_out-clause-refused c =
    let is : c.from_residual.result ≡ Err c.in_err-take_out.field-0.0 = search rules in
    let refused = c.in_err-take_out.ensures.refused in
    rw is (far_lacks_more c.args.shared.now c.items.shared c.take_out.new.shared c.args.seat.now c.items.seat
    c.take_out.new.seat c.args.taken.now c.items.taken c.take_out.new.taken c.in_err-take_out.field-0.0
    c.requires.full c.items.invariant refused.1 refused.0)

pub returns-then-not-branch-clause-all : goal.returns-then-not-branch-clause-all
returns-then-not-branch-clause-all c =
    far_all c.args.shared.now c.items.shared c.take_out.new.shared c.args.seat.now c.items.seat
    c.take_out.new.seat c.args.taken.now c.items.taken c.take_out.new.taken c.items.invariant
    (c.in_ok-take_out.ensures.all (ap Ok c.if-not-branch.true))

pub items-preserved : goal.items-preserved
items-preserved c =
    far_more c.args.shared.now c.items.shared c.take_out.new.shared c.args.seat.now c.items.seat
    c.take_out.new.seat c.args.taken.now c.items.taken c.take_out.new.taken c.items.invariant
    c.in_ok-take_out.ensures.taken
