use Rattle.std.proofs.Common.{rules, ◌≡◌, [], string_bytes}
use Rattle.rt_connect.proofs.Settling.{told_last, told_more, told_nothing}
use Rattle.rt_connect.proofs.seats.settle_seat.Goals as goal

pub rounds-init : goal.rounds-init
rounds-init c = told_nothing c.args.shared.now c.args.seat.now (string_bytes c.args.out.now)

pub returns-then-not-branch-clause-told : goal.returns-then-not-branch-clause-told
returns-then-not-branch-clause-told c =
    let none : c.fill_ring.new.seat.ring.items ≡ [] = search rules in
    told_last c.args.shared.now c.args.seat.now (string_bytes c.args.out.now) (string_bytes c.rounds.out)
    (string_bytes c.tell_ring.new.out) c.rounds.shared c.rounds.seat c.fill_ring.new.shared
    c.fill_ring.new.seat c.rounds.invariant c.in_ok-fill_ring.ensures c.in_ok-tell_ring.ensures.printed none

pub rounds-preserved : goal.rounds-preserved
rounds-preserved c =
    told_more c.args.shared.now c.args.seat.now (string_bytes c.args.out.now) (string_bytes c.rounds.out)
    (string_bytes c.tell_ring.new.out) c.rounds.shared c.rounds.seat c.fill_ring.new.shared
    c.fill_ring.new.seat c.tell_ring.new.seat c.rounds.invariant c.in_ok-fill_ring.ensures
    c.in_ok-tell_ring.ensures.printed c.in_ok-tell_ring.ensures.seat
