use Rattle.std.proofs.Common.{◌≡◌, length}
use Rattle.rt_client.specs.Delivery.{emptied}
use Rattle.rt_link.specs.Answering.{answer_among, behind_answer}
use Rattle.rt_link.proofs.answers.find_answer.Given as goal

-- what is left says what all says
abbrev pub invariant-loop-item : goal.invariant-loop-item
invariant-loop-item l =
    (answer_among l.seat.ring.items l.request ≡ answer_among l.initial.seat.ring.items l.request)
    × (behind_answer l.seat.ring.items l.request ≡ behind_answer l.initial.seat.ring.items l.request)
    × (emptied l.seat ≡ emptied l.initial.seat)

abbrev pub decreases-loop-item : goal.decreases-loop-item
decreases-loop-item l = length l.seat.ring.items
