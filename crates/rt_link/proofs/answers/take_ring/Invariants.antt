use Rattle.std.proofs.Common.{◌≡◌, length}
use Rattle.std.specs.List.{fold}
use Rattle.std.specs.Option.{option_map}
use Rattle.rt_mail.specs.Mailbox.{Known, known_of}
use Rattle.rt_client.specs.Delivery.{emptied}
use Rattle.rt_link.specs.Answering.{tallied}
use Rattle.rt_link.proofs.answers.take_ring.Given as goal

-- what is left adds to what is counted and known what all adds
abbrev pub invariant-loop-item : goal.invariant-loop-item
invariant-loop-item l =
    (fold tallied l.has l.seat.ring.items ≡ fold tallied l.initial.has l.initial.seat.ring.items)
    × (option_map (λ (z : Known). known_of z l.seat.ring.items) l.heard
    ≡ option_map (λ (z : Known). known_of z l.initial.seat.ring.items) l.initial.heard)
    × (emptied l.seat ≡ emptied l.initial.seat)

abbrev pub decreases-loop-item : goal.decreases-loop-item
decreases-loop-item l = length l.seat.ring.items
