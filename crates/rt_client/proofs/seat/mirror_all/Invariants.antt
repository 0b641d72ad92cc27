use Rattle.std.proofs.Common.{◌≡◌, length}
use Rattle.rt_client.proofs.Taking.{TakesOn}
use Rattle.rt_client.proofs.seat.mirror_all.Given as goal

abbrev pub invariant-loop-item : goal.invariant-loop-item
invariant-loop-item l =
    TakesOn l.initial.inbox l.initial.mirror l.inbox l.mirror × (l.count ≡ length l.initial.inbox.items)

abbrev pub decreases-loop-item : goal.decreases-loop-item
decreases-loop-item l = length l.inbox.items
