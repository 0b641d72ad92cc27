use Rattle.std.proofs.Common.{◌≡◌, ◌++◌, List, length}
use Rattle.rt_mail.specs.declared.item.Item.{Item}
use Rattle.rt_mail.specs.Snapshots.{after_items}
use Rattle.rt_client.specs.Delivery.{emptied}
use Rattle.rt_link.proofs.linked.see_ring.Given as goal

-- some first items are taken, and the others are left
abbrev pub invariant-loop-item : goal.invariant-loop-item
invariant-loop-item l =
    (done : List Item)
    × (l.initial.seat.ring.items ≡ done ++ l.seat.ring.items)
    × (l.seen ≡ after_items l.initial.seen done)
    × (emptied l.seat ≡ emptied l.initial.seat)

abbrev pub decreases-loop-item : goal.decreases-loop-item
decreases-loop-item l = length l.seat.ring.items
