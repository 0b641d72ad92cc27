use Rattle.std.proofs.Common.{◌≡◌, ◌++◌, ◌<◌, length, false, true, string_bytes}
use Rattle.rt_client.specs.Delivery.{emptied}
use Rattle.rt_connect.specs.Printing.{items_text}
use Rattle.rt_connect.proofs.seats.tell_ring.Given as goal

abbrev pub invariant-items : goal.invariant-items
invariant-items l =
    (string_bytes l.fn.out ++ items_text l.fn.seat.ring.items ≡ string_bytes l.out ++ items_text l.seat.ring.items)
    × (emptied l.seat ≡ emptied l.fn.seat)
    × (l.any ≡ false → l.seat ≡ l.fn.seat)
    × (l.any ≡ true → 0 < length l.fn.seat.ring.items)

abbrev pub decreases-items : goal.decreases-items
decreases-items l = length l.seat.ring.items
