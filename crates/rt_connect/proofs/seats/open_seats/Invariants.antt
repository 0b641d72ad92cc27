use Rattle.std.proofs.Common.{◌≡◌, ◌++◌, Some, map}
use Rattle.rt_connect.proofs.seats.open_seats.Given as goal

-- those so far are open, and those that are left will be
abbrev pub invariant-loop-seat : goal.invariant-loop-seat
invariant-loop-seat l =
    l.open.items ++ map Some l.seat-iterator.rest.items ≡ map Some l.fn.seats.items
