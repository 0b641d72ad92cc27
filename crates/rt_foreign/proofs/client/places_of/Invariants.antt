use Rattle.std.proofs.Common.{◌≡◌, ◌++◌, map}
use Rattle.std.specs.List.{All}
use Rattle.rt_foreign.specs.Clients.{new_place}
use Rattle.rt_foreign.specs.Room.{CanHold}
use Rattle.rt_foreign.proofs.client.places_of.Given as goal

-- those so far are new, and those that are left will be, and can hold something
abbrev pub invariant-loop-seat : goal.invariant-loop-seat
invariant-loop-seat l =
    (l.places.items ++ map new_place l.seat-iterator.rest.items ≡ map new_place l.fn.seats.items)
    × All CanHold l.seat-iterator.rest.items
