use Rattle.std.proofs.Common.{◌≡◌, ◌+◌, ◌≤◌, ◌++◌, drop, length}
use Rattle.std.specs.Vec.{vec_capacity}
use Rattle.rt_client.specs.Opened.{seats_from}
use Rattle.rt_client.proofs.shared.new_seats.Given as goal

-- the seats so far, and those that are left, for which there is room
abbrev pub invariant-loop-capacity : goal.invariant-loop-capacity
invariant-loop-capacity l =
    (l.number ≡ l.capacity-index + 1)
    × (l.seats.items ++ seats_from l.client l.number (drop l.capacity-index l.capacities) ≡ seats_from l.client 1 l.capacities)
    × (length l.seats.items ≡ l.capacity-index)
    × (length l.capacities ≤ vec_capacity l.seats)
