use Rattle.std.proofs.Common.{◌≡◌, Some, replicate}
use Rattle.rt_client.specs.Lanes.{new_lane}
use Rattle.rt_client.proofs.lanes.new_lanes.Given as goal

-- so many lanes so far
abbrev pub invariant-loop-seat : goal.invariant-loop-seat
invariant-loop-seat l = l.lanes.items ≡ replicate l.seat (Some new_lane)
