use Rattle.std.proofs.Common.{◌+◌}
use Rattle.rt_client.specs.Opened.{AreOpenBelow}
use Rattle.rt_client.proofs.lanes.free_place.Given as goal

-- each seat so far is open
abbrev pub invariant-loop-place : goal.invariant-loop-place
invariant-loop-place l = AreOpenBelow (l.place + 1) l.lanes
