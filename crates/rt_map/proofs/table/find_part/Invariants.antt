use Rattle.std.proofs.Common.{◌-◌, ◌≤◌, ◌<◌, length, take, drop}
use Rattle.rt_map.specs.inside.Joined.{joined}
use Rattle.rt_map.specs.inside.Places.{AllBelow, AllAbove}
use Rattle.rt_map.proofs.table.find_part.Given as goal

abbrev pub invariant-loop-high : goal.invariant-loop-high
invariant-loop-high g l = (l.low < l.high) × (l.high ≤ length l.parts) × AllBelow g.K.Ord.cmp l.key (joined (take l.low l.parts)) × AllAbove g.K.Ord.cmp l.key (joined (drop l.high l.parts))

abbrev pub decreases-loop-high : goal.decreases-loop-high
decreases-loop-high g l = l.high - l.low
