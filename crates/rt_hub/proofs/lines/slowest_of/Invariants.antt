use Rattle.rt_hub.proofs.Slowest.{IsSlowestTo}
use Rattle.rt_hub.proofs.lines.slowest_of.Given as goal

abbrev pub invariant-loop-place : goal.invariant-loop-place
invariant-loop-place l = IsSlowestTo l.lines.items l.elsewhere l.place l.slowest
