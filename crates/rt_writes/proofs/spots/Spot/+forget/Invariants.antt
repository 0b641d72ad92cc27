use Rattle.std.proofs.Common.{length}
use Rattle.rt_writes.proofs.spots.Spot.+forget.Given as goal

abbrev pub decreases-forget : goal.decreases-forget
decreases-forget l = length l.keys.now
