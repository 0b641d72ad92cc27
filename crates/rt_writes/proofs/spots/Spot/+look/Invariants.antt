use Rattle.std.proofs.Common.{length}
use Rattle.rt_writes.proofs.spots.Spot.+look.Given as goal

abbrev pub decreases-look : goal.decreases-look
decreases-look l = length l.keys.now
