use Rattle.std.proofs.Common.{length}
use Rattle.rt_writes.proofs.spots.Spot.+add.Given as goal

abbrev pub decreases-add : goal.decreases-add
decreases-add l = length l.keys.now
