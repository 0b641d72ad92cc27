use Rattle.std.proofs.Common.{length}
use Rattle.rt_writes.proofs.spots.Spot.+copy_kept.Given as goal

abbrev pub decreases-copy_kept : goal.decreases-copy_kept
decreases-copy_kept l = length l.keys.now
