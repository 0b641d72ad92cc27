use Rattle.std.proofs.Common.{length}
use Rattle.rt_parts.proofs.places.+shared.Given as goal

abbrev pub decreases-shared : goal.decreases-shared
decreases-shared l = length l.left.now
