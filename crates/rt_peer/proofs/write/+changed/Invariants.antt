use Rattle.std.proofs.Common.{length}
use Rattle.rt_peer.proofs.write.+changed.Given as goal

abbrev pub decreases-changed : goal.decreases-changed
decreases-changed l = length l.keys.now
