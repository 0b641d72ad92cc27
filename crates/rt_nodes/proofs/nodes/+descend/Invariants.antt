use Rattle.std.proofs.Common.{length}
use Rattle.rt_nodes.proofs.nodes.+descend.Given as goal

abbrev pub decreases-descend : goal.decreases-descend
decreases-descend g l = length l.rest.now
