use Rattle.std.proofs.Common.{length}
use Rattle.rt_store.proofs.nodes.+put_row.Given as goal

abbrev pub decreases-put_row : goal.decreases-put_row
decreases-put_row l = length l.rest.now
