use Rattle.std.proofs.Common.{length}
use Rattle.rt_store.proofs.store.+clear_row.Given as goal

abbrev pub decreases-clear_row : goal.decreases-clear_row
decreases-clear_row l = length l.rest.now
