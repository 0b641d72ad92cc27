use Rattle.std.proofs.Common.{length}
use Rattle.rt_store.proofs.store.+vanishes.Given as goal

abbrev pub decreases-vanishes : goal.decreases-vanishes
decreases-vanishes l = length l.rest.now
