use Rattle.std.proofs.Common.{length}
use Rattle.rt_forms.proofs.growth.+grow.Given as goal

abbrev pub decreases-grow : goal.decreases-grow
decreases-grow l = length l.rest.now
