use Rattle.std.proofs.Common.{length}
use Rattle.rt_forms.proofs.forms.+remove_row.Given as goal

abbrev pub decreases-remove_row : goal.decreases-remove_row
decreases-remove_row l = length l.rest.now
