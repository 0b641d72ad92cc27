use Rattle.rt_journal.proofs.Crosses.{tree_send}
use Rattle.rt_journal.proofs.file.crossing_law.Goals as goal

pub returns : goal.returns
returns c = tree_send
