use Rattle.rt_journal.proofs.ReadBack.{reads_back}
use Rattle.rt_journal.proofs.book.reading_law.Goals as goal

pub returns : goal.returns
returns c = reads_back
