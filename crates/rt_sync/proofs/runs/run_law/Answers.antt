use Rattle.rt_sync.proofs.AppliedAll.{makes_all}
use Rattle.rt_sync.proofs.runs.run_law.Goals as goal

pub returns : goal.returns
returns c = makes_all
