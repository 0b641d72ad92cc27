use Rattle.rt_cover.proofs.RunLaws.{every_run}
use Rattle.rt_cover.proofs.laws.run_law.Goals as goal

pub returns : goal.returns
returns c = every_run
