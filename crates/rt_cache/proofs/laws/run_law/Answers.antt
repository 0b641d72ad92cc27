use Rattle.rt_cache.proofs.RunLaws.{plain_base}
use Rattle.rt_cache.proofs.laws.run_law.Goals as goal

pub returns : goal.returns
returns c = plain_base
