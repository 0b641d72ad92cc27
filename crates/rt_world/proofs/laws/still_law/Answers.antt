use Rattle.rt_world.proofs.StillLaws.{still_leaves_listens}
use Rattle.rt_world.proofs.laws.still_law.Goals as goal

pub returns : goal.returns
returns c = still_leaves_listens
