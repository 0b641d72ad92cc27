use Rattle.rt_world.proofs.PartLaws.{push_may_push}
use Rattle.rt_world.proofs.laws.pushed_law.Goals as goal

pub returns : goal.returns
returns c = push_may_push
