use Rattle.rt_world.proofs.CoveringLaws.{follows}
use Rattle.rt_world.proofs.DeltaLaws.{delta}
use Rattle.rt_world.proofs.laws.following_law.Goals as goal

pub returns : goal.returns
returns c = record { cover = follows; told = delta }
