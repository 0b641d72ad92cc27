use Rattle.rt_world.proofs.MadeLaws.{push_is_made}
use Rattle.rt_world.proofs.laws.push_law.Goals as goal

pub returns : goal.returns
returns c = push_is_made
