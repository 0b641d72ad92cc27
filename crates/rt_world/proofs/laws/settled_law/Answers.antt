use Rattle.rt_world.proofs.MadeLaws.{accepted_is_made, refused_is_made}
use Rattle.rt_world.proofs.laws.settled_law.Goals as goal

pub returns : goal.returns
returns c = record { accepted = accepted_is_made; refused = refused_is_made }
