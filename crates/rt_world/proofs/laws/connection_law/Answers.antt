use Rattle.rt_world.proofs.AskedLaws.{connected_is_made, disconnected_is_made}
use Rattle.rt_world.proofs.laws.connection_law.Goals as goal

pub returns : goal.returns
returns c = record { connected = connected_is_made; disconnected = disconnected_is_made }
