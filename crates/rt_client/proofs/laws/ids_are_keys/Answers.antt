use Rattle.rt_client.proofs.Allowed.{id-key}
use Rattle.rt_client.proofs.laws.ids_are_keys.Goals as goal

pub returns : goal.returns
returns c = id-key
