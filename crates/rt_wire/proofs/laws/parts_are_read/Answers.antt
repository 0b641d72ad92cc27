use Rattle.std.proofs.Common.{refl}
use Rattle.serde_json.proofs.OnLiterals.{serde_json_on_literals}
use Rattle.rt_wire.proofs.laws.parts_are_read.Goals as goal

pub returns : goal.returns
unfolding serde_json_on_literals
returns c = (refl, refl)
