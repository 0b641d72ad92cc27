use Rattle.std.proofs.Common.{refl}
use Rattle.serde_json.proofs.OnLiterals.{serde_json_on_literals}
use Rattle.rt_hub.proofs.examples.others_are_not_answered.Goals as goal

pub returns : goal.returns
unfolding serde_json_on_literals
returns c = (refl, refl, refl, refl, refl, refl)
