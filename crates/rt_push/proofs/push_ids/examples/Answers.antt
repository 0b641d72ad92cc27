use Rattle.std.proofs.Common.{refl}
use Rattle.rt_push.specs.Digits.{digit_byte, digits}
use Rattle.rt_push.proofs.push_ids.examples.Goals as goal

pub returns-clause-written : goal.returns-clause-written
unfolding digit_byte digits
returns-clause-written c = (refl, refl, refl)
