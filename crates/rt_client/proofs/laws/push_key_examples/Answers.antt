use Rattle.std.proofs.Common.{refl}
use Rattle.rt_push.specs.Digits.{digit_byte, digits}
use Rattle.rt_client.proofs.laws.push_key_examples.Goals as goal

pub returns-clause-rise : goal.returns-clause-rise
unfolding digit_byte digits
returns-clause-rise c = (refl, refl)

pub returns-clause-below : goal.returns-clause-below
unfolding digit_byte digits
returns-clause-below c = (refl, refl, refl)

pub returns-clause-above : goal.returns-clause-above
unfolding digit_byte digits
returns-clause-above c = (refl, refl, refl)
