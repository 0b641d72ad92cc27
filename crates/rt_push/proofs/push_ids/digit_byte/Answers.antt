use Rattle.std.proofs.Common.{ap}
use Rattle.std.specs.Prelude.{slice_index}
use Rattle.rt_push.specs.Digits.{alphabet, digit_byte}
use Rattle.rt_push.proofs.push_ids.digit_byte.Goals as goal

pub returns : goal.returns
unfolding digit_byte
returns c = ap (slice_index alphabet) c.from.ensures
