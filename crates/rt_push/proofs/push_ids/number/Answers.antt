use Rattle.std.proofs.Common.{arith}
use Rattle.rt_push.proofs.DigitLaws.{room_for_more}
use Rattle.rt_push.proofs.push_ids.number.Goals as goal

pub overflow_mul-number : goal.overflow_mul-number
overflow_mul-number c = omega (arith, room_for_more c.loop-digit.number c.loop-digit.digit-index c.loop-digit.invariant.1 c.loop-digit-test.true)

pub overflow_add-number : goal.overflow_add-number
overflow_add-number c =
    omega (arith, room_for_more c.loop-digit.number c.loop-digit.digit-index c.loop-digit.invariant.1 c.loop-digit-test.true, c.fits-digits c.loop-digit.digit-index)
