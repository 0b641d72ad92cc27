use Rattle.std.proofs.Common.{◌≡◌, ◌<◌, ◌^◌, take}
use Rattle.rt_push.specs.Digits.{number}
use Rattle.rt_push.proofs.push_ids.number.Given as goal

abbrev pub invariant-loop-digit : goal.invariant-loop-digit
invariant-loop-digit l = (l.number ≡ number (take l.digit-index l.digits)) × (l.number < 64 ^ l.digit-index)
