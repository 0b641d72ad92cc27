use Rattle.std.proofs.Common.{◌≡◌, ◌≤◌, length, ◌++◌, drop}
use Rattle.rt_push.specs.Digits.{text}
use Rattle.rt_push.proofs.push_ids.write.Given as goal

abbrev pub invariant-loop-place : goal.invariant-loop-place
invariant-loop-place l =
    (l.place ≤ length l.room) × (length l.room ≡ length l.fn.room) × (text (length l.fn.room) l.fn.number ≡ text l.place l.rest ++ drop l.place l.room)

abbrev pub decreases-loop-place : goal.decreases-loop-place
decreases-loop-place l = l.place
