use Rattle.std.proofs.Common.{◌≡◌, ◌<◌, ◌+◌, ◌^◌, length, decimal}
use Rattle.rt_peer.proofs.write.decimal_len.Given as goal

abbrev pub invariant-loop-rest : goal.invariant-loop-rest
invariant-loop-rest l = (l.len + length (decimal l.rest) ≡ length (decimal l.number) + 1) × (l.rest < 2 ^ 64) × (l.number < 2 ^ 64)

abbrev pub decreases-loop-rest : goal.decreases-loop-rest
decreases-loop-rest l = l.rest
