use Rattle.std.proofs.Common.{◌≡◌, ◌≤◌, ◌+◌, ◌*◌, length, drop}
use Rattle.json.specs.Print.{escape}
use Rattle.rt_peer.proofs.write.quoted_len.Given as goal

abbrev pub invariant-loop-byte : goal.invariant-loop-byte
invariant-loop-byte l =
    (l.len + length (escape (drop l.byte-index l.bytes)) ≡ length (escape l.bytes) + 2) × (l.len ≤ 6 * l.byte-index + 2) × (l.byte-index ≤ length l.bytes)
