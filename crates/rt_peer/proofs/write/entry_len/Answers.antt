use Rattle.std.proofs.Common.{arith, ap, length}
use Rattle.json.specs.Print.{quoted}
use Rattle.rt_peer.proofs.TextLengths.{key_short}
use Rattle.rt_peer.proofs.write.entry_len.Goals as goal

pub quoted_len-requires : goal.quoted_len-requires
quoted_len-requires c = omega (arith, key_short c.args.key.now c.text.ensures.key, ap length c.text.ensures.text, ap length c.as_bytes.ensures.value)

pub overflow_add-quoted_len : goal.overflow_add-quoted_len
overflow_add-quoted_len c = omega (arith, key_short c.args.key.now c.text.ensures.key, ap length c.text.ensures.text, ap length c.as_bytes.ensures.value, c.quoted_len.ensures.bound)

pub returns : goal.returns
returns c = omega (arith, c.saturating_add.ensures, c.quoted_len.ensures.len, ap (λ k. length (quoted k)) c.as_bytes.ensures.value, ap (λ k. length (quoted k)) c.text.ensures.text)
