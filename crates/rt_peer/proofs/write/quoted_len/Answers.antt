use Rattle.std.proofs.Common.{[], ◌∷◌, length, ap, arith}
use Rattle.std.proofs.lemmas.List.{drop_all, length-append}
use Rattle.json.specs.Print.{escape}
use Rattle.rt_peer.proofs.TextLengths.{next_escaped}
use Rattle.rt_peer.proofs.write.quoted_len.Goals as goal

pub loop-byte-init : goal.loop-byte-init
loop-byte-init c = (omega arith, omega arith, omega arith)

pub overflow_add-len : goal.overflow_add-len
overflow_add-len c = omega (arith, c.loop-byte.invariant.1, c.loop-byte-test.true, c.escaped_len-len.ensures.bound, c.requires)

pub loop-byte-preserved : goal.loop-byte-preserved
loop-byte-preserved c =
    let l = c.loop-byte in (
      omega (arith, l.invariant.0, c.escaped_len-len.ensures.len, next_escaped c.args.bytes.now l.byte-index c.loop-byte-test.true),
      omega (arith, l.invariant.1, c.escaped_len-len.ensures.bound),
      omega (arith, c.loop-byte-test.true),
    )

pub returns-clause-len : goal.returns-clause-len
returns-clause-len c =
    let l = c.loop-byte in
    omega (arith, l.invariant.0, ap (λ ys. length (escape ys)) (drop_all l.byte-index c.args.bytes.now c.loop-byte-test.false), length-append (escape c.args.bytes.now) (34 ∷ []))

pub returns-clause-bound : goal.returns-clause-bound
returns-clause-bound c = omega (arith, c.loop-byte.invariant.1, c.loop-byte.invariant.2, c.requires)
