use Rattle.std.proofs.Common.{◌≤◌, length, decimal, ap, arith}
use Rattle.std.proofs.lemmas.Fmt.{length-decimal-le, decimal_digit}
use Rattle.rt_peer.proofs.TextLengths.{length-decimal-step}
use Rattle.rt_peer.proofs.write.decimal_len.Goals as goal

pub loop-rest-init : goal.loop-rest-init
loop-rest-init c = (omega arith, c.ranges.number.fits, c.ranges.number.fits)

pub overflow_add-len : goal.overflow_add-len
overflow_add-len c =
    let l = c.loop-rest in
    let all : length (decimal c.args.number) ≤ 20 = length-decimal-le 20 c.args.number (omega arith) (omega (arith, l.invariant.2)) l.invariant.2 in
    omega (arith, l.invariant.0, all)

pub loop-rest-preserved : goal.loop-rest-preserved
loop-rest-preserved c =
    let l = c.loop-rest in (
      omega (arith, l.invariant.0, length-decimal-step l.rest (omega (arith, c.loop-rest-test.true)) l.invariant.1),
      omega (arith, l.invariant.1),
      l.invariant.2,
    )

pub returns-clause-len : goal.returns-clause-len
returns-clause-len c =
    let l = c.loop-rest in
    omega (arith, l.invariant.0, ap length (decimal_digit l.rest (omega (arith, c.loop-rest-test.false))))

pub returns-clause-bound : goal.returns-clause-bound
returns-clause-bound c =
    let l = c.loop-rest in
    let all : length (decimal c.args.number) ≤ 20 = length-decimal-le 20 c.args.number (omega arith) (omega (arith, l.invariant.2)) l.invariant.2 in
    omega (arith, l.invariant.0, all, ap length (decimal_digit l.rest (omega (arith, c.loop-rest-test.false))))
