use Rattle.std.proofs.Common.{arith, ◌+◌}
use Rattle.rt_http.proofs.Digits.{no_more, one_more}
use Rattle.rt_http.proofs.head.number_within.Goals as goal

pub returns-then-next-from : goal.returns-then-next-from
returns-then-next-from c =
    let ds = c.args.digits.now in
    let i = c.loop-digit.digit-index in
    let more = one_more ds i c.loop-digit-test.true c.requires in
    let all = no_more ds (i + 1) in
    grind (arith, more, all, c.loop-digit.invariant.0)

pub loop-digit-preserved : goal.loop-digit-preserved
loop-digit-preserved c =
    let more = one_more c.args.digits.now c.loop-digit.digit-index c.loop-digit-test.true c.requires in
    grind (arith, more, c.loop-digit.invariant.0)
