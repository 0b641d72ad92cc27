use Rattle.std.proofs.Common.{◌≡◌, arith}
use Rattle.rt_input.specs.declared.stream.TheConstants.{MAX_MESSAGE_BYTES}
use Rattle.rt_connect.proofs.Ends.{over_all, over_end, over_more}
use Rattle.rt_connect.proofs.link.pass_over.Goals as goal

pub returns-in-Some : goal.returns-in-Some
returns-in-Some g c =
    over_end g.W.Awaited.ends MAX_MESSAGE_BYTES c.loop.counter c.args.wire.now c.loop.wire c.hear_last.new.self
    c.in_ok-given.given c.end_of.result c.in-Some.why c.loop.invariant (omega (arith, c.loop-test.true))
    c.in_ok-given.ensures c.end_of.ensures c.in-Some.is

pub loop-preserved : goal.loop-preserved
loop-preserved g c =
    over_more g.W.Awaited.ends c.loop.counter c.args.wire.now c.loop.wire c.hear_last.new.self
    c.in_ok-given.given c.end_of.result c.loop.invariant c.in_ok-given.ensures c.end_of.ensures
    c.in_default.is

pub returns : goal.returns
returns g c =
    let all : c.loop.counter ≡ MAX_MESSAGE_BYTES = omega (arith, c.loop.auto.counter-end, c.loop-test.false) in
    over_all g.W.Awaited.ends MAX_MESSAGE_BYTES c.loop.counter c.args.wire.now c.loop.wire c.loop.invariant all
