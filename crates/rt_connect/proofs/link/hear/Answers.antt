use Rattle.std.proofs.Common.{◌≡◌, arith}
use Rattle.rt_connect.proofs.Hears.{heard_none, heard_now, passing_more, passing_none}
use Rattle.rt_connect.proofs.link.hear.Goals as goal

pub pings-init : goal.pings-init
pings-init g c = passing_none g.W.Awaited.hears c.args.pings.now c.args.wire.now

pub returns-in-Some : goal.returns-in-Some
returns-in-Some g c =
    heard_now g.W.Awaited.hears c.args.pings.now c.pings.pings c.args.wire.now c.pings.wire c.hear_next.new.self
    c.in_ok-given.given c.told_by.result c.in-Some.heard c.pings.invariant c.pings-test.true
    c.in_ok-given.ensures c.told_by.ensures c.in-Some.is

pub pings-preserved : goal.pings-preserved
pings-preserved g c =
    passing_more g.W.Awaited.hears c.args.pings.now c.pings.pings c.args.wire.now c.pings.wire c.hear_next.new.self
    c.in_ok-given.given c.told_by.result c.pings.invariant c.pings-test.true c.in_ok-given.ensures
    c.told_by.ensures c.in_default.is

pub returns : goal.returns
returns g c =
    let none : c.pings.pings ≡ 0 = omega (arith, c.pings-test.false) in
    heard_none g.W.Awaited.hears c.args.pings.now c.pings.pings c.args.wire.now c.pings.wire c.pings.invariant none
