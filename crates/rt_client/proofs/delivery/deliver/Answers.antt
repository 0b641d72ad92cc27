use Rattle.std.proofs.Common.{rules, inr}
use Rattle.rt_client.specs.Delivery.{HandsOut}
use Rattle.rt_client.proofs.Delivered.{another_turn, turned_once}
use Rattle.rt_client.proofs.delivery.deliver.Goals as goal

pub loop-preserved : goal.loop-preserved
loop-preserved g c =
    let one : HandsOut g.S.Sink.after_item 1 c.loop.seat c.loop.sink c.turn.new.seat c.turn.new.sink = search (turned_once, rules) in
    let may : g.G.Gate.may_go c.args.gate.now = search rules in (
      another_turn g.S.Sink.after_item c.loop.counter c.args.seat.now c.args.sink.now c.loop.seat c.loop.sink c.turn.new.seat c.turn.new.sink c.loop.invariant.0 one,
      inr may,
    )
