use Rattle.std.proofs.Common.{rules, ◌≡◌, ◌∙◌, None}
use Rattle.rt_socket.proofs.Joining.{takes_next}
use Rattle.rt_socket.proofs.wire.say_all.Goals as goal

pub loop-message-preserved : goal.loop-message-preserved
loop-message-preserved g c =
    let none : c.in_ok-why.field-0 ≡ None = search rules in (
      takes_next (g.W.Wire.contents c.args.wire.now) (g.W.Wire.contents c.loop-message.wire)
          (g.W.Wire.contents c.put.new.self) c.args.messages.now c.loop-message.message-index
          c.message-item.result c.as_str.result.now c.loop-message-test.true c.message-item.is
          (c.as_str.ensures.value ∙ c.in_ok-text.ensures.text) c.loop-message.invariant.0
          (c.in_ok-why.ensures.takes none),
      c.in_ok-why.ensures.remaining ∙ c.loop-message.invariant.1,
    )
