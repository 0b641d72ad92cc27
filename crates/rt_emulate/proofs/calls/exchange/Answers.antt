use Rattle.std.proofs.Common.{string_bytes, subst}
use Rattle.std.specs.Option.{option_map}
use Rattle.rt_emulate.specs.inside.Asking.{AsksHub, IsReply, reply_to}
use Rattle.rt_emulate.proofs.calls.exchange.Goals as goal

pub returns : goal.returns
returns c = (
  c.in_ok-sent.sent,
  subst
      (λ t. AsksHub t c.in_ok-sent.sent c.args.hub.now c.ask_hub.new.hub c.args.keeper.now.journal
      c.ask_hub.new.keeper.journal c.args.told.now.items c.ask_hub.new.told.items)
      c.as_str.ensures.value c.in_ok-sent.ensures,
  subst (λ t. IsReply (reply_to c.args.asked.now t (option_map string_bytes c.in_ok-sent.sent)) c.reply_to.result)
      c.text_in-body.ensures c.reply_to.ensures,
)
