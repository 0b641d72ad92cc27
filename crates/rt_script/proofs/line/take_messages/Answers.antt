use Rattle.std.proofs.Common.{sym, subst, List}
use Rattle.rt_wire.specs.declared.client.ClientMessage.{ClientMessage}
use Rattle.rt_sync.specs.Core.{world_in}
use Rattle.rt_script.proofs.Doings.{on_err}
use Rattle.rt_script.proofs.Waiting.{HasTaken, lacks_taken, one_more_taken}
use Rattle.rt_script.proofs.line.take_messages.Goals as goal

pub loop-message-preserved : goal.loop-message-preserved
loop-message-preserved c =
    let P : List ClientMessage → Type 0 = λ xs. HasTaken (world_in c.args.core.now) xs (world_in c.take_outgoing.new.self) in
    subst P (sym c.in_ok-push.ensures.items)
    (one_more_taken (world_in c.args.core.now) (world_in c.loop-message.core) (world_in c.take_outgoing.new.self) c.loop-message.messages.items c.in-Some.message c.loop-message.invariant c.in-Some.ensures.sent)

pub returns-in_err-push-clause-lacking : goal.returns-in_err-push-clause-lacking
returns-in_err-push-clause-lacking c =
    on_err c.from_residual.result (lacks_taken (world_in c.args.core.now) (world_in c.take_outgoing.new.self) _
    (one_more_taken (world_in c.args.core.now) (world_in c.loop-message.core) (world_in c.take_outgoing.new.self) c.loop-message.messages.items c.in-Some.message c.loop-message.invariant c.in-Some.ensures.sent))
