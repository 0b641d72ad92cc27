use Rattle.std.proofs.Common.{[], Ok, true, refl, sym, ap, ◌∙◌}
use Rattle.rt_wire.specs.Client.{client_message}
use Rattle.rt_input.specs.Counted.{known_output}
use Rattle.rt_serve.specs.Answers.{own}
use Rattle.rt_serve.specs.declared.serve.ServeError.{ServeError}
use Rattle.rt_serve.proofs.Answers.{sent_in, sent_on}
use Rattle.rt_serve.proofs.serve.take.Goals as goal

pub returns-in-Sends-clause-told : goal.returns-in-Sends-clause-told
returns-in-Sends-clause-told g c =
    sent_on (known_output g.S.Write.contents) c.args.socket.now c.send_all.new.socket c.args.peer.now
    c.args.connection (client_message c.args.words.now) c.in_ok-sent.field-0 c.deref.result.now
    c.send_all.result
    (c.deref.ensures.value ∙ c.keep_own.ensures
    ∙ sym (ap (λ a. own c.args.connection (sent_in a)) c.in-Sends.is))
    c.in_ok-sent.ensures.answered c.send_all.ensures.told

pub returns-in-PassedOver-clause-told : goal.returns-in-PassedOver-clause-told
returns-in-PassedOver-clause-told g c =
    sent_on {E = ServeError} (known_output g.S.Write.contents) c.args.socket.now c.args.socket.now c.args.peer.now
    c.args.connection (client_message c.args.words.now) c.in_ok-sent.field-0 [] (Ok true)
    (sym (ap (λ a. own c.args.connection (sent_in a)) c.in-PassedOver.is))
    c.in_ok-sent.ensures.answered (λ _. refl)
