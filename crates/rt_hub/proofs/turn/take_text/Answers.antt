use Rattle.std.proofs.Common.{◌++◌, ◌∙◌, map, string_bytes, sym, ap}
use Rattle.rt_wire.specs.Client.{client_message}
use Rattle.rt_hub.specs.Turns.{request_of}
use Rattle.rt_hub.proofs.Taking.{accepted, accepted_of, is_passed, message_answers, none_behind, noted, on_ok}
use Rattle.rt_hub.proofs.Taking.{passed_answers, told_of, took_made}
use Rattle.rt_hub.proofs.turn.take_text.Goals as goal

pub returns-in-Message-clause-made : goal.returns-in-Message-clause-made
returns-in-Message-clause-made g c =
    on_ok c.note.result (λ _.
    took_made c.args.connection (client_message c.args.text.now) c.args.hub.now c.take.new.self
    c.in_ok-taken.ensures.taken) c.note.ensures.told

pub returns-in-Message-clause-told : goal.returns-in-Message-clause-told
returns-in-Message-clause-told g c =
    on_ok c.note.result (λ e.
    told_of c.args.connection (client_message c.args.text.now) c.args.hub.now c.in_ok-taken.taken
    c.args.notes.now.told.items c.note.new.notes.told.items c.in_ok-taken.ensures.answer
    (e ∙ ap (λ l. c.args.notes.now.told.items ++ l) (c.as_slice.ensures.value ∙ ap noted (sym c.in-Message.is))))
    c.note.ensures.told

pub returns-in-Message-clause-answered : goal.returns-in-Message-clause-answered
returns-in-Message-clause-answered g c =
    on_ok c.note.result (λ e.
    none_behind _ _ _ (ap (λ v. map string_bytes v.items) e)
    (message_answers c.args.connection c.args.text.now (client_message c.args.text.now) c.args.hub.now
    c.take.new.self c.in_ok-taken.taken c.take.result (ap is_passed c.in-Message.is) c.in_ok-taken.was
    c.take.ensures.refused c.in_ok-taken.ensures.answer))
    c.note.ensures.answered

pub returns-in-Message-clause-accepted : goal.returns-in-Message-clause-accepted
returns-in-Message-clause-accepted g c =
    on_ok c.note.result (λ e.
    accepted_of c.args.connection c.args.text.now (client_message c.args.text.now) c.args.hub.now
    c.in_ok-taken.taken (map request_of c.args.notes.now.accepted.items)
    (map request_of c.note.new.notes.accepted.items) c.in_ok-taken.ensures.answer
    (e ∙ ap (λ t. map request_of c.args.notes.now.accepted.items ++ accepted c.args.text.now t)
    (sym c.in-Message.is)))
    c.note.ensures.accepted

pub returns-in-PassedOver-clause-made : goal.returns-in-PassedOver-clause-made
returns-in-PassedOver-clause-made g c =
    on_ok c.refuse.result (λ _.
    took_made c.args.connection (client_message c.args.text.now) c.args.hub.now c.take.new.self
    c.in_ok-taken.ensures.taken) c.refuse.ensures.told

pub returns-in-PassedOver-clause-told : goal.returns-in-PassedOver-clause-told
returns-in-PassedOver-clause-told g c =
    on_ok c.refuse.result (λ e.
    told_of c.args.connection (client_message c.args.text.now) c.args.hub.now c.in_ok-taken.taken
    c.args.notes.now.told.items c.refuse.new.notes.told.items c.in_ok-taken.ensures.answer
    (none_behind _ _ _ (ap (λ v. v.items) e) (ap noted c.in-PassedOver.is)))
    c.refuse.ensures.told

pub returns-in-PassedOver-clause-answered : goal.returns-in-PassedOver-clause-answered
returns-in-PassedOver-clause-answered g c =
    on_ok c.refuse.result (λ e.
    e ∙ ap (λ l. map string_bytes c.args.notes.now.answers.items ++ l) (sym
    (passed_answers c.args.connection c.args.text.now (client_message c.args.text.now) c.args.hub.now
    c.take.new.self c.in_ok-taken.taken (ap is_passed c.in-PassedOver.is) c.in_ok-taken.ensures.taken
    c.in_ok-taken.ensures.answer)))
    c.refuse.ensures.answered

pub returns-in-PassedOver-clause-accepted : goal.returns-in-PassedOver-clause-accepted
returns-in-PassedOver-clause-accepted g c =
    on_ok c.refuse.result (λ e.
    accepted_of c.args.connection c.args.text.now (client_message c.args.text.now) c.args.hub.now
    c.in_ok-taken.taken (map request_of c.args.notes.now.accepted.items)
    (map request_of c.refuse.new.notes.accepted.items) c.in_ok-taken.ensures.answer
    (none_behind _ _ _ (ap (λ v. map request_of v.items) e) (ap (accepted c.args.text.now) c.in-PassedOver.is)))
    c.refuse.ensures.accepted
