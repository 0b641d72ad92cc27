use Rattle.std.proofs.Common.{◌∙◌, ap}
use Rattle.std.proofs.lemmas.Result.{IfOk-weaker}
use Rattle.rt_emulate.specs.Clients.{told_text, whole_text}
use Rattle.rt_emulate.specs.inside.Rosters.{clients_of, put_to}
use Rattle.rt_emulate.proofs.roster.clients_text.Goals as goal

pub returns : goal.returns
returns c =
    let whole = whole_text (clients_of c.args.hub.now c.args.present.now) in
    IfOk-weaker c.told.result _ _ (λ text is.
    is ∙ ap told_text (c.into_text.ensures ∙ c.in_ok-put_whole.ensures ∙ ap (put_to whole) c.new-draft.ensures)) c.told.ensures
