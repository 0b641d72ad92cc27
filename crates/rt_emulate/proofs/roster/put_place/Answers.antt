use Rattle.std.proofs.Common.{rules, ◌≡◌, ◌∙◌, Some, sym, ap}
use Rattle.rt_emulate.specs.Clients.{client_text, comma}
use Rattle.rt_emulate.specs.inside.Rosters.{client_in, client_of, put_to, text_if_there}
use Rattle.rt_emulate.proofs.RosterLaws.{put_next}
use Rattle.rt_emulate.proofs.roster.put_place.Goals as goal

pub returns-in_ok-put_client-in-Some-clause-put : goal.returns-in_ok-put_client-in-Some-clause-put
returns-in_ok-put_client-in-Some-clause-put c =
    let n = c.args.connection in
    let there : client_in c.args.present.now c.args.place n ≡ Some c.in-Some.guest.now = search rules in
    put_next (comma c.args.is_first) (client_text (client_of c.args.hub.now n c.in-Some.guest.now)) c.args.draft.now c.put.new.self
    c.put_client.new.draft
    (c.in_ok-put-in-Some.ensures ∙ ap (λ t. put_to t c.args.draft.now) c.comma.ensures) c.in_ok-put_client-in-Some.ensures
    ∙ ap (λ o. put_to (text_if_there c.args.is_first c.args.hub.now n o) c.args.draft.now) (sym there)
