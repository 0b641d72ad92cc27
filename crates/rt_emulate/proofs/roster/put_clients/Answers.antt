use Rattle.std.proofs.Common.{rules, ◌≡◌, ◌+◌, ◌<◌, ◌∷◌, ◌∙◌, ℕ, List, Option, length, map, drop, get_or, ap, sym, add-one}
use Rattle.std.proofs.Math.Seq.{drop-cons}
use Rattle.rt_emulate.specs.Clients.{client_text, listed}
use Rattle.rt_emulate.specs.inside.Rosters.{client_in, clients_from, put_to}
use Rattle.rt_emulate.proofs.RosterLaws.{placed_on}
use Rattle.rt_emulate.proofs.roster.put_clients.Goals as goal

next : (places : List (Option ℕ)) (at : ℕ) (d : Option ℕ) → at < length places
    → drop at places ≡ get_or places at d ∷ drop (at + 1) places
next places at d lt = rw add-one (drop-cons places at d lt)

pub loop-index-preserved : goal.loop-index-preserved
loop-index-preserved c =
    let hub = c.args.hub.now in
    let p = c.args.present.now in
    let places = p.places.items in
    let at = c.loop-index.index in
    let first = c.loop-index.is_first in
    let place = c.index-place.result.now in
    let rest = clients_from hub p (at + 1 + 1) (drop (at + 1) places) in
    let lt : at < length places = search rules in
    let is : get_or places at place ≡ place = search rules in
    ap (λ b. put_to (listed b (map client_text rest)) c.put_place.new.draft) c.stays_first-is_first.ensures
    ∙ placed_on first c.in_ok-there.there hub (at + 1) (client_in p place (at + 1)) rest c.loop-index.draft c.put_place.new.draft
    c.in_ok-there.ensures.there c.in_ok-there.ensures.put
    ∙ ap (λ ps. put_to (listed first (map client_text (clients_from hub p (at + 1) ps))) c.loop-index.draft)
    (sym (next places at place lt ∙ ap (λ q. q ∷ drop (at + 1) places) is))
    ∙ c.loop-index.invariant
