use Rattle.std.proofs.Common.{◌≡◌, ◌||◌, sym, ap, ◌∙◌}
use Rattle.std.specs.List.{list_any}
use Rattle.rt_query.specs.Queries.{Query}
use Rattle.rt_cover.specs.Cover.{Registered}
use Rattle.rt_cover.specs.inside.Endings.{by_number, left}
use Rattle.rt_cover.proofs.ByPathLaws.{is_plain_at, is_wider}
use Rattle.rt_cover.proofs.supply.is_supplied_there.Goals as goal

pub returns-then-has_plain : goal.returns-then-has_plain
returns-then-has_plain g c =
    let f : Query = c.args.query.now in
    let ls = left (by_number (g.E.EndedListeners.ended c.args.ending.now)) c.args.listeners.now in
    let is : c.keys.result.now ≡ f.path = c.keys.ensures.keys ∙ c.path.ensures in
    c.if-has_plain.true
    ∙ sym (ap (λ b. b || list_any (is_wider f) ls)
    (ap (λ p. list_any (is_plain_at (λ (x : Registered). x.1) p) ls) (sym is) ∙ sym c.has_plain.ensures ∙ c.if-has_plain.true))

pub returns-else-has_plain : goal.returns-else-has_plain
returns-else-has_plain g c =
    let f : Query = c.args.query.now in
    let ls = left (by_number (g.E.EndedListeners.ended c.args.ending.now)) c.args.listeners.now in
    let is : c.keys.result.now ≡ f.path = c.keys.ensures.keys ∙ c.path.ensures in
    c.has_wider_beside.ensures
    ∙ sym (ap (λ b. b || list_any (is_wider f) ls)
    (ap (λ p. list_any (is_plain_at (λ (x : Registered). x.1) p) ls) (sym is) ∙ sym c.has_plain.ensures ∙ c.if-has_plain.false))
