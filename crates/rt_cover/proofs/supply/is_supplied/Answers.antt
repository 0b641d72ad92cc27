use Rattle.std.proofs.Common.{◌≡◌, ◌&&◌, ◌||◌, not, length, sym, ap, ◌∙◌}
use Rattle.std.specs.List.{list_any}
use Rattle.std.proofs.lemmas.List.Elements.{All-filter}
use Rattle.rt_query.specs.Queries.{Query, is_filtered}
use Rattle.rt_query.specs.Supply.{form}
use Rattle.rt_cover.specs.Cover.{Registered}
use Rattle.rt_cover.specs.inside.Endings.{by_number, left}
use Rattle.rt_cover.proofs.ByPathLaws.{is_plain_above, is_plain_at, is_wider, supplied_by_paths}
use Rattle.rt_cover.proofs.supply.is_supplied.Goals as goal

pub returns-then-has_plain_above : goal.returns-then-has_plain_above
returns-then-has_plain_above g c =
    let f : Query = c.args.query.now in
    let ls = left (by_number (g.E.EndedListeners.ended c.args.ending.now)) c.args.listeners.now in
    let is : c.keys.result.now ≡ f.path = c.keys.ensures.keys ∙ c.path.ensures in
    c.if-has_plain_above.true
    ∙ sym (supplied_by_paths f ls (All-filter (λ (l : Registered). not (g.E.EndedListeners.ended c.args.ending.now l.0)) (λ (l : Registered). form l.1 ≡ l.1) c.args.listeners.now c.requires.forms) c.requires.own
    ∙ ap (λ b. b || (is_filtered f && (list_any (is_plain_at (λ (x : Registered). x.1) f.path) ls || list_any (is_wider f) ls)))
    (ap (λ p. list_any (is_plain_above (λ (x : Registered). x.1) p (length p)) ls) (sym is) ∙ sym c.has_plain_above.ensures ∙ c.if-has_plain_above.true))

pub returns-then-is_filtered : goal.returns-then-is_filtered
returns-then-is_filtered g c =
    let f : Query = c.args.query.now in
    let ls = left (by_number (g.E.EndedListeners.ended c.args.ending.now)) c.args.listeners.now in
    let is : c.keys.result.now ≡ f.path = c.keys.ensures.keys ∙ c.path.ensures in
    c.is_supplied_there.ensures
    ∙ sym (supplied_by_paths f ls (All-filter (λ (l : Registered). not (g.E.EndedListeners.ended c.args.ending.now l.0)) (λ (l : Registered). form l.1 ≡ l.1) c.args.listeners.now c.requires.forms) c.requires.own
    ∙ (λ i. (ap (λ p. list_any (is_plain_above (λ (x : Registered). x.1) p (length p)) ls) (sym is) ∙ sym c.has_plain_above.ensures ∙ c.if-has_plain_above.false) i
    || ((sym c.is_filtered.ensures ∙ c.if-is_filtered.true) i && (list_any (is_plain_at (λ (x : Registered). x.1) f.path) ls || list_any (is_wider f) ls))))

pub returns-else-is_filtered : goal.returns-else-is_filtered
returns-else-is_filtered g c =
    let f : Query = c.args.query.now in
    let ls = left (by_number (g.E.EndedListeners.ended c.args.ending.now)) c.args.listeners.now in
    let is : c.keys.result.now ≡ f.path = c.keys.ensures.keys ∙ c.path.ensures in
    c.if-is_filtered.false
    ∙ sym (supplied_by_paths f ls (All-filter (λ (l : Registered). not (g.E.EndedListeners.ended c.args.ending.now l.0)) (λ (l : Registered). form l.1 ≡ l.1) c.args.listeners.now c.requires.forms) c.requires.own
    ∙ (λ i. (ap (λ p. list_any (is_plain_above (λ (x : Registered). x.1) p (length p)) ls) (sym is) ∙ sym c.has_plain_above.ensures ∙ c.if-has_plain_above.false) i
    || ((sym c.is_filtered.ensures ∙ c.if-is_filtered.false) i && (list_any (is_plain_at (λ (x : Registered). x.1) f.path) ls || list_any (is_wider f) ls))))
