use Rattle.std.proofs.Common.{◌≡◌, ◌||◌, ◌&&◌, not, Bool, List, true, false, refl, sym, ap, ◌∙◌}
use Rattle.std.specs.List.{list_any}
use Rattle.rt_query.specs.QueryEq.{query_eq}
use Rattle.rt_query.specs.Supply.{does_supply}
use Rattle.rt_cover.specs.Cover.{Registered}
use Rattle.rt_cover.specs.inside.Endings.{by_number, left, comes_before}
use Rattle.rt_cover.proofs.StartLaws.{before_either, list_any_filtered}
use Rattle.rt_cover.proofs.supply.is_behind.Goals as goal

or_yes : (b : Bool) → (b || true) ≡ true
or_yes true = refl
or_yes false = refl

or_no : (b : Bool) → (b || false) ≡ b
or_no true = refl
or_no false = refl

pub returns-then-is_seen : goal.returns-then-is_seen
returns-then-is_seen g c =
    let l : Registered = c.args.listener.now in
    let ends : Registered → Bool = by_number (g.E.EndedListeners.ended c.args.ending.now) in
    let ls : List Registered = left ends c.args.listeners.now in
    let by : Bool = list_any (λ (m : Registered). not (query_eq m.1 l.1) && does_supply m.1 l.1) ls in
    c.if-is_seen.true
    ∙ sym (list_any_filtered (λ (m : Registered). not (ends m)) (λ (m : Registered). comes_before m l) c.args.listeners.now
    ∙ before_either ls l ∙ ap (λ b. by || b) (sym c.is_seen.ensures ∙ c.if-is_seen.true) ∙ or_yes by)

pub returns-else-is_seen : goal.returns-else-is_seen
returns-else-is_seen g c =
    let l : Registered = c.args.listener.now in
    let ends : Registered → Bool = by_number (g.E.EndedListeners.ended c.args.ending.now) in
    let ls : List Registered = left ends c.args.listeners.now in
    let by : Bool = list_any (λ (m : Registered). not (query_eq m.1 l.1) && does_supply m.1 l.1) ls in
    c.is_supplied.ensures
    ∙ (λ i. list_any (λ (m : Registered). not (query_eq m.1 (c.form.ensures i)) && does_supply m.1 (c.form.ensures i)) ls)
    ∙ sym (list_any_filtered (λ (m : Registered). not (ends m)) (λ (m : Registered). comes_before m l) c.args.listeners.now
    ∙ before_either ls l ∙ ap (λ b. by || b) (sym c.is_seen.ensures ∙ c.if-is_seen.false) ∙ or_no by)
