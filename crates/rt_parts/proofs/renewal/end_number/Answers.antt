use Rattle.std.proofs.Common.{◌≡◌, ◌==◌, ◌<◌, not, length, get_or, Some, None, rules, sym, subst, ap, ◌∙◌}
use Rattle.std.specs.List.{filter, position}
use Rattle.std.specs.Ordering.{is_eq}
use Rattle.std.proofs.lemmas.List.Quantifiers.{position-Some}
use Rattle.rt_query.specs.Queries.{Query}
use Rattle.rt_parts.specs.declared.listeners.HeldListener.{HeldListener}
use Rattle.rt_parts.specs.declared.places.ListenerPlace.{ListenerPlace}
use Rattle.rt_parts.specs.inside.HeldView.{AreHeld}
use Rattle.rt_parts.specs.inside.Placed.{IsIndex, stand_cmp, stand_of}
use Rattle.rt_parts.proofs.HeldLaws.{held_filter}
use Rattle.rt_parts.proofs.IndexLaws.{index_filter, removed_agree}
use Rattle.rt_writes.specs.laws.Places.{filter_none_found, others_left}
use Rattle.rt_parts.proofs.renewal.end_number.Goals as goal

pub returns-in-Some-clause-left : goal.returns-in-Some-clause-left
returns-in-Some-clause-left c =
    let at : position (λ (l : HeldListener). l.number == c.args.number) c.args.held.now.items ≡ Some c.in-Some.at = search rules in
    let within = (position-Some (λ (l : HeldListener). l.number == c.args.number) c.args.held.now.items c.in-Some.at c.remove.result at).0 in
    c.remove.ensures.items ∙ others_left (λ (l : HeldListener). l.number) c.args.held.now.items c.in-Some.at c.args.number within c.requires.held.rising at

pub returns-in-Some-clause-held : goal.returns-in-Some-clause-held
returns-in-Some-clause-held c = subst AreHeld (sym (returns-in-Some-clause-left c)) (held_filter (λ (l : HeldListener). not (l.number == c.args.number)) c.args.held.now.items c.requires.held)

pub returns-in-Some-clause-index : goal.returns-in-Some-clause-index
returns-in-Some-clause-index c =
    let at : position (λ (l : HeldListener). l.number == c.args.number) c.args.held.now.items ≡ Some c.in-Some.at = search rules in
    let within : c.in-Some.at < length c.args.held.now.items = (position-Some (λ (l : HeldListener). l.number == c.args.number) c.args.held.now.items c.in-Some.at c.remove.result at).0 in
    let path : c.path.result.now ≡ (get_or c.args.held.now.items c.in-Some.at c.index.result.now).query.path = c.path.ensures ∙ ap (λ (q : Query). q.path) c.query.ensures ∙ ap (λ (h : HeldListener). h.query.path) c.index.ensures in
    subst (λ hs. IsIndex hs c.remove_place.new.places.items) (sym (returns-in-Some-clause-left c))
    (subst (IsIndex (filter (λ (l : HeldListener). not (l.number == c.args.number)) c.args.held.now.items)) (sym c.remove_place.ensures)
    (index_filter (λ (x : ListenerPlace). not (is_eq (stand_cmp (stand_of x) (c.path.result.now, c.args.number)))) (λ (l : HeldListener). not (l.number == c.args.number)) c.args.held.now.items c.args.places.now.items
    (removed_agree c.args.held.now.items c.args.number c.in-Some.at c.path.result.now c.index.result.now c.requires.held.rising at within path) c.requires.index))

pub returns-in-None-clause-left : goal.returns-in-None-clause-left
returns-in-None-clause-left c =
    let none : position (λ (l : HeldListener). l.number == c.args.number) c.args.held.now.items ≡ None = search rules in
    (filter_none_found (λ (l : HeldListener). l.number == c.args.number) c.args.held.now.items none).1
