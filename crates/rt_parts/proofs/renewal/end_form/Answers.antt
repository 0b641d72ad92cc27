use Rattle.std.proofs.Common.{◌≡◌, ◌==◌, ◌&&◌, not, rules, ap, sym, subst, ◌∙◌}
use Rattle.std.specs.List.{filter, list_any}
use Rattle.std.proofs.lemmas.Fn.{filter_same}
use Rattle.rt_tree.specs.PathTree.{path_eq}
use Rattle.rt_query.specs.QueryEq.{query_eq}
use Rattle.rt_query.specs.Supply.{form}
use Rattle.rt_parts.specs.declared.listeners.HeldListener.{HeldListener}
use Rattle.rt_parts.specs.declared.places.ListenerPlace.{ListenerPlace}
use Rattle.rt_parts.specs.inside.HeldView.{AreHeld}
use Rattle.rt_parts.specs.inside.Placed.{IsIndex}
use Rattle.rt_parts.proofs.HeldLaws.{held_filter}
use Rattle.rt_parts.proofs.IndexLaws.{form_agree, index_filter}
use Rattle.rt_parts.proofs.renewal.end_form.Goals as goal

pub returns-clause-left : goal.returns-clause-left
returns-clause-left c =
    filter_same _ (λ (l : HeldListener). not (query_eq (form l.query) c.args.listened.now)) _ (λ x b f' k. search rules) _ _ c.retain.ensures.filtered

pub returns-clause-held : goal.returns-clause-held
returns-clause-held c = subst AreHeld (sym (returns-clause-left c)) (held_filter (λ (l : HeldListener). not (query_eq (form l.query) c.args.listened.now)) c.args.held.now.items c.requires.held)

pub returns-clause-index : goal.returns-clause-index
returns-clause-index c =
    let gone : c.end_places.new.places.items ≡ filter (λ (x : ListenerPlace). not (path_eq x.path c.args.listened.now.path && list_any (λ (l : HeldListener). l.number == x.number && query_eq (form l.query) c.args.listened.now) c.args.held.now.items)) c.args.places.now.items =
    c.end_places.ensures ∙ ap (λ hs. filter (λ (x : ListenerPlace). not (path_eq x.path c.args.listened.now.path && list_any (λ (l : HeldListener). l.number == x.number && query_eq (form l.query) c.args.listened.now) hs)) c.args.places.now.items) c.deref.ensures.value in
    subst (λ hs. IsIndex hs c.end_places.new.places.items) (sym (returns-clause-left c))
    (subst (IsIndex (filter (λ (l : HeldListener). not (query_eq (form l.query) c.args.listened.now)) c.args.held.now.items)) (sym gone)
    (index_filter (λ (x : ListenerPlace). not (path_eq x.path c.args.listened.now.path && list_any (λ (l : HeldListener). l.number == x.number && query_eq (form l.query) c.args.listened.now) c.args.held.now.items)) (λ (l : HeldListener). not (query_eq (form l.query) c.args.listened.now)) c.args.held.now.items c.args.places.now.items
    (form_agree c.args.held.now.items c.args.listened.now c.requires.held.rising) c.requires.index))
