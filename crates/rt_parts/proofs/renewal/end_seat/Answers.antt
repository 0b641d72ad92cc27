use Rattle.std.proofs.Common.{◌≡◌, ◌==◌, not, rules, refl, sym, subst}
use Rattle.std.specs.List.{filter}
use Rattle.std.proofs.lemmas.Fn.{filter_same}
use Rattle.rt_parts.specs.declared.listeners.HeldListener.{HeldListener}
use Rattle.rt_parts.specs.declared.places.ListenerPlace.{ListenerPlace}
use Rattle.rt_parts.specs.inside.HeldView.{AreHeld}
use Rattle.rt_parts.specs.inside.Placed.{IsIndex}
use Rattle.rt_parts.proofs.HeldLaws.{held_filter}
use Rattle.rt_parts.proofs.IndexLaws.{index_filter}
use Rattle.rt_parts.proofs.renewal.end_seat.Goals as goal

pub returns-clause-left : goal.returns-clause-left
returns-clause-left c =
    filter_same _ (λ (l : HeldListener). not (l.seat == c.args.seat)) _ (λ x b f' k. search rules) _ _ c.retain-2.ensures.filtered

pub returns-clause-held : goal.returns-clause-held
returns-clause-held c = subst AreHeld (sym (returns-clause-left c)) (held_filter (λ (l : HeldListener). not (l.seat == c.args.seat)) c.args.held.now.items c.requires.held)

pub returns-clause-index : goal.returns-clause-index
returns-clause-index c =
    let gone : c.retain.new.self.items ≡ filter (λ (x : ListenerPlace). not (x.seat == c.args.seat)) c.args.places.now.items =
    filter_same _ (λ (x : ListenerPlace). not (x.seat == c.args.seat)) _ (λ x b f' k. search rules) _ _ c.retain.ensures.filtered in
    subst (λ hs. IsIndex hs c.retain.new.self.items) (sym (returns-clause-left c))
    (subst (IsIndex (filter (λ (l : HeldListener). not (l.seat == c.args.seat)) c.args.held.now.items)) (sym gone)
    (index_filter (λ (x : ListenerPlace). not (x.seat == c.args.seat)) (λ (l : HeldListener). not (l.seat == c.args.seat)) c.args.held.now.items c.args.places.now.items (λ k d lt. refl) c.requires.index))
