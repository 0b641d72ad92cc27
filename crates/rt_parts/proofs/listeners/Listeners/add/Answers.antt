use Rattle.std.proofs.Common.{◌≡◌, ◌<◌, ◌||◌, ◌++◌, [], ◌∷◌, false, rules, ap, sym, subst, ◌∙◌}
use Rattle.std.specs.List.{All, list_any}
use Rattle.std.specs.Ordering.{is_eq}
use Rattle.rt_world.specs.World.{Listener}
use Rattle.rt_parts.specs.declared.places.ListenerPlace.{ListenerPlace}
use Rattle.rt_parts.specs.Listeners.{Listeners, new_listener}
use Rattle.rt_parts.specs.inside.HeldView.{AreHeld, counts_of}
use Rattle.rt_parts.specs.inside.Placed.{IsIndex, placed, stand_cmp, stand_of}
use Rattle.rt_parts.proofs.Counts.{counts_more}
use Rattle.rt_parts.proofs.HeldLaws.{all_below, held_more}
use Rattle.rt_parts.proofs.IndexLaws.{free_above, index_more}
use Rattle.rt_parts.proofs.RefreshLaws.{placed_renewed}
use Rattle.rt_parts.proofs.listeners.Listeners.add.Goals as goal

pub insert_place-requires-clause-free : goal.insert_place-requires-clause-free
insert_place-requires-clause-free c =
    let items : c.reserve.new.self.items ≡ c.self.inside.places.items = search rules in
    subst (λ ps. All (λ (x : ListenerPlace). is_eq (stand_cmp (stand_of x) (c.in_ok-path.path, c.args.number)) ≡ false) ps) (sym items)
    (free_above c.args.number c.in_ok-path.path c.self.inside.held.items c.self.inside.places.items c.self.invariant.1
    (all_below c.args.number c.self.inside.held.items (subst (λ all. All (λ (l : Listener). l.number < c.args.number) all.listeners) (sym c.self.view_is) c.requires.above)))

pub invariant_of-self-2 : goal.invariant_of-self-2
invariant_of-self-2 c =
    let items : c.reserve.new.self.items ≡ c.self.inside.places.items = search rules in
    let path : c.in_ok-path.path ≡ c.args.query.path = search rules in
    let here : placed c.in_ok-listener.listener ≡ record { path = c.args.query.path; number = c.args.number; seat = c.args.seat } =
    placed_renewed c.args.brought.now c.args.pending.now c.in_ok-listener.listener (new_listener c.args.number c.args.seat c.args.query) c.in_ok-listener.ensures.listener in (
      subst AreHeld (sym c.in_ok-push.ensures.items)
          (held_more c.self.inside.held.items c.in_ok-listener.listener c.args.number c.self.invariant.0 c.in_ok-listener.ensures.held c.in_ok-listener.ensures.number
          (subst (λ all. All (λ (l : Listener). l.number < c.args.number) all.listeners) (sym c.self.view_is) c.requires.above)),
      subst (λ hs. IsIndex hs c.insert_place.new.places.items) (sym c.in_ok-push.ensures.items)
          (index_more c.self.inside.held.items c.self.inside.places.items c.insert_place.new.places.items c.in_ok-listener.listener c.self.invariant.1 c.insert_place.ensures.order
          (λ p. c.insert_place.ensures.same p ∙ (λ i. p (record { path = path i; number = c.args.number; seat = c.args.seat }) || list_any p (items i)) ∙ ap (λ x. p x || list_any p c.self.inside.places.items) (sym here))),
    )

pub returns-clause-counts : goal.returns-clause-counts
returns-clause-counts c = (
  c.in_ok-listener.listener.count,
  ap counts_of c.in_ok-push.ensures.items ∙ counts_more c.self.inside.held.items c.in_ok-listener.listener
      ∙ ap (λ (all : Listeners). all.counts ++ c.in_ok-listener.listener.count ∷ []) c.self.view_is,
)
