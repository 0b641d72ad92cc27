use Rattle.std.proofs.Common.{rules, ◌≡◌, ◌∙◌, ◌<◌, ℕ, List, length, map, sym, ap, subst, OnOk}
use Rattle.std.specs.List.{filter, All, AllPairs}
use Rattle.std.proofs.lemmas.Fn.{filter_same}
use Rattle.rt_query.specs.Queries.{Query}
use Rattle.rt_cache.specs.Recover.{recover, without_places}
use Rattle.rt_cover.specs.Cover.{Tagged}
use Rattle.rt_cover.specs.State.{Cover}
use Rattle.rt_world.specs.World.{listening}
use Rattle.rt_sync.specs.inside.Losing.{places_at, is_ended, HasLost}
use Rattle.rt_sync.proofs.Losing.{ends_forms, told_by}
use Rattle.rt_sync.proofs.PlacesLeft.{places_left, places_in, places_up}
use Rattle.rt_sync.proofs.steps.losses.lose.Goals as goal

pub unregister-requires-clause-rising : goal.unregister-requires-clause-rising
unregister-requires-clause-rising c =
    let was : Cover = c.requires.0 in
    let h : HasLost was c.args.cover.now c.args.numbers.now c.args.listeners.now.listeners c.args.ended.items c.args.delta.now c.args.brought.now = c.requires.1 in
    let places : c.deref.result.now ≡ places_at c.args.listeners.now.listeners c.args.numbers.now = search rules in
    subst (AllPairs (λ (p q : ℕ). p < q)) (sym places) (places_up c.args.listeners.now.listeners was.listeners h.listened h.rises c.args.numbers.now h.rising)

pub unregister-requires-clause-within : goal.unregister-requires-clause-within
unregister-requires-clause-within c =
    let was : Cover = c.requires.0 in
    let h : HasLost was c.args.cover.now c.args.numbers.now c.args.listeners.now.listeners c.args.ended.items c.args.delta.now c.args.brought.now = c.requires.1 in
    let places : c.deref.result.now ≡ places_at c.args.listeners.now.listeners c.args.numbers.now = search rules in
    subst (λ (ps : List ℕ). All (λ p. p < length c.args.brought.now.registered) ps) (sym places)
    (subst (λ (fs : List Query). All (λ p. p < length fs) (places_at c.args.listeners.now.listeners c.args.numbers.now)) (sym h.registered) (places_in c.args.listeners.now.listeners was.listeners h.listened c.args.numbers.now))

pub unregister-requires-clause-ends : goal.unregister-requires-clause-ends
unregister-requires-clause-ends c =
    let was : Cover = c.requires.0 in
    let is : Cover = c.args.cover.now in
    let h : HasLost was is c.args.numbers.now c.args.listeners.now.listeners c.args.ended.items c.args.delta.now c.args.brought.now = c.requires.1 in
    let left : c.retain.new.self.items ≡ filter (is_ended is) c.args.ended.items = filter_same _ (is_ended is) _ (λ x b f' k. search rules) _ _ c.retain.ensures.filtered in
    let ended : c.deref-2.result.now ≡ c.retain.new.self.items = search rules in
    let begun : c.deref-3.result.now ≡ map (λ k. k.query) c.args.delta.now.started = search rules in
    let places : c.deref.result.now ≡ places_at c.args.listeners.now.listeners c.args.numbers.now = search rules in
    let forms : without_places c.deref.result.now c.args.brought.now.registered ≡ listening is.listeners =
    (λ i. without_places (places i) (h.registered i))
    ∙ places_left c.args.listeners.now.listeners was.listeners h.listened h.rises c.args.numbers.now ∙ ap listening (sym h.left) in (
      map (λ (k : Tagged). k.form) is.kept,
      told_by _ _ _ _ c.deref-2.result.now c.deref-3.result.now c.args.brought.now.registered (without_places c.deref.result.now c.args.brought.now.registered) _ _ (ended ∙ left) begun h.registered forms
          (ends_forms was is c.args.numbers.now c.args.listeners.now.listeners c.args.ended.items c.args.delta.now c.args.brought.now h c.apart_law.ensures.plains),
    )

pub returns : goal.returns
returns c =
    let was : Cover = c.requires.0 in
    let is : Cover = c.args.cover.now in
    let h : HasLost was is c.args.numbers.now c.args.listeners.now.listeners c.args.ended.items c.args.delta.now c.args.brought.now = c.requires.1 in
    let left : c.retain.new.self.items ≡ filter (is_ended is) c.args.ended.items = filter_same _ (is_ended is) _ (λ x b f' k. search rules) _ _ c.retain.ensures.filtered in
    let ended : c.deref-2.result.now ≡ c.retain.new.self.items = search rules in
    let begun : c.deref-3.result.now ≡ map (λ k. k.query) c.args.delta.now.started = search rules in
    let places : c.deref.result.now ≡ places_at c.args.listeners.now.listeners c.args.numbers.now = search rules in
    let forms : without_places c.deref.result.now c.args.brought.now.registered ≡ listening is.listeners =
    (λ i. without_places (places i) (h.registered i))
    ∙ places_left c.args.listeners.now.listeners was.listeners h.listened h.rises c.args.numbers.now ∙ ap listening (sym h.left) in
    let kept : List Query = map (λ (k : Tagged). k.form) is.kept in
    subst (λ (fs : List Query). OnOk c.unregister.result (c.unregister.new.self ≡ recover fs kept c.args.brought.now)) forms
    (c.unregister.ensures.ok kept
    (told_by _ _ _ _ c.deref-2.result.now c.deref-3.result.now c.args.brought.now.registered (without_places c.deref.result.now c.args.brought.now.registered) _ _ (ended ∙ left) begun h.registered forms
    (ends_forms was is c.args.numbers.now c.args.listeners.now.listeners c.args.ended.items c.args.delta.now c.args.brought.now h c.apart_law.ensures.plains)))
