use Rattle.std.proofs.Common.{◌≡◌, ◌+◌, ◌<◌, sym, subst, ◌∙◌}
use Rattle.std.specs.List.{AllPairs}
use Rattle.rt_cover.specs.Cover.{Registered}
use Rattle.rt_cover.specs.State.{Cover, with_listener, with_listeners}
use Rattle.rt_cover.specs.inside.Sound.{IsSound}
use Rattle.rt_cover.proofs.NewLaws.{admitted, sound_with}
use Rattle.rt_cover.proofs.cover.Cover.admit.Goals as goal

pub insert-requires-clause-rise : goal.insert-requires-clause-rise
insert-requires-clause-rise c =
    let sound : IsSound c.args.self.now = subst IsSound c.self.view_is c.self.invariant in
    subst (AllPairs (λ (l m : Registered). l.0 < m.0)) (λ i. (sym c.self.view_is i).listeners) sound.listeners

pub invariant_of-self-2 : goal.invariant_of-self-2
invariant_of-self-2 c =
    let old : Cover = c.args.self.now in
    let sound : IsSound old = subst IsSound c.self.view_is c.self.invariant in
    let n = c.args.listener in
    let f = c.args.form in
    let lists : c.insert.new.self ≡ with_listener old.listeners n f = c.in_ok-insert.ensures.items ∙ (λ i. with_listener (c.self.view_is i).listeners (c.in_ok-registered.ensures i).0 (c.in_ok-registered.ensures i).1) in
    let new : record { listeners = c.insert.new.self; kept = c.self.inside.kept; next_tag = c.self.inside.given + 1; last_tag = c.self.inside.last_tag } ≡ with_listeners old (with_listener old.listeners n f) =
    (λ i. record { listeners = lists i; kept = (c.self.view_is i).kept; next_tag = (c.self.view_is i).next_tag; last_tag = (c.self.view_is i).last_tag })
    ∙ sym (admitted old sound n f c.requires.own c.requires.free c.requires.supplied).cover in
    subst IsSound (sym new) (sound_with old sound n f c.requires.own c.requires.room)

pub returns-clause-cover : goal.returns-clause-cover
returns-clause-cover c =
    let old : Cover = c.args.self.now in
    let sound : IsSound old = subst IsSound c.self.view_is c.self.invariant in
    let n = c.args.listener in
    let f = c.args.form in
    let lists : c.insert.new.self ≡ with_listener old.listeners n f = c.in_ok-insert.ensures.items ∙ (λ i. with_listener (c.self.view_is i).listeners (c.in_ok-registered.ensures i).0 (c.in_ok-registered.ensures i).1) in
    (λ i. record { listeners = lists i; kept = (c.self.view_is i).kept; next_tag = (c.self.view_is i).next_tag; last_tag = (c.self.view_is i).last_tag })
    ∙ sym (admitted old sound n f c.requires.own c.requires.free c.requires.supplied).cover

pub returns-clause-delta : goal.returns-clause-delta
returns-clause-delta c =
    let old : Cover = c.args.self.now in
    let sound : IsSound old = subst IsSound c.self.view_is c.self.invariant in
    (λ i. record { started = (c.of.ensures ∙ c.new-2.ensures.items) i; stopped = (c.of-2.ensures ∙ c.new-3.ensures.items) i })
    ∙ sym (admitted old sound c.args.listener c.args.form c.requires.own c.requires.free c.requires.supplied).delta
