use Rattle.std.proofs.Common.{◌≡◌, ◌+◌, ◌<◌, ◌++◌, ◌==◌, not, map, sym, subst, ◌∙◌}
use Rattle.std.specs.List.{filter, list_any, enumerate_from, All, AllPairs}
use Rattle.std.proofs.lemmas.List.Kept.{AllPairs-filter}
use Rattle.rt_query.specs.Supply.{form}
use Rattle.rt_cover.specs.Cover.{Registered, Tagged}
use Rattle.rt_cover.specs.State.{Cover, with_listeners, difference}
use Rattle.rt_cover.specs.Shown.{IsTold}
use Rattle.rt_cover.specs.inside.Endings.{by_number, left, is_left_form, lost, beginners, tagged_of}
use Rattle.rt_cover.specs.inside.Sound.{IsSound}
use Rattle.rt_cover.proofs.EndLaws.{is_ended, sound_without, told_without}
use Rattle.rt_cover.proofs.cover.Cover.end.Goals as goal

pub replace-requires-clause-lost : goal.replace-requires-clause-lost
replace-requires-clause-lost g c =
    let old : Cover = c.args.self.now in
    let sound : IsSound old = subst IsSound c.self.view_is c.self.invariant in
    let ends = by_number (g.E.EndedListeners.ended c.args.ending.now) in
    let gone : c.deref.result.now ≡ lost ends old.kept old.listeners = c.deref.ensures.value ∙ c.in_ok-lost.ensures.lost in
    subst (AllPairs (λ (j k : Tagged). j.tag < k.tag)) (sym gone)
    (AllPairs-filter (λ (j k : Tagged). j.tag < k.tag) (λ (k : Tagged). not (is_left_form ends old.listeners k.form)) old.kept sound.tags)

pub replace-requires-clause-tags : goal.replace-requires-clause-tags
replace-requires-clause-tags g c =
    let sound : IsSound c.args.self.now = subst IsSound c.self.view_is c.self.invariant in
    subst (AllPairs (λ (j k : Tagged). j.tag < k.tag)) (λ i. (sym c.self.view_is i).kept) sound.tags

pub retain_left-requires-clause-rise : goal.retain_left-requires-clause-rise
retain_left-requires-clause-rise g c =
    let sound : IsSound c.args.self.now = subst IsSound c.self.view_is c.self.invariant in
    subst (AllPairs (λ (l m : Registered). l.0 < m.0)) (λ i. (sym c.self.view_is i).listeners) sound.listeners

pub retain_left-requires-clause-own : goal.retain_left-requires-clause-own
retain_left-requires-clause-own g c =
    let sound : IsSound c.args.self.now = subst IsSound c.self.view_is c.self.invariant in
    subst (All (λ (l : Registered). form l.1 ≡ l.1)) (λ i. (sym c.self.view_is i).listeners) sound.forms

pub invariant_of-self-2 : goal.invariant_of-self-2
invariant_of-self-2 g c =
    let old : Cover = c.args.self.now in
    let sound : IsSound old = subst IsSound c.self.view_is c.self.invariant in
    let ends = by_number (g.E.EndedListeners.ended c.args.ending.now) in
    let listeners : c.retain_left.new.self ≡ left ends old.listeners = c.retain_left.ensures ∙ (λ i. left ends (c.self.view_is i).listeners) in
    let gone : c.deref.result.now ≡ lost ends old.kept old.listeners = c.deref.ensures.value ∙ c.in_ok-lost.ensures.lost in
    let kept : c.replace.new.self
    ≡ filter (λ (k : Tagged). not (list_any (λ (j : Tagged). j.tag == k.tag) (lost ends old.kept old.listeners))) old.kept ++ map tagged_of (enumerate_from old.next_tag (beginners ends old.kept old.listeners)) =
    c.in_ok-replace.ensures.kept
    ∙ (λ i. filter (λ (k : Tagged). not (list_any (λ (j : Tagged). j.tag == k.tag) (gone i))) (c.self.view_is i).kept ++ c.in_ok-lost.ensures.kept i) in
    let new : record { listeners = c.retain_left.new.self; kept = c.replace.new.self; next_tag = (c.in_ok-lost.field-0).given + 1; last_tag = c.self.inside.last_tag } ≡ with_listeners old (left ends old.listeners) =
    (λ i. record { listeners = listeners i; kept = kept i; next_tag = c.in_ok-lost.ensures.given i; last_tag = (c.self.view_is i).last_tag })
    ∙ sym (is_ended old sound ends).cover in
    subst IsSound (sym new) (sound_without old sound ends c.requires.room)

pub returns-clause-cover : goal.returns-clause-cover
returns-clause-cover g c =
    let old : Cover = c.args.self.now in
    let sound : IsSound old = subst IsSound c.self.view_is c.self.invariant in
    let ends = by_number (g.E.EndedListeners.ended c.args.ending.now) in
    let listeners : c.retain_left.new.self ≡ left ends old.listeners = c.retain_left.ensures ∙ (λ i. left ends (c.self.view_is i).listeners) in
    let gone : c.deref.result.now ≡ lost ends old.kept old.listeners = c.deref.ensures.value ∙ c.in_ok-lost.ensures.lost in
    let kept : c.replace.new.self
    ≡ filter (λ (k : Tagged). not (list_any (λ (j : Tagged). j.tag == k.tag) (lost ends old.kept old.listeners))) old.kept ++ map tagged_of (enumerate_from old.next_tag (beginners ends old.kept old.listeners)) =
    c.in_ok-replace.ensures.kept
    ∙ (λ i. filter (λ (k : Tagged). not (list_any (λ (j : Tagged). j.tag == k.tag) (gone i))) (c.self.view_is i).kept ++ c.in_ok-lost.ensures.kept i) in
    (λ i. record { listeners = listeners i; kept = kept i; next_tag = c.in_ok-lost.ensures.given i; last_tag = (c.self.view_is i).last_tag })
    ∙ sym (is_ended old sound ends).cover

pub returns-clause-delta : goal.returns-clause-delta
returns-clause-delta g c =
    let old : Cover = c.args.self.now in
    let sound : IsSound old = subst IsSound c.self.view_is c.self.invariant in
    let ends = by_number (g.E.EndedListeners.ended c.args.ending.now) in
    (λ i. record { started = (c.of.ensures ∙ c.in_ok-lost.ensures.started) i; stopped = (c.of-2.ensures ∙ c.in_ok-lost.ensures.stopped) i })
    ∙ sym (is_ended old sound ends).delta

pub returns-clause-told : goal.returns-clause-told
returns-clause-told g c =
    let old : Cover = c.args.self.now in
    let sound : IsSound old = subst IsSound c.self.view_is c.self.invariant in
    let ends = by_number (g.E.EndedListeners.ended c.args.ending.now) in
    let same : record { started = c.of.result; stopped = c.of-2.result } ≡ difference old (with_listeners old (left ends old.listeners)) =
    (λ i. record { started = (c.of.ensures ∙ c.in_ok-lost.ensures.started) i; stopped = (c.of-2.ensures ∙ c.in_ok-lost.ensures.stopped) i })
    ∙ sym (is_ended old sound ends).delta in
    subst (IsTold old.next_tag) (sym same) (told_without old sound ends)
