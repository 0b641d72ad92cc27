use Rattle.std.proofs.Common.{◌≡◌, ◌+◌, ◌<◌, ◌≤◌, ◌++◌, map, length, Bool, ap, sym, subst, ◌∙◌, arith}
use Rattle.std.specs.List.{AllPairs, enumerate_from}
use Rattle.rt_cover.specs.Cover.{Registered, Tagged}
use Rattle.rt_cover.specs.State.{Cover}
use Rattle.rt_cover.specs.inside.Endings.{by_number, lost, beginners, tagged_of, told_of}
use Rattle.rt_cover.specs.inside.Picked.{picked}
use Rattle.rt_cover.specs.inside.Sound.{IsSound}
use Rattle.rt_cover.proofs.ChangeLaws.{lost_picked, begin_picked}
use Rattle.rt_cover.proofs.EndLaws.{is_ended, tags_left}
use Rattle.rt_cover.proofs.cover.Cover.plan.Goals as goal

pub listens_at-requires : goal.listens_at-requires
listens_at-requires g c =
    let old : Cover = c.args.self.now in
    let sound : IsSound old = subst IsSound c.self.view_is c.self.invariant in
    let ks : c.as_slice.result.now ≡ old.kept = c.as_slice.ensures ∙ (λ i. (c.self.view_is i).kept) in
    subst (AllPairs (λ (j k : Tagged). j.tag < k.tag)) (sym ks) sound.tags

pub begun-requires : goal.begun-requires
begun-requires g c =
    let old : Cover = c.args.self.now in
    let sound : IsSound old = subst IsSound c.self.view_is c.self.invariant in
    let ends : Registered → Bool = by_number (g.E.EndedListeners.ended c.args.ending.now) in
    let ks : c.as_slice.result.now ≡ old.kept = c.as_slice.ensures ∙ (λ i. (c.self.view_is i).kept) in
    c.deref.ensures.value ∙ c.in_ok-lost.ensures ∙ (λ i. picked (λ (k : Tagged). k.tag) (ks i) (c.requires.tags i)) ∙ lost_picked old sound ends

pub start_at-requires-clause-rise : goal.start_at-requires-clause-rise
start_at-requires-clause-rise g c =
    let old : Cover = c.args.self.now in
    let sound : IsSound old = subst IsSound c.self.view_is c.self.invariant in
    let ls : c.as_slice-2.result.now ≡ old.listeners = c.as_slice-2.ensures ∙ (λ i. (c.self.view_is i).listeners) in
    subst (AllPairs (λ (l m : Registered). l.0 < m.0)) (sym ls) sound.listeners

pub start_at-requires-clause-room : goal.start_at-requires-clause-room
start_at-requires-clause-room g c =
    let old : Cover = c.args.self.now in
    let sound : IsSound old = subst IsSound c.self.view_is c.self.invariant in
    let ends : Registered → Bool = by_number (g.E.EndedListeners.ended c.args.ending.now) in
    let ls : c.as_slice-2.result.now ≡ old.listeners = c.as_slice-2.ensures ∙ (λ i. (c.self.view_is i).listeners) in
    let who : picked (λ (l : Registered). l.0) c.as_slice-2.result.now c.deref-2.result.now ≡ beginners ends old.kept old.listeners =
    (λ i. picked (λ (l : Registered). l.0) (ls i) ((c.deref-2.ensures.value ∙ c.in_ok-numbers.ensures) i)) ∙ begin_picked old sound ends in
    let next : c.in_ok-plan.plan.given + 1 ≡ old.next_tag = (λ i. c.in_ok-plan.ensures.given i + 1) ∙ (λ i. (c.self.view_is i).next_tag) in
    let left : old.next_tag + length (beginners ends old.kept old.listeners) ≤ old.last_tag + 1 = tags_left old ends (is_ended old sound ends) c.requires.room in
    let count : length (picked (λ (l : Registered). l.0) c.as_slice-2.result.now c.deref-2.result.now) ≡ length (beginners ends old.kept old.listeners) = ap length who in
    let last : c.self.inside.last_tag ≡ old.last_tag = (λ i. (c.self.view_is i).last_tag) in
    omega (arith, left, count, next, last)

pub returns-clause-lost : goal.returns-clause-lost
returns-clause-lost g c =
    let old : Cover = c.args.self.now in
    let sound : IsSound old = subst IsSound c.self.view_is c.self.invariant in
    let ends : Registered → Bool = by_number (g.E.EndedListeners.ended c.args.ending.now) in
    let ks : c.as_slice.result.now ≡ old.kept = c.as_slice.ensures ∙ (λ i. (c.self.view_is i).kept) in
    let gone : c.in_ok-lost.lost.items ≡ lost ends old.kept old.listeners =
    c.in_ok-lost.ensures ∙ (λ i. picked (λ (k : Tagged). k.tag) (ks i) (c.requires.tags i)) ∙ lost_picked old sound ends in
    c.in_ok-start_at.ensures.lost ∙ c.in_ok-plan.ensures.lost ∙ gone

pub returns-clause-stopped : goal.returns-clause-stopped
returns-clause-stopped g c =
    let old : Cover = c.args.self.now in
    let sound : IsSound old = subst IsSound c.self.view_is c.self.invariant in
    let ends : Registered → Bool = by_number (g.E.EndedListeners.ended c.args.ending.now) in
    let ks : c.as_slice.result.now ≡ old.kept = c.as_slice.ensures ∙ (λ i. (c.self.view_is i).kept) in
    let gone : c.in_ok-lost.lost.items ≡ lost ends old.kept old.listeners =
    c.in_ok-lost.ensures ∙ (λ i. picked (λ (k : Tagged). k.tag) (ks i) (c.requires.tags i)) ∙ lost_picked old sound ends in
    c.in_ok-start_at.ensures.stopped ∙ c.in_ok-plan.ensures.stopped ∙ ap (map (λ (k : Tagged). k.tag)) gone

pub returns-clause-kept : goal.returns-clause-kept
returns-clause-kept g c =
    let old : Cover = c.args.self.now in
    let sound : IsSound old = subst IsSound c.self.view_is c.self.invariant in
    let ends : Registered → Bool = by_number (g.E.EndedListeners.ended c.args.ending.now) in
    let ls : c.as_slice-2.result.now ≡ old.listeners = c.as_slice-2.ensures ∙ (λ i. (c.self.view_is i).listeners) in
    let who : picked (λ (l : Registered). l.0) c.as_slice-2.result.now c.deref-2.result.now ≡ beginners ends old.kept old.listeners =
    (λ i. picked (λ (l : Registered). l.0) (ls i) ((c.deref-2.ensures.value ∙ c.in_ok-numbers.ensures) i)) ∙ begin_picked old sound ends in
    let next : c.in_ok-plan.plan.given + 1 ≡ old.next_tag = (λ i. c.in_ok-plan.ensures.given i + 1) ∙ (λ i. (c.self.view_is i).next_tag) in
    c.in_ok-start_at.ensures.kept ∙ (λ i. c.in_ok-plan.ensures.kept i ++ map tagged_of (enumerate_from (next i) (who i)))

pub returns-clause-started : goal.returns-clause-started
returns-clause-started g c =
    let old : Cover = c.args.self.now in
    let sound : IsSound old = subst IsSound c.self.view_is c.self.invariant in
    let ends : Registered → Bool = by_number (g.E.EndedListeners.ended c.args.ending.now) in
    let ls : c.as_slice-2.result.now ≡ old.listeners = c.as_slice-2.ensures ∙ (λ i. (c.self.view_is i).listeners) in
    let who : picked (λ (l : Registered). l.0) c.as_slice-2.result.now c.deref-2.result.now ≡ beginners ends old.kept old.listeners =
    (λ i. picked (λ (l : Registered). l.0) (ls i) ((c.deref-2.ensures.value ∙ c.in_ok-numbers.ensures) i)) ∙ begin_picked old sound ends in
    let next : c.in_ok-plan.plan.given + 1 ≡ old.next_tag = (λ i. c.in_ok-plan.ensures.given i + 1) ∙ (λ i. (c.self.view_is i).next_tag) in
    c.in_ok-start_at.ensures.started ∙ (λ i. c.in_ok-plan.ensures.started i ++ map told_of (enumerate_from (next i) (who i)))

pub returns-clause-given : goal.returns-clause-given
returns-clause-given g c =
    let old : Cover = c.args.self.now in
    let sound : IsSound old = subst IsSound c.self.view_is c.self.invariant in
    let ends : Registered → Bool = by_number (g.E.EndedListeners.ended c.args.ending.now) in
    let ls : c.as_slice-2.result.now ≡ old.listeners = c.as_slice-2.ensures ∙ (λ i. (c.self.view_is i).listeners) in
    let who : picked (λ (l : Registered). l.0) c.as_slice-2.result.now c.deref-2.result.now ≡ beginners ends old.kept old.listeners =
    (λ i. picked (λ (l : Registered). l.0) (ls i) ((c.deref-2.ensures.value ∙ c.in_ok-numbers.ensures) i)) ∙ begin_picked old sound ends in
    let next : c.in_ok-plan.plan.given + 1 ≡ old.next_tag = (λ i. c.in_ok-plan.ensures.given i + 1) ∙ (λ i. (c.self.view_is i).next_tag) in
    let count : length (picked (λ (l : Registered). l.0) c.as_slice-2.result.now c.deref-2.result.now) ≡ length (beginners ends old.kept old.listeners) = ap length who in
    let given : c.start_at.new.self.given ≡ c.in_ok-plan.plan.given + length (picked (λ (l : Registered). l.0) c.as_slice-2.result.now c.deref-2.result.now) = c.in_ok-start_at.ensures.given in
    omega (arith, given, count, next)
