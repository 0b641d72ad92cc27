use Rattle.std.proofs.Common.{◌≡◌, ◌+◌, ◌<◌, ◌≤◌, ◌∷◌, ◌++◌, [], not, map, sym, subst, ◌∙◌, arith}
use Rattle.std.specs.List.{filter, All, AllPairs}
use Rattle.rt_query.specs.Supply.{form, does_supply}
use Rattle.rt_cover.specs.Cover.{Registered, Tagged}
use Rattle.rt_cover.specs.State.{Cover, with_listener, with_listeners, difference}
use Rattle.rt_cover.specs.Shown.{IsTold}
use Rattle.rt_cover.specs.inside.Sound.{IsSound}
use Rattle.rt_cover.proofs.NewLaws.{is_started, tag_left, sound_with, told_with}
use Rattle.rt_cover.proofs.cover.Cover.begin.Goals as goal

pub overflow_add-tag : goal.overflow_add-tag
overflow_add-tag c =
    let old : Cover = c.args.self.now in
    let sound : IsSound old = subst IsSound c.self.view_is c.self.invariant in
    let n = c.args.listener in
    let f = c.args.form in
    let left : old.next_tag ≤ old.last_tag = tag_left old n f (is_started old sound n f c.requires.own c.requires.free c.requires.unsupplied) c.requires.room in
    let next : old.next_tag ≡ c.self.inside.given + 1 = (λ i. (sym c.self.view_is i).next_tag) in
    let last : c.self.inside.last_tag ≡ old.last_tag = (λ i. (c.self.view_is i).last_tag) in
    omega (arith, left, next, last)

pub enter-requires-clause-rise : goal.enter-requires-clause-rise
enter-requires-clause-rise c =
    let sound : IsSound c.args.self.now = subst IsSound c.self.view_is c.self.invariant in
    subst (AllPairs (λ (l m : Registered). l.0 < m.0)) (λ i. (sym c.self.view_is i).listeners) sound.listeners

pub enter-requires-clause-forms : goal.enter-requires-clause-forms
enter-requires-clause-forms c =
    let sound : IsSound c.args.self.now = subst IsSound c.self.view_is c.self.invariant in
    subst (All (λ (l : Registered). form l.1 ≡ l.1)) (λ i. (sym c.self.view_is i).listeners) sound.forms

pub enter-requires-clause-by_tag : goal.enter-requires-clause-by_tag
enter-requires-clause-by_tag c =
    let sound : IsSound c.args.self.now = subst IsSound c.self.view_is c.self.invariant in
    subst (λ (z : Cover). AllPairs (λ (j k : Tagged). j.tag < k.tag) z.kept) (sym c.self.view_is) sound.tags

pub invariant_of-self-2 : goal.invariant_of-self-2
invariant_of-self-2 c =
    let old : Cover = c.args.self.now in
    let sound : IsSound old = subst IsSound c.self.view_is c.self.invariant in
    let n = c.args.listener in
    let f = c.args.form in
    let form_is : (c.in_ok-listen.listen).form ≡ f = (λ i. (c.in_ok-listen.ensures i).form) ∙ (λ i. (c.in_ok-registered.ensures i).1) in
    let tag_is : (c.in_ok-listen.listen).tag ≡ old.next_tag = (λ i. (c.in_ok-listen.ensures i).tag) ∙ (λ i. (c.self.view_is i).next_tag) in
    let lists : c.enter.new.listeners ≡ with_listener old.listeners n f = c.in_ok-stopped.ensures.items ∙ (λ i. with_listener (c.self.view_is i).listeners (c.in_ok-registered.ensures i).0 (c.in_ok-registered.ensures i).1) in
    let kept : c.enter.new.kept ≡ filter (λ (k : Tagged). not (does_supply f k.form)) old.kept ++ record { tag = old.next_tag; form = f } ∷ [] =
    c.in_ok-stopped.ensures.kept ∙ (λ i. filter (λ (k : Tagged). not (does_supply (form_is i) k.form)) (c.self.view_is i).kept ++ record { tag = tag_is i; form = form_is i } ∷ []) in
    let new : record { listeners = c.enter.new.listeners; kept = c.enter.new.kept; next_tag = c.self.inside.given + 1 + 1; last_tag = c.self.inside.last_tag } ≡ with_listeners old (with_listener old.listeners n f) =
    (λ i. record { listeners = lists i; kept = kept i; next_tag = (c.self.view_is i).next_tag + 1; last_tag = (c.self.view_is i).last_tag })
    ∙ sym (is_started old sound n f c.requires.own c.requires.free c.requires.unsupplied).cover in
    subst IsSound (sym new) (sound_with old sound n f c.requires.own c.requires.room)

pub returns-clause-cover : goal.returns-clause-cover
returns-clause-cover c =
    let old : Cover = c.args.self.now in
    let sound : IsSound old = subst IsSound c.self.view_is c.self.invariant in
    let n = c.args.listener in
    let f = c.args.form in
    let form_is : (c.in_ok-listen.listen).form ≡ f = (λ i. (c.in_ok-listen.ensures i).form) ∙ (λ i. (c.in_ok-registered.ensures i).1) in
    let tag_is : (c.in_ok-listen.listen).tag ≡ old.next_tag = (λ i. (c.in_ok-listen.ensures i).tag) ∙ (λ i. (c.self.view_is i).next_tag) in
    let lists : c.enter.new.listeners ≡ with_listener old.listeners n f = c.in_ok-stopped.ensures.items ∙ (λ i. with_listener (c.self.view_is i).listeners (c.in_ok-registered.ensures i).0 (c.in_ok-registered.ensures i).1) in
    let kept : c.enter.new.kept ≡ filter (λ (k : Tagged). not (does_supply f k.form)) old.kept ++ record { tag = old.next_tag; form = f } ∷ [] =
    c.in_ok-stopped.ensures.kept ∙ (λ i. filter (λ (k : Tagged). not (does_supply (form_is i) k.form)) (c.self.view_is i).kept ++ record { tag = tag_is i; form = form_is i } ∷ []) in
    (λ i. record { listeners = lists i; kept = kept i; next_tag = (c.self.view_is i).next_tag + 1; last_tag = (c.self.view_is i).last_tag })
    ∙ sym (is_started old sound n f c.requires.own c.requires.free c.requires.unsupplied).cover

pub returns-clause-delta : goal.returns-clause-delta
returns-clause-delta c =
    let old : Cover = c.args.self.now in
    let sound : IsSound old = subst IsSound c.self.view_is c.self.invariant in
    let n = c.args.listener in
    let f = c.args.form in
    let form_is : (c.in_ok-listen.listen).form ≡ f = (λ i. (c.in_ok-listen.ensures i).form) ∙ (λ i. (c.in_ok-registered.ensures i).1) in
    (λ i. record {
      started = (c.of.ensures ∙ c.in_ok-started.ensures ∙ (λ j. record { tag = (c.self.view_is j).next_tag; query = f; listener = n } ∷ [])) i;
      stopped = (c.of-2.ensures ∙ c.in_ok-stopped.ensures.stopped ∙ (λ j. map (λ (k : Tagged). k.tag) (filter (λ (k : Tagged). does_supply (form_is j) k.form) (c.self.view_is j).kept))) i;
    })
    ∙ sym (is_started old sound n f c.requires.own c.requires.free c.requires.unsupplied).delta

pub returns-clause-told : goal.returns-clause-told
returns-clause-told c =
    let old : Cover = c.args.self.now in
    let sound : IsSound old = subst IsSound c.self.view_is c.self.invariant in
    let n = c.args.listener in
    let f = c.args.form in
    let form_is : (c.in_ok-listen.listen).form ≡ f = (λ i. (c.in_ok-listen.ensures i).form) ∙ (λ i. (c.in_ok-registered.ensures i).1) in
    let same : record { started = c.of.result; stopped = c.of-2.result } ≡ difference old (with_listeners old (with_listener old.listeners n f)) =
    (λ i. record {
      started = (c.of.ensures ∙ c.in_ok-started.ensures ∙ (λ j. record { tag = (c.self.view_is j).next_tag; query = f; listener = n } ∷ [])) i;
      stopped = (c.of-2.ensures ∙ c.in_ok-stopped.ensures.stopped ∙ (λ j. map (λ (k : Tagged). k.tag) (filter (λ (k : Tagged). does_supply (form_is j) k.form) (c.self.view_is j).kept))) i;
    })
    ∙ sym (is_started old sound n f c.requires.own c.requires.free c.requires.unsupplied).delta in
    subst (IsTold old.next_tag) (sym same) (told_with old sound n f)
