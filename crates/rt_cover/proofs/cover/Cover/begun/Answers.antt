use Rattle.std.proofs.Common.{◌≡◌, ◌<◌, Bool, not, sym, subst, ◌∙◌}
use Rattle.std.specs.List.{list_any, All, AllPairs}
use Rattle.rt_query.specs.Supply.{form}
use Rattle.rt_cover.specs.Cover.{Registered, Tagged}
use Rattle.rt_cover.specs.State.{Cover}
use Rattle.rt_cover.specs.inside.Endings.{by_number, begins_after, is_left_form, lost}
use Rattle.rt_cover.specs.inside.Index.{form_of, AreApart}
use Rattle.rt_cover.specs.inside.Sound.{IsSound}
use Rattle.rt_cover.proofs.ChangeLaws.{begin_by_lost, begin_numbers}
use Rattle.rt_cover.proofs.SuppliedLaws.{any_filter, apart_fewer, kept_ranges_apart}
use Rattle.rt_cover.proofs.cover.Cover.begun.Goals as goal

pub numbers_begun-requires-clause-rise : goal.numbers_begun-requires-clause-rise
numbers_begun-requires-clause-rise g c =
    let sound : IsSound c.args.self.now = subst IsSound c.self.view_is c.self.invariant in
    subst (AllPairs (λ (l m : Registered). l.0 < m.0)) (λ i. (sym c.self.view_is i).listeners) sound.listeners

pub numbers_begun-requires-clause-forms : goal.numbers_begun-requires-clause-forms
numbers_begun-requires-clause-forms g c =
    let old : Cover = c.args.self.now in
    let sound : IsSound old = subst IsSound c.self.view_is c.self.invariant in
    subst (All (λ (l : Registered). form l.1 ≡ l.1)) (λ i. (sym c.self.view_is i).listeners) sound.forms

pub numbers_begun-requires-clause-apart : goal.numbers_begun-requires-clause-apart
numbers_begun-requires-clause-apart g c =
    let old : Cover = c.args.self.now in
    let sound : IsSound old = subst IsSound c.self.view_is c.self.invariant in
    let ends : Registered → Bool = by_number (g.E.EndedListeners.ended c.args.ending.now) in
    subst (AreApart form_of) (sym c.requires)
    (apart_fewer form_of old.kept (lost ends old.kept old.listeners) (any_filter (λ (k : Tagged). not (is_left_form ends old.listeners k.form)) old.kept) (kept_ranges_apart old sound))

pub returns : goal.returns
returns g c =
    let old : Cover = c.args.self.now in
    let sound : IsSound old = subst IsSound c.self.view_is c.self.invariant in
    let ends : Registered → Bool = by_number (g.E.EndedListeners.ended c.args.ending.now) in
    begin_numbers old sound ends c.sort_once.new.numbers.items c.sort_once.ensures.rise
    (λ p. c.sort_once.ensures.same p ∙ c.in_ok-numbers.ensures p
    ∙ (λ i. list_any (begins_after ends (c.self.view_is i).listeners p) (c.requires i))
    ∙ begin_by_lost old sound ends p)
