use Rattle.std.proofs.Common.{◌≡◌, ◌<◌, ◌++◌, not, ℕ, Bool, List, map, ap, sym, subst, ◌∙◌}
use Rattle.std.specs.List.{AllPairs, filter, filter_map}
use Rattle.rt_query.specs.QueryEq.{query_eq}
use Rattle.rt_query.specs.Supply.{form}
use Rattle.rt_world.specs.World.{Listener}
use Rattle.rt_parts.specs.Listeners.{cancelled_note, counts_left, views_left}
use Rattle.rt_parts.specs.declared.listeners.HeldListener.{HeldListener}
use Rattle.rt_parts.specs.inside.HeldView.{counts_of, views_of, ended_among, HaveForm, listeners_of}
use Rattle.rt_parts.specs.inside.Placed.{IsIndex}
use Rattle.rt_parts.proofs.Counts.{counts_filter}
use Rattle.rt_parts.proofs.EndingLaws.{told_form}
use Rattle.rt_parts.proofs.HeldLaws.{views_filter, listeners_filter}
use Rattle.rt_parts.proofs.listeners.Listeners.cancel.Goals as goal

pub returns-clause-listeners : goal.returns-clause-listeners
returns-clause-listeners c =
    let test : Listener → Bool = λ l. not (query_eq (form l.query) c.args.listened.now) in
    ap listeners_of c.end_listened.ensures.left ∙ listeners_filter test c.self.inside.held.items ∙ ap (λ all. filter test all.listeners) c.self.view_is

pub returns-clause-views : goal.returns-clause-views
returns-clause-views c =
    let test : Listener → Bool = λ l. not (query_eq (form l.query) c.args.listened.now) in
    ap views_of c.end_listened.ensures.left ∙ views_filter test c.self.inside.held.items ∙ ap (views_left test) c.self.view_is

pub returns-clause-notes : goal.returns-clause-notes
returns-clause-notes c =
    let test : Listener → Bool = λ l. query_eq (form l.query) c.args.listened.now in
    let held : List HeldListener = c.self.inside.held.items in
    let numbers : List ℕ = c.in_ok-numbers.numbers.items in
    let seen : c.deref.result.now ≡ held = c.deref.ensures.value in
    let told : c.deref-3.result.now ≡ held = c.deref-3.ensures.value in
    let given : c.deref-4.result.now ≡ numbers = c.deref-4.ensures.value in
    let those : HaveForm c.args.listened.now numbers held = subst (HaveForm c.args.listened.now numbers) seen c.in_ok-numbers.ensures.those in
    c.in_ok-tell_ends.ensures
    ∙ ap (λ z. c.args.notes.now.items ++ z)
    ((λ i. filter_map (ended_among (given i) c.args.why.now) (listeners_of (told i)))
    ∙ told_form c.args.why.now c.args.listened.now numbers held those
    ∙ ap (λ all. map (cancelled_note c.args.why.now) (filter test all.listeners)) c.self.view_is)

pub numbers_of_form-requires-clause-rising : goal.numbers_of_form-requires-clause-rising
numbers_of_form-requires-clause-rising c = subst (AllPairs (λ (l m : HeldListener). l.number < m.number)) (sym c.deref.ensures.value) c.self.invariant.0.rising

pub numbers_of_form-requires-clause-index : goal.numbers_of_form-requires-clause-index
numbers_of_form-requires-clause-index c =
    subst (λ hs. IsIndex hs c.deref-2.result.now) (sym c.deref.ensures.value) (subst (IsIndex c.self.inside.held.items) (sym c.deref-2.ensures.value) c.self.invariant.1)

pub tell_ends-requires-clause-rising : goal.tell_ends-requires-clause-rising
tell_ends-requires-clause-rising c = subst (AllPairs (λ (l m : HeldListener). l.number < m.number)) (sym c.deref-3.ensures.value) c.self.invariant.0.rising

pub end_listened-requires-clause-numbers : goal.end_listened-requires-clause-numbers
end_listened-requires-clause-numbers c =
    subst (λ ns. HaveForm c.args.listened.now ns c.self.inside.held.items) (sym c.deref-5.ensures.value)
    (subst (HaveForm c.args.listened.now c.in_ok-numbers.numbers.items) c.deref.ensures.value c.in_ok-numbers.ensures.those)

pub returns-clause-counts : goal.returns-clause-counts
returns-clause-counts c =
    let test : Listener → Bool = λ l. not (query_eq (form l.query) c.args.listened.now) in
    ap counts_of c.end_listened.ensures.left ∙ counts_filter test c.self.inside.held.items ∙ ap (counts_left test) c.self.view_is
