use Rattle.std.proofs.Common.{◌≡◌, ◌&&◌, ◌<◌, ap, subst, sym, ◌∙◌, IfOk, Result, Ok, Err}
use Rattle.std.specs.List.{AllPairs, list_any}
use Rattle.rt_tree.specs.PathTree.{path_eq}
use Rattle.rt_query.specs.Queries.{is_filtered}
use Rattle.rt_query.specs.Supply.{does_supply}
use Rattle.rt_parts.specs.declared.listeners.HeldListener.{HeldListener}
use Rattle.rt_parts.specs.inside.HeldView.{HaveSupplied}
use Rattle.rt_parts.specs.inside.Placed.{IsIndex}
use Rattle.rt_parts.specs.Listeners.{Listeners}
use Rattle.rt_parts.specs.Renewed.{is_listened_at}
use Rattle.rt_parts.proofs.RenewalLaws.{has_of, supplied_of_path}
use Rattle.rt_parts.proofs.listeners.Listeners.queries_supplied.Goals as goal

pub numbers_supplied-requires-clause-rising : goal.numbers_supplied-requires-clause-rising
numbers_supplied-requires-clause-rising c = subst (AllPairs (λ (l m : HeldListener). l.number < m.number)) (sym c.deref.ensures.value) c.self.invariant.0.rising

pub numbers_supplied-requires-clause-index : goal.numbers_supplied-requires-clause-index
numbers_supplied-requires-clause-index c =
    subst (λ hs. IsIndex hs c.deref-2.result.now) (sym c.deref.ensures.value) (subst (IsIndex c.self.inside.held.items) (sym c.deref-2.ensures.value) c.self.invariant.1)

pub returns : goal.returns
returns c =
    let r = c.args.range.now in
    let held : c.deref-3.result.now ≡ c.self.inside.held.items = c.deref-3.ensures.value in
    let lent : c.deref-4.result.now ≡ c.in_ok-numbers.numbers.items = c.deref-4.ensures.value in
    let supplied : HaveSupplied r c.in_ok-numbers.numbers.items c.self.inside.held.items = subst (HaveSupplied r c.in_ok-numbers.numbers.items) c.deref.ensures.value c.in_ok-numbers.ensures in
    if_ok c.queries_of.result c.queries_of.ensures (λ x h q.
    h q
    ∙ (λ i. is_filtered q && path_eq q.path (c.path.ensures i) && list_any (has_of (held i) q) (lent i))
    ∙ supplied_of_path c.self.inside.held.items r c.in_ok-numbers.numbers.items q supplied
    ∙ ap (λ (all : Listeners). is_listened_at all.listeners r.path q && does_supply r q) c.self.view_is)
  where
    if_ok : {X E : Type 0} {P Q : X → Type 0} (r : Result X E) → IfOk r P → ((x : X) → P x → Q x) → IfOk r Q
    if_ok (Ok x) h f = f x h
    if_ok (Err e) h f = h
