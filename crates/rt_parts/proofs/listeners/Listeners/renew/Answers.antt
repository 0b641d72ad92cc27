use Rattle.std.proofs.Common.{◌≡◌, ◌==◌, ◌<◌, ◌++◌, ℕ, Bool, true, [], List, length, map, sym, ap, subst, ◌∙◌, rules, append-nil}
use Rattle.std.specs.List.{All, AllPairs, list_any, zip}
use Rattle.std.specs.List.Sorted.{IsSorted}
use Rattle.std.proofs.lemmas.List.{with_items_is}
use Rattle.rt_tree.specs.PathTree.{path_eq}
use Rattle.rt_query.specs.Queries.{Query}
use Rattle.rt_query.specs.QueryOrder.{query_cmp}
use Rattle.rt_cache.specs.Recover.{is_among}
use Rattle.rt_world.specs.declared.report.Note.{Note}
use Rattle.rt_parts.specs.declared.listeners.HeldListener.{HeldListener}
use Rattle.rt_parts.specs.declared.places.ListenerPlace.{ListenerPlace}
use Rattle.rt_parts.specs.inside.Placed.{HaveNumbers, IsIndex}
use Rattle.rt_parts.specs.Listeners.{Listeners}
use Rattle.rt_parts.specs.Renewed.{all_told_of, count_of, renewed_of, view_of}
use Rattle.rt_parts.specs.inside.HeldView.{AreHeld, counted_of, counts_of, listeners_of, pair_of, renewal_counted, renewed_pair, views_of}
use Rattle.rt_parts.proofs.Counts.{all_counts, none_counts}
use Rattle.rt_parts.proofs.IndexLaws.{have_due, index_read}
use Rattle.rt_parts.proofs.RenewalLaws.{all_listeners, all_views, no_items, none_noted, none_renewed, none_viewed, of, path_of_among, placed_same, same_counts, same_listeners, same_notes, same_views}
use Rattle.rt_parts.proofs.listeners.Listeners.renew.Goals as goal

-- for no query nothing is done
pub returns-then-is_empty-clause-listeners : goal.returns-then-is_empty-clause-listeners
returns-then-is_empty-clause-listeners c =
    let none : c.args.queries.now ≡ [] = no_items c.args.queries.now (sym c.is_empty.ensures ∙ c.if-is_empty.true) in
    none_renewed c.args.brought.now c.args.pending.now (c.args.self.now).listeners
    ∙ ap (λ (qs : List Query). map (renewed_of qs c.args.brought.now c.args.pending.now) (c.args.self.now).listeners) (sym none)

pub returns-then-is_empty-clause-views : goal.returns-then-is_empty-clause-views
returns-then-is_empty-clause-views c =
    let none : c.args.queries.now ≡ [] = no_items c.args.queries.now (sym c.is_empty.ensures ∙ c.if-is_empty.true) in
    let held : (c.args.self.now).views ≡ map (view_of [] c.args.brought.now c.args.pending.now) (zip (c.args.self.now).listeners (c.args.self.now).views) =
    subst (λ (all : Listeners). all.views ≡ map (view_of [] c.args.brought.now c.args.pending.now) (zip all.listeners all.views)) c.self.view_is (none_viewed c.args.brought.now c.args.pending.now c.self.inside.held.items) in
    held ∙ ap (λ (qs : List Query). map (view_of qs c.args.brought.now c.args.pending.now) (zip (c.args.self.now).listeners (c.args.self.now).views)) (sym none)

pub returns-then-is_empty-clause-notes : goal.returns-then-is_empty-clause-notes
returns-then-is_empty-clause-notes c =
    let none : c.args.queries.now ≡ [] = no_items c.args.queries.now (sym c.is_empty.ensures ∙ c.if-is_empty.true) in
    sym (ap (λ (qs : List Query). c.args.notes.now.items ++ all_told_of qs c.args.brought.now c.args.pending.now (c.args.self.now).listeners) none
    ∙ ap (λ (ns : List Note). c.args.notes.now.items ++ ns) (none_noted c.args.brought.now c.args.pending.now (c.args.self.now).listeners) ∙ append-nil c.args.notes.now.items)

pub renew_all-requires-clause-numbers : goal.renew_all-requires-clause-numbers
renew_all-requires-clause-numbers c =
    let old : c.as_mut_slice.result.now ≡ c.self.inside.held.items = search rules in
    let numbers : c.deref-3.result.now ≡ c.in_ok-numbers.numbers.items = c.deref-3.ensures.value in
    let places : c.deref.result.now ≡ c.self.inside.places.items = search rules in
    let given : c.deref-2.result.now ≡ c.in_ok-ordered.ordered.items = c.deref-2.ensures.value in
    let ordered : c.deref-4.result.now ≡ c.in_ok-ordered.ordered.items = c.deref-4.ensures.value in
    let qs : List Query = c.deref-4.result.now in
    let test : ListenerPlace → Bool = λ (x : ListenerPlace). list_any (λ (q : Query). path_eq q.path x.path) qs in
    let all : HaveNumbers test c.in_ok-numbers.numbers.items c.self.inside.places.items =
    subst (HaveNumbers test c.in_ok-numbers.numbers.items) places
    (subst (λ rs. HaveNumbers (λ (x : ListenerPlace). list_any (λ (q : Query). path_eq q.path x.path) rs) c.in_ok-numbers.numbers.items c.deref.result.now) (given ∙ sym ordered) c.in_ok-numbers.ensures.all) in
    let due = have_due test c.in_ok-numbers.numbers.items c.self.inside.held.items c.self.inside.places.items c.self.invariant.1 all in
    subst (λ hs. All (λ (l : HeldListener). is_among qs l.query ≡ true → list_any (λ n. l.number == n) c.deref-3.result.now ≡ true) hs) (sym old)
    (subst (λ ns. All (λ (l : HeldListener). is_among qs l.query ≡ true → list_any (λ n. l.number == n) ns ≡ true) c.self.inside.held.items) (sym numbers)
    (λ k d lt e. due k d lt (path_of_among qs _ e)))

pub renew_all-requires-clause-order : goal.renew_all-requires-clause-order
renew_all-requires-clause-order c = subst (IsSorted query_cmp) (sym c.deref-4.ensures.value) c.in_ok-ordered.ensures.order

pub renew_all-requires-clause-rise : goal.renew_all-requires-clause-rise
renew_all-requires-clause-rise c = subst (AllPairs (λ (m n : ℕ). m < n)) (sym c.deref-3.ensures.value) c.in_ok-numbers.ensures.rise

pub invariant_of-self-2 : goal.invariant_of-self-2
invariant_of-self-2 c =
    let long : length c.renew_all.new.listeners ≡ c.replace-held.result.len = search rules in
    let old : c.as_mut_slice.result.now ≡ c.self.inside.held.items = search rules in
    let places : c.replace-places.result.items ≡ c.self.inside.places.items = search rules in
    let items = with_items_is c.replace-held.result c.renew_all.new.listeners long in (
      subst AreHeld (sym items) c.in_ok-renew_all.ensures.held,
      subst (λ hs. IsIndex hs c.replace-places.result.items) (sym items)
          (subst (IsIndex c.renew_all.new.listeners) (sym places)
          (index_read c.self.inside.held.items c.renew_all.new.listeners c.self.inside.places.items
          (placed_same c.deref-4.result.now c.args.brought.now c.args.pending.now c.self.inside.held.items c.renew_all.new.listeners
          (c.in_ok-renew_all.ensures.pairs ∙ ap (λ hs. map (renewed_pair c.deref-4.result.now c.args.brought.now c.args.pending.now) (map pair_of hs)) old))
          c.self.invariant.1)),
    )

pub returns-clause-listeners : goal.returns-clause-listeners
returns-clause-listeners c =
    let same : (q : Query) → is_among c.deref-4.result.now q ≡ is_among c.args.queries.now q = λ q. ap (λ xs. is_among xs q) c.deref-4.ensures.value ∙ c.in_ok-ordered.ensures.same q in
    let long : length c.renew_all.new.listeners ≡ c.replace-held.result.len = search rules in
    let old : c.as_mut_slice.result.now ≡ c.self.inside.held.items = search rules in
    ap listeners_of (with_items_is c.replace-held.result c.renew_all.new.listeners long)
    ∙ all_listeners c.deref-4.result.now c.args.brought.now c.args.pending.now c.self.inside.held.items c.renew_all.new.listeners
    (c.in_ok-renew_all.ensures.pairs ∙ ap (λ hs. map (renewed_pair c.deref-4.result.now c.args.brought.now c.args.pending.now) (map pair_of hs)) old)
    ∙ ap (λ (all : Listeners). map (renewed_of c.deref-4.result.now c.args.brought.now c.args.pending.now) all.listeners) c.self.view_is
    ∙ same_listeners c.deref-4.result.now c.args.queries.now c.args.brought.now c.args.pending.now same (c.args.self.now).listeners

pub returns-clause-views : goal.returns-clause-views
returns-clause-views c =
    let same : (q : Query) → is_among c.deref-4.result.now q ≡ is_among c.args.queries.now q = λ q. ap (λ xs. is_among xs q) c.deref-4.ensures.value ∙ c.in_ok-ordered.ensures.same q in
    let long : length c.renew_all.new.listeners ≡ c.replace-held.result.len = search rules in
    let old : c.as_mut_slice.result.now ≡ c.self.inside.held.items = search rules in
    ap views_of (with_items_is c.replace-held.result c.renew_all.new.listeners long)
    ∙ all_views c.deref-4.result.now c.args.brought.now c.args.pending.now c.self.inside.held.items c.renew_all.new.listeners
    (c.in_ok-renew_all.ensures.pairs ∙ ap (λ hs. map (renewed_pair c.deref-4.result.now c.args.brought.now c.args.pending.now) (map pair_of hs)) old)
    ∙ ap (λ (all : Listeners). map (view_of c.deref-4.result.now c.args.brought.now c.args.pending.now) (zip all.listeners all.views)) c.self.view_is
    ∙ same_views c.deref-4.result.now c.args.queries.now c.args.brought.now c.args.pending.now same (zip (c.args.self.now).listeners (c.args.self.now).views)

pub returns-then-is_empty-clause-counts : goal.returns-then-is_empty-clause-counts
returns-then-is_empty-clause-counts c =
    let none : c.args.queries.now ≡ [] = no_items c.args.queries.now (sym c.is_empty.ensures ∙ c.if-is_empty.true) in
    let held : (c.args.self.now).counts ≡ map (count_of [] c.args.brought.now c.args.pending.now) (zip (zip (c.args.self.now).listeners (c.args.self.now).views) (c.args.self.now).counts) =
    subst (λ (all : Listeners). all.counts ≡ map (count_of [] c.args.brought.now c.args.pending.now) (zip (zip all.listeners all.views) all.counts)) c.self.view_is (none_counts c.args.brought.now c.args.pending.now c.self.inside.held.items) in
    held ∙ ap (λ (qs : List Query). map (count_of qs c.args.brought.now c.args.pending.now) (zip (zip (c.args.self.now).listeners (c.args.self.now).views) (c.args.self.now).counts)) (sym none)

pub returns-clause-counts : goal.returns-clause-counts
returns-clause-counts c =
    let same : (q : Query) → is_among c.deref-4.result.now q ≡ is_among c.args.queries.now q = λ q. ap (λ xs. is_among xs q) c.deref-4.ensures.value ∙ c.in_ok-ordered.ensures.same q in
    let long : length c.renew_all.new.listeners ≡ c.replace-held.result.len = search rules in
    let old : c.as_mut_slice.result.now ≡ c.self.inside.held.items = search rules in
    ap counts_of (with_items_is c.replace-held.result c.renew_all.new.listeners long)
    ∙ all_counts (renewed_pair c.deref-4.result.now c.args.brought.now c.args.pending.now) (of c.deref-4.result.now c.args.brought.now c.args.pending.now) c.self.inside.held.items c.renew_all.new.listeners
    (c.in_ok-renew_all.ensures.counts ∙ ap (λ hs. map (renewal_counted c.deref-4.result.now c.args.brought.now c.args.pending.now) (map counted_of hs)) old)
    ∙ ap (λ (all : Listeners). map (count_of c.deref-4.result.now c.args.brought.now c.args.pending.now) (zip (zip all.listeners all.views) all.counts)) c.self.view_is
    ∙ same_counts c.deref-4.result.now c.args.queries.now c.args.brought.now c.args.pending.now same (zip (zip (c.args.self.now).listeners (c.args.self.now).views) (c.args.self.now).counts)

pub returns-clause-notes : goal.returns-clause-notes
returns-clause-notes c =
    let same : (q : Query) → is_among c.deref-4.result.now q ≡ is_among c.args.queries.now q = λ q. ap (λ xs. is_among xs q) c.deref-4.ensures.value ∙ c.in_ok-ordered.ensures.same q in
    let old : c.as_mut_slice.result.now ≡ c.self.inside.held.items = search rules in
    c.in_ok-renew_all.ensures.notes
    ∙ ap (λ ns. c.args.notes.now.items ++ ns)
    (ap (λ hs. all_told_of c.deref-4.result.now c.args.brought.now c.args.pending.now (listeners_of hs)) old
    ∙ ap (λ (all : Listeners). all_told_of c.deref-4.result.now c.args.brought.now c.args.pending.now all.listeners) c.self.view_is
    ∙ same_notes c.deref-4.result.now c.args.queries.now c.args.brought.now c.args.pending.now same (c.args.self.now).listeners)
