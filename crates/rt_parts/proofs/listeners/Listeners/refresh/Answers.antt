use Rattle.std.proofs.Common.{◌≡◌, ◌<◌, ◌++◌, ◌&&◌, ℕ, List, Option, length, map, sym, ap, subst, ◌∙◌, rules}
use Rattle.std.specs.List.{All, AllPairs, zip}
use Rattle.std.specs.Option.{option_copied}
use Rattle.std.proofs.lemmas.List.{with_items_is}
use Rattle.rt_query.specs.Queries.{Query}
use Rattle.rt_tree.specs.Assignments.{Assignment}
use Rattle.rt_writes.specs.Writes.{Write}
use Rattle.rt_cache.specs.Brought.{Brought}
use Rattle.rt_parts.specs.declared.listeners.HeldListener.{HeldListener}
use Rattle.rt_parts.specs.inside.Pairs.{AreHanded, AreUp}
use Rattle.rt_parts.specs.inside.Placed.{IsIndex}
use Rattle.rt_parts.specs.Listeners.{Listeners}
use Rattle.rt_parts.specs.Refreshed.{FollowNamed, FollowsNamed, all_told_heard, count_heard, hears, renewed_heard, view_heard}
use Rattle.rt_parts.specs.inside.HeldView.{all_of, AreHeld, counted_of, counts_of, listeners_of, pair_of, refreshed_heard, views_of}
use Rattle.rt_parts.proofs.Counts.{all_counts}
use Rattle.rt_parts.proofs.Loops.{all_listeners, all_views, zip_pairs}
use Rattle.rt_parts.proofs.IndexLaws.{index_read}
use Rattle.rt_parts.proofs.RefreshLaws.{AreDue, counted_left, counted_left_heard, handed_due, heard_by, left_heard, left_of, met, Pair, placed_left, told_left, told_left_heard}
use Rattle.rt_parts.proofs.listeners.Listeners.refresh.Goals as goal

pub pairs_handed-requires-clause-rising : goal.pairs_handed-requires-clause-rising
pairs_handed-requires-clause-rising c =
    let seen : c.deref.result.now ≡ c.self.inside.held.items = search rules in
    subst (AllPairs (λ (l m : HeldListener). l.number < m.number)) (sym seen) c.self.invariant.0.rising

pub pairs_handed-requires-clause-index : goal.pairs_handed-requires-clause-index
pairs_handed-requires-clause-index c =
    let seen : c.deref.result.now ≡ c.self.inside.held.items = search rules in
    let places : c.deref-2.result.now ≡ c.self.inside.places.items = search rules in
    subst (λ hs. IsIndex hs c.deref-2.result.now) (sym seen) (subst (IsIndex c.self.inside.held.items) (sym places) c.self.invariant.1)

pub refresh-requires-clause-due : goal.refresh-requires-clause-due
refresh-requires-clause-due c =
    let range : Option Query = option_copied c.args.range in
    let es : List Assignment = c.args.entries.now in
    let b : Brought = c.args.brought.now in
    let ws : List Write = c.args.pending.now in
    let held : List HeldListener = c.self.inside.held.items in
    let numbers : List ℕ = c.deref-4.result.now in
    let old : c.as_mut_slice.result.now ≡ held = search rules in
    let seen : c.deref.result.now ≡ held = search rules in
    let handed : AreHanded range es c.in_ok-pairs.pairs.items held = subst (AreHanded range es c.in_ok-pairs.pairs.items) seen c.in_ok-pairs.ensures in
    let heard = heard_by es b ws range c.in_ok-pairs.pairs.items c.deref-3.result.now c.in_ok-numbers.numbers.items numbers c.deref.result.now held c.in_ok-pairs.ensures seen c.deref-3.ensures.value c.deref-4.ensures.value c.in_ok-numbers.ensures.same in
    let all : FollowNamed es b ws (all_of held) = subst (FollowNamed es b ws) (sym c.self.view_is) c.requires.follow in
    let follow : All (FollowsNamed es b ws) (map pair_of held) = subst (All (FollowsNamed es b ws)) (zip_pairs held) all in
    subst (λ hs. AreDue es b ws c.deref-5.result.now numbers (map pair_of hs)) (sym old)
    (subst (λ ps. AreDue es b ws ps numbers (map pair_of held)) (sym c.deref-5.ensures.value)
    (handed_due es b ws range c.in_ok-pairs.pairs.items numbers held handed heard follow))

pub refresh-requires-clause-up : goal.refresh-requires-clause-up
refresh-requires-clause-up c = subst AreUp (sym c.deref-5.ensures.value) c.in_ok-pairs.ensures.up

pub invariant_of-self-2 : goal.invariant_of-self-2
invariant_of-self-2 c =
    let long : length c.refresh.new.listeners ≡ c.replace-held.result.len = search rules in
    let old : c.as_mut_slice.result.now ≡ c.self.inside.held.items = search rules in
    let places : c.replace-places.result.items ≡ c.self.inside.places.items = search rules in
    let numbers : List ℕ = c.deref-4.result.now in
    let items = with_items_is c.replace-held.result c.refresh.new.listeners long in (
      subst AreHeld (sym items) c.in_ok-refresh.ensures.held,
      subst (λ hs. IsIndex hs c.replace-places.result.items) (sym items)
          (subst (IsIndex c.refresh.new.listeners) (sym places)
          (index_read c.self.inside.held.items c.refresh.new.listeners c.self.inside.places.items
          (placed_left c.args.entries.now c.args.brought.now c.args.pending.now numbers c.self.inside.held.items c.refresh.new.listeners
          (c.in_ok-refresh.ensures.pairs ∙ ap (λ hs. left_of c.args.entries.now c.args.brought.now c.args.pending.now numbers (map pair_of hs)) old))
          c.self.invariant.1)),
    )

pub returns-clause-listeners : goal.returns-clause-listeners
returns-clause-listeners c =
    let range : Option Query = option_copied c.args.range in
    let es : List Assignment = c.args.entries.now in
    let b : Brought = c.args.brought.now in
    let ws : List Write = c.args.pending.now in
    let held : List HeldListener = c.self.inside.held.items in
    let numbers : List ℕ = c.deref-4.result.now in
    let long : length c.refresh.new.listeners ≡ c.replace-held.result.len = search rules in
    let old : c.as_mut_slice.result.now ≡ held = search rules in
    let seen : c.deref.result.now ≡ held = search rules in
    let heard = heard_by es b ws range c.in_ok-pairs.pairs.items c.deref-3.result.now c.in_ok-numbers.numbers.items numbers c.deref.result.now held c.in_ok-pairs.ensures seen c.deref-3.ensures.value c.deref-4.ensures.value c.in_ok-numbers.ensures.same in
    ap listeners_of (with_items_is c.replace-held.result c.refresh.new.listeners long)
    ∙ all_listeners range es b ws held c.refresh.new.listeners
    (c.in_ok-refresh.ensures.pairs ∙ ap (λ hs. left_of es b ws numbers (map pair_of hs)) old ∙ left_heard es b ws range numbers held heard)
    ∙ ap (λ (all : Listeners). map (renewed_heard range es b ws) all.listeners) c.self.view_is

pub returns-clause-views : goal.returns-clause-views
returns-clause-views c =
    let range : Option Query = option_copied c.args.range in
    let es : List Assignment = c.args.entries.now in
    let b : Brought = c.args.brought.now in
    let ws : List Write = c.args.pending.now in
    let held : List HeldListener = c.self.inside.held.items in
    let numbers : List ℕ = c.deref-4.result.now in
    let long : length c.refresh.new.listeners ≡ c.replace-held.result.len = search rules in
    let old : c.as_mut_slice.result.now ≡ held = search rules in
    let seen : c.deref.result.now ≡ held = search rules in
    let heard = heard_by es b ws range c.in_ok-pairs.pairs.items c.deref-3.result.now c.in_ok-numbers.numbers.items numbers c.deref.result.now held c.in_ok-pairs.ensures seen c.deref-3.ensures.value c.deref-4.ensures.value c.in_ok-numbers.ensures.same in
    ap views_of (with_items_is c.replace-held.result c.refresh.new.listeners long)
    ∙ all_views range es b ws held c.refresh.new.listeners
    (c.in_ok-refresh.ensures.pairs ∙ ap (λ hs. left_of es b ws numbers (map pair_of hs)) old ∙ left_heard es b ws range numbers held heard)
    ∙ ap (λ (all : Listeners). map (view_heard range es b ws) (zip all.listeners all.views)) c.self.view_is

pub returns-clause-notes : goal.returns-clause-notes
returns-clause-notes c =
    let range : Option Query = option_copied c.args.range in
    let es : List Assignment = c.args.entries.now in
    let b : Brought = c.args.brought.now in
    let ws : List Write = c.args.pending.now in
    let held : List HeldListener = c.self.inside.held.items in
    let numbers : List ℕ = c.deref-4.result.now in
    let old : c.as_mut_slice.result.now ≡ held = search rules in
    let seen : c.deref.result.now ≡ held = search rules in
    let heard = heard_by es b ws range c.in_ok-pairs.pairs.items c.deref-3.result.now c.in_ok-numbers.numbers.items numbers c.deref.result.now held c.in_ok-pairs.ensures seen c.deref-3.ensures.value c.deref-4.ensures.value c.in_ok-numbers.ensures.same in
    c.in_ok-refresh.ensures.notes
    ∙ ap (λ z. c.args.notes.now.items ++ z)
    (ap (λ hs. told_left es b ws numbers (map pair_of hs)) old ∙ told_left_heard es b ws range numbers held heard
    ∙ ap (λ (all : Listeners). all_told_heard range es b ws all.listeners) c.self.view_is)

pub returns-clause-counts : goal.returns-clause-counts
returns-clause-counts c =
    let range : Option Query = option_copied c.args.range in
    let es : List Assignment = c.args.entries.now in
    let b : Brought = c.args.brought.now in
    let ws : List Write = c.args.pending.now in
    let held : List HeldListener = c.self.inside.held.items in
    let numbers : List ℕ = c.deref-4.result.now in
    let long : length c.refresh.new.listeners ≡ c.replace-held.result.len = search rules in
    let old : c.as_mut_slice.result.now ≡ held = search rules in
    let seen : c.deref.result.now ≡ held = search rules in
    let heard = heard_by es b ws range c.in_ok-pairs.pairs.items c.deref-3.result.now c.in_ok-numbers.numbers.items numbers c.deref.result.now held c.in_ok-pairs.ensures seen c.deref-3.ensures.value c.deref-4.ensures.value c.in_ok-numbers.ensures.same in
    ap counts_of (with_items_is c.replace-held.result c.refresh.new.listeners long)
    ∙ all_counts (refreshed_heard range es b ws) (λ (p : Pair). hears range p.0.query && met es b ws p) held c.refresh.new.listeners
    (c.in_ok-refresh.ensures.counts ∙ ap (λ hs. counted_left es b ws range numbers (map counted_of hs)) old ∙ counted_left_heard es b ws range numbers held heard)
    ∙ ap (λ (all : Listeners). map (count_heard range es b ws) (zip (zip all.listeners all.views) all.counts)) c.self.view_is
