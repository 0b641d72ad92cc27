use Rattle.std.proofs.Common.{rules, ◌∙◌, ◌≤◌, ap, sym, subst, not, List}
use Rattle.std.proofs.lemmas.List.Sorted.{IsNonDecreasingBy-from_sort_by_key, All-permutation, list_any-IsPermutation}
use Rattle.std.specs.List.{All}
use Rattle.std.specs.List.Sorted.{IsNonDecreasingBy}
use Rattle.rt_cache.specs.declared.by_path.Span.{Span}
use Rattle.rt_cache.specs.inside.Spans.{has_place, have_place}
use Rattle.rt_cache.proofs.Parts.{if_ok}
use Rattle.rt_cache.proofs.by_path.places_beside.Goals as goal

pub places_between-requires-clause-rising : goal.places_between-requires-clause-rising
places_between-requires-clause-rising c =
    subst (λ (spans : List Span). IsNonDecreasingBy (λ (s : Span). s.start) spans) (sym c.deref.ensures.value)
    (IsNonDecreasingBy-from_sort_by_key (λ (s : Span). s.start) c.sort_unstable_by_key.new.self.items c.sort_unstable_by_key.ensures.sorted (λ a r f k. search rules))

pub places_between-requires-clause-within : goal.places_between-requires-clause-within
places_between-requires-clause-within c =
    subst (λ (spans : List Span). All (λ (s : Span). (s.start ≤ s.end) × (s.end ≤ c.args.end)) spans) (sym c.deref.ensures.value)
    (All-permutation (λ (s : Span). (s.start ≤ s.end) × (s.end ≤ c.args.end)) c.args.spans.items c.sort_unstable_by_key.new.self.items
    c.sort_unstable_by_key.ensures.permutation c.requires.within)

pub returns-clause-places : goal.returns-clause-places
returns-clause-places c =
    if_ok c.places_between.result _ _ c.places_between.ensures.places (λ gaps places k lt.
    places k lt ∙ ap not (ap (λ (spans : List Span). have_place spans k) c.deref.ensures.value
    ∙ sym (list_any-IsPermutation (has_place k) c.args.spans.items c.sort_unstable_by_key.new.self.items c.sort_unstable_by_key.ensures.permutation)))
