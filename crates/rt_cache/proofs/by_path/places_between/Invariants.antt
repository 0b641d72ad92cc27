use Rattle.std.proofs.Common.{◌≡◌, ℕ, ◌<◌, ◌≤◌, drop, not}
use Rattle.rt_cache.specs.inside.Spans.{have_place, AreInOrder, AreFilled}
use Rattle.rt_cache.proofs.by_path.places_between.Given as goal

-- so far each place is in a gap or in a span, those behind are in a span that is left or in none, and no gap is empty
abbrev pub invariant-loop-span : goal.invariant-loop-span
invariant-loop-span l =
    (l.place ≤ l.end)
    × AreInOrder 0 l.gaps.items l.place
    × ((k : ℕ) → k < l.place → have_place l.gaps.items k ≡ not (have_place l.spans k))
    × ((k : ℕ) → l.place ≤ k → have_place l.spans k ≡ have_place (drop l.span-index l.spans) k)
    × AreFilled l.gaps.items
