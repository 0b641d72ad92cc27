use Rattle.std.proofs.Common.{◌≡◌, ℕ, ◌<◌, ◌≤◌, ◌||◌, length, get_or, drop}
use Rattle.std.specs.List.{All}
use Rattle.rt_tree.specs.declared.limits.TheConstants.{MAX_KEYS}
use Rattle.rt_query.specs.Queries.{Query}
use Rattle.rt_cache.specs.Recover.{reaches}
use Rattle.rt_cache.specs.declared.regions.Region.{Region}
use Rattle.rt_cache.specs.declared.by_path.Span.{Span}
use Rattle.rt_cache.specs.inside.Spans.{have_place}
use Rattle.rt_cache.proofs.recovery.spans_kept.Given as goal

-- those of the listens so far, and what the others reach; so far the paths are short
abbrev pub invariant-loop-query : goal.invariant-loop-query
invariant-loop-query l =
    (All (λ (s : Span). (s.start ≤ s.end) × (s.end ≤ length l.regions)) l.spans.items)
    × ((k : ℕ) (d : Region) → k < length l.regions
    → (have_place l.spans.items k || reaches (drop l.query-index l.kept) (get_or l.regions k d).path) ≡ reaches l.kept (get_or l.regions k d).path)
    × ((k : ℕ) (d : Query) → k < l.query-index → length (get_or l.kept k d).path ≤ MAX_KEYS)
