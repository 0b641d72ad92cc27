use Rattle.std.proofs.Common.{◌≡◌, ℕ, ◌<◌, ◌≤◌, ◌||◌, length, get_or, drop}
use Rattle.std.specs.List.{All}
use Rattle.rt_cache.specs.Recover.{is_among}
use Rattle.rt_cache.specs.declared.by_path.Span.{Span}
use Rattle.rt_cache.specs.declared.windows.Window.{Window}
use Rattle.rt_cache.specs.inside.Handing.{lent_queries}
use Rattle.rt_cache.specs.inside.Spans.{have_place}
use Rattle.rt_cache.proofs.handover.spans_of.Given as goal

-- those of the queries so far, and whether it is one of the others
abbrev pub invariant-loop-one : goal.invariant-loop-one
invariant-loop-one l =
    (All (λ (s : Span). (s.start ≤ s.end) × (s.end ≤ length l.windows)) l.spans.items)
    × ((k : ℕ) (d : Window) → k < length l.windows
    → (have_place l.spans.items k || is_among (lent_queries (drop l.one-index l.those)) (get_or l.windows k d).query) ≡ is_among (lent_queries l.those) (get_or l.windows k d).query)
