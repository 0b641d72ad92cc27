use Rattle.std.proofs.Common.{◌≡◌, ◌-◌, ◌≤◌, ◌++◌}
use Rattle.std.specs.List.{slice_range}
use Rattle.rt_cache.specs.inside.Handing.{lent_queries}
use Rattle.rt_cache.specs.inside.Listed.{queries_of}
use Rattle.rt_cache.proofs.handover.lend_span.Given as goal

-- those that are lent, and those of the span that are left
abbrev pub invariant-loop-place : goal.invariant-loop-place
invariant-loop-place l =
    (l.span.start ≤ l.place)
    × (l.place ≤ l.span.end)
    × (lent_queries l.lent.items ++ queries_of (slice_range l.forms l.place l.span.end) ≡ lent_queries l.initial.lent.items ++ queries_of (slice_range l.forms l.span.start l.span.end))

abbrev pub decreases-loop-place : goal.decreases-loop-place
decreases-loop-place l = l.span.end - l.place
