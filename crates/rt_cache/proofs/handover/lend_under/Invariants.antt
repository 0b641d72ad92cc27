use Rattle.std.proofs.Common.{◌≡◌, ◌-◌, ◌≤◌, ◌&&◌, ◌||◌, Bool}
use Rattle.std.specs.List.{list_any, slice_range}
use Rattle.rt_query.specs.Queries.{Query}
use Rattle.rt_cache.specs.inside.Handing.{lent_queries, is_under_one}
use Rattle.rt_cache.specs.inside.Listed.{queries_of}
use Rattle.rt_cache.proofs.handover.lend_under.Given as goal

-- those that are lent, and those under the regions that are left
abbrev pub invariant-loop-place : goal.invariant-loop-place
invariant-loop-place l =
    (l.span.start ≤ l.place)
    × (l.place ≤ l.span.end)
    × ((p : Query → Bool) → (list_any p (lent_queries l.lent.items) || list_any (λ f. is_under_one (slice_range l.regions l.place l.span.end) f && p f) (queries_of l.forms))
    ≡ (list_any p (lent_queries l.initial.lent.items) || list_any (λ f. is_under_one (slice_range l.regions l.span.start l.span.end) f && p f) (queries_of l.forms)))

abbrev pub decreases-loop-place : goal.decreases-loop-place
decreases-loop-place l = l.span.end - l.place
