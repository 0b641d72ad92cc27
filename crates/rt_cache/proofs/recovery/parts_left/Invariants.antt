use Rattle.std.proofs.Common.{◌≡◌, ◌++◌, drop, not, List}
use Rattle.std.specs.List.{filter, filter_map}
use Rattle.rt_query.specs.Queries.{Query}
use Rattle.rt_cache.specs.Recover.{reaches}
use Rattle.rt_cache.specs.inside.Cuts.{part_below}
use Rattle.rt_cache.specs.inside.Held.{pairs_of}
use Rattle.rt_cache.specs.inside.Spans.{AreLost}
use Rattle.rt_cache.proofs.recovery.parts_left.Given as goal

-- the parts so far, and those of the listens that are left
abbrev pub invariant-loop-query : goal.invariant-loop-query
invariant-loop-query l =
    (kept : List Query) → AreLost kept l.regions l.lost
    → pairs_of l.parts.items ++ filter_map (part_below (filter (λ r. not (reaches kept r.0)) (pairs_of l.regions))) (drop l.query-index l.listens)
    ≡ filter_map (part_below (filter (λ r. not (reaches kept r.0)) (pairs_of l.regions))) l.listens
