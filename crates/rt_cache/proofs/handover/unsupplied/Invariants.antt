use Rattle.std.proofs.Common.{◌≡◌, ◌++◌, not, drop}
use Rattle.std.specs.List.{filter}
use Rattle.rt_query.specs.Needed.{needed}
use Rattle.rt_cache.specs.Brought.{is_supplied}
use Rattle.rt_cache.specs.inside.Handing.{lent_queries}
use Rattle.rt_cache.proofs.handover.unsupplied.Given as goal

-- those so far that no other supplies, and those that are left
abbrev pub invariant-loop-one : goal.invariant-loop-one
invariant-loop-one l =
    lent_queries l.lent.items ++ filter (λ f. not (is_supplied (lent_queries l.queries) f)) (lent_queries (drop l.one-index l.queries))
    ≡ needed (lent_queries l.queries)
