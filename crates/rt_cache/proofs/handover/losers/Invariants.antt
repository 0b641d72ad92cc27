use Rattle.std.proofs.Common.{◌≡◌, ◌++◌, ◌&&◌, List, drop}
use Rattle.std.specs.List.{filter}
use Rattle.rt_query.specs.Queries.{Query}
use Rattle.rt_cache.specs.inside.Cuts.{IsCut}
use Rattle.rt_cache.specs.inside.Handing.{lent_queries, window_queries, is_staying, staying_of, is_loser}
use Rattle.rt_cache.specs.inside.Held.{pairs_of}
use Rattle.rt_cache.proofs.handover.losers.Given as goal

-- those so far that lose what they had, and those of the ones that are left
abbrev pub invariant-loop-form : goal.invariant-loop-form
invariant-loop-form l =
    (kept : List Query) → IsCut kept l.regions l.lost l.parts
    → lent_queries l.lent.items
    ++ filter (λ q. is_staying (lent_queries l.those) l.among q && is_loser kept (pairs_of l.regions) (window_queries l.windows) (staying_of (lent_queries l.those) l.among (window_queries l.windows)) q) (lent_queries (drop l.form-index l.forms))
    ≡ filter (λ q. is_staying (lent_queries l.those) l.among q && is_loser kept (pairs_of l.regions) (window_queries l.windows) (staying_of (lent_queries l.those) l.among (window_queries l.windows)) q) (lent_queries l.forms)
