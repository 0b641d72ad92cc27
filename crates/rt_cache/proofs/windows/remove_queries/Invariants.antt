use Rattle.std.proofs.Common.{◌≡◌, ◌≤◌, cond, drop, None}
use Rattle.std.specs.FinMap as map_of
use Rattle.std.specs.Vec.{vec_capacity, vec_len}
use Rattle.rt_query.specs.Queries.{Query}
use Rattle.rt_query.specs.QueryOrder.{query_cmp}
use Rattle.rt_cache.specs.Recover.{is_among}
use Rattle.rt_cache.specs.inside.ByPath.{AreByQuery, query_of}
use Rattle.rt_cache.specs.inside.Held.{entries_of}
use Rattle.rt_cache.proofs.windows.remove_queries.Given as goal

-- in order; without those of the queries that are left, it is found as without those of all
abbrev pub invariant-loop-query : goal.invariant-loop-query
invariant-loop-query l =
    AreByQuery query_of l.windows.items
    × ((x : Query) → cond (is_among (drop l.query-index l.queries) x) None (map_of.find query_cmp x (entries_of l.windows.items))
    ≡ cond (is_among l.queries x) None (map_of.find query_cmp x (entries_of l.initial.windows.items)))
    × (vec_len l.windows ≤ vec_len l.initial.windows)
    × (vec_capacity l.windows ≡ vec_capacity l.initial.windows)
