use Rattle.std.proofs.Common.{◌≡◌, ◌≤◌, false, length}
use Rattle.std.specs.FinMap as map_of
use Rattle.std.specs.Vec.{vec_capacity, vec_len}
use Rattle.rt_query.specs.Queries.{Query}
use Rattle.rt_query.specs.QueryEq.{query_eq}
use Rattle.rt_query.specs.QueryOrder.{query_cmp}
use Rattle.rt_cache.specs.inside.ByPath.{AreByQuery, query_of}
use Rattle.rt_cache.specs.inside.Held.{entries_of}
use Rattle.rt_cache.proofs.windows.remove_query.Given as goal

-- in order; what is found of other queries stays
abbrev pub invariant-loop-place : goal.invariant-loop-place
invariant-loop-place l =
    AreByQuery query_of l.windows.items
    × ((x : Query) → query_eq l.query x ≡ false → map_of.find query_cmp x (entries_of l.windows.items) ≡ map_of.find query_cmp x (entries_of l.initial.windows.items))
    × (vec_len l.windows ≤ vec_len l.initial.windows)
    × (vec_capacity l.windows ≡ vec_capacity l.initial.windows)

abbrev pub decreases-loop-place : goal.decreases-loop-place
decreases-loop-place l = length l.windows.items
