use Rattle.std.proofs.Common.{◌≡◌, ◌+◌, ◌≤◌, ◌++◌, length}
use Rattle.std.specs.Vec.{vec_len, vec_capacity}
use Rattle.rt_cache.specs.Recover.{in_query_order}
use Rattle.rt_cache.specs.inside.ByPath.{AreByQuery, query_of}
use Rattle.rt_cache.specs.inside.Held.{entries_of}
use Rattle.rt_cache.proofs.windows.put_windows.Given as goal

-- in order, with room for those that are left; with these in front they are listed as before
abbrev pub invariant-loop-window : goal.invariant-loop-window
invariant-loop-window l =
    AreByQuery query_of l.windows.items
    × (vec_len l.windows + length l.more.items ≤ vec_capacity l.windows)
    × (in_query_order (entries_of l.more.items ++ entries_of l.windows.items) ≡ in_query_order (entries_of l.fn.more.items ++ entries_of l.initial.windows.items))

abbrev pub decreases-loop-window : goal.decreases-loop-window
decreases-loop-window l = length l.more.items
