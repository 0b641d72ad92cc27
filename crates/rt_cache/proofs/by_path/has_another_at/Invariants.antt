use Rattle.std.proofs.Common.{◌≡◌, ℕ, ◌-◌, ◌<◌, ◌≤◌, false, length, get_or}
use Rattle.std.specs.Ordering.{is_lt}
use Rattle.rt_tree.specs.PathTree.{path_cmp}
use Rattle.rt_cache.specs.Brought.{is_another_at}
use Rattle.rt_cache.proofs.by_path.has_another_at.Given as goal

-- none so far is another one of the path, and none that is left stands before it
abbrev pub invariant-loop-place : goal.invariant-loop-place
invariant-loop-place g l =
    let q = g.T.HasQuery.query_of in
    (l.place ≤ length l.items)
    × ((k : ℕ) (d : g.row.T.Denot) → k < l.place → is_another_at l.query (q (get_or l.items k d)) ≡ false)
    × ((k : ℕ) (d : g.row.T.Denot) → l.place ≤ k → k < length l.items → is_lt (path_cmp (q (get_or l.items k d)).path (l.query).path) ≡ false)

abbrev pub decreases-loop-place : goal.decreases-loop-place
decreases-loop-place g l = length l.items - l.place
