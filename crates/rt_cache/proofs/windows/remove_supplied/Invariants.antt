use Rattle.std.proofs.Common.{◌≡◌, ℕ, ◌-◌, ◌<◌, ◌≤◌, false, not, length, get_or}
use Rattle.std.specs.List.{filter}
use Rattle.std.specs.Ordering.{is_lt}
use Rattle.rt_tree.specs.PathTree.{path_cmp}
use Rattle.rt_cache.specs.declared.windows.Window.{Window}
use Rattle.rt_cache.specs.inside.ByPath.{AreByQuery, query_of, is_other_supplier}
use Rattle.rt_cache.proofs.windows.remove_supplied.Given as goal

-- in order; none so far is of another query that this one supplies, none that is left stands before its path, and all others are there
abbrev pub invariant-loop-place : goal.invariant-loop-place
invariant-loop-place l =
    AreByQuery query_of l.windows.items
    × (l.place ≤ length l.windows.items)
    × ((k : ℕ) (d : Window) → k < l.place → is_other_supplier l.query (get_or l.windows.items k d).query ≡ false)
    × ((k : ℕ) (d : Window) → l.place ≤ k → k < length l.windows.items → is_lt (path_cmp ((get_or l.windows.items k d).query).path (l.query).path) ≡ false)
    × (filter (λ (w : Window). not (is_other_supplier l.query w.query)) l.windows.items ≡ filter (λ (w : Window). not (is_other_supplier l.query w.query)) l.initial.windows.items)

abbrev pub decreases-loop-place : goal.decreases-loop-place
decreases-loop-place l = length l.windows.items - l.place
