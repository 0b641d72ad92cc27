use Rattle.std.proofs.Common.{◌≡◌, ℕ, ◌-◌, ◌<◌, ◌≤◌, false, length, get_or}
use Rattle.std.specs.Ordering.{is_lt}
use Rattle.rt_tree.specs.PathTree.{path_cmp}
use Rattle.rt_cache.specs.declared.forms.Form.{Form}
use Rattle.rt_cache.specs.inside.Held.{entries_of}
use Rattle.rt_cache.proofs.Sources.{has_it}
use Rattle.rt_cache.proofs.windows.place_of_first.Given as goal

-- none so far supplies the query and has a window, and none that is left stands before its path
abbrev pub invariant-loop-place : goal.invariant-loop-place
invariant-loop-place l =
    (l.place ≤ length l.forms)
    × ((k : ℕ) (d : Form) → k < l.place → has_it (entries_of l.windows) l.query (get_or l.forms k d).query ≡ false)
    × ((k : ℕ) (d : Form) → l.place ≤ k → k < length l.forms → is_lt (path_cmp ((get_or l.forms k d).query).path (l.query).path) ≡ false)

abbrev pub decreases-loop-place : goal.decreases-loop-place
decreases-loop-place l = length l.forms - l.place
