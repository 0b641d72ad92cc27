use Rattle.std.proofs.Common.{◌≡◌, ℕ, suc, ◌-◌, ◌<◌, ◌≤◌, true, false, length, get_or}
use Rattle.std.specs.Ordering.{is_lt}
use Rattle.rt_tree.specs.PathTree.{path_cmp}
use Rattle.rt_cache.specs.declared.regions.Region.{Region}
use Rattle.rt_cache.specs.inside.Shared.{do_share}
use Rattle.rt_cache.proofs.regions.place_of.Given as goal

-- the path comes before the one at `high`, and not before the one in front of `low`; so many keys
-- as are known it shares with each, and none is known where there is no such region
abbrev pub invariant-loop-low : goal.invariant-loop-low
invariant-loop-low l =
    (l.low ≤ l.high)
    × (l.high ≤ length l.regions)
    × ((k : ℕ) (d : Region) → suc k ≡ l.low → is_lt (path_cmp l.path (get_or l.regions k d).path) ≡ false)
    × ((d : Region) → l.high < length l.regions → is_lt (path_cmp l.path (get_or l.regions l.high d).path) ≡ true)
    × (1 ≤ l.shared_below → 1 ≤ l.low)
    × ((k : ℕ) (d : Region) → suc k ≡ l.low → do_share l.shared_below l.path (get_or l.regions k d).path ≡ true)
    × (1 ≤ l.shared_above → l.high < length l.regions)
    × ((d : Region) → l.high < length l.regions → do_share l.shared_above l.path (get_or l.regions l.high d).path ≡ true)

abbrev pub decreases-loop-low : goal.decreases-loop-low
decreases-loop-low l = l.high - l.low
