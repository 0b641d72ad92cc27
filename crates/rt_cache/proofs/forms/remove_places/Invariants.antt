use Rattle.std.proofs.Common.{◌≡◌, ℕ, ◌<◌, ◌≤◌, length, get_or, take}
use Rattle.rt_cache.specs.Recover.{without_places}
use Rattle.rt_cache.specs.inside.Listed.{queries_of, AreFilteredOf}
use Rattle.rt_cache.proofs.forms.remove_places.Given as goal

-- without the places that are left it is what is to be left, and these are within; the filtered ones stand beside
abbrev pub invariant-loop-count : goal.invariant-loop-count
invariant-loop-count l =
    (l.count ≤ length l.places)
    × (without_places (take l.count l.places) (queries_of l.forms.items) ≡ without_places l.places (queries_of l.initial.forms.items))
    × ((k : ℕ) (d : ℕ) → k < l.count → get_or l.places k d < length l.forms.items)
    × AreFilteredOf l.forms.items l.filtered.items

abbrev pub decreases-loop-count : goal.decreases-loop-count
decreases-loop-count l = l.count
