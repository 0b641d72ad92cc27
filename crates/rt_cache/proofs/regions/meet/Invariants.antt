use Rattle.std.proofs.Common.{◌≡◌, ◌-◌, true, length}
use Rattle.rt_cache.specs.inside.Shared.{do_share}
use Rattle.rt_cache.proofs.regions.meet.Given as goal

-- the paths share so many keys
abbrev pub invariant-loop-shared : goal.invariant-loop-shared
invariant-loop-shared l = do_share l.shared l.path l.other ≡ true

abbrev pub decreases-loop-shared : goal.decreases-loop-shared
decreases-loop-shared l = length l.path - l.shared
