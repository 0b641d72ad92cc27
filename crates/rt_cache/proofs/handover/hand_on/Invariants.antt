use Rattle.std.proofs.Common.{◌≡◌, ◌++◌, drop}
use Rattle.rt_cache.specs.Recover.{handed_on}
use Rattle.rt_cache.specs.inside.Handing.{lent_queries}
use Rattle.rt_cache.specs.inside.Held.{entries_of, held}
use Rattle.rt_cache.proofs.handover.hand_on.Given as goal

-- the windows so far, and those of the heirs that are left
abbrev pub invariant-loop-heir : goal.invariant-loop-heir
invariant-loop-heir l =
    entries_of l.handed.items ++ handed_on (held l.registered l.regions l.windows) (lent_queries (drop l.heir-index l.heirs))
    ≡ handed_on (held l.registered l.regions l.windows) (lent_queries l.heirs)
