use Rattle.std.proofs.Common.{◌≡◌, drop}
use Rattle.std.specs.List.{fold}
use Rattle.rt_cache.specs.Brought.{push}
use Rattle.rt_sync.proofs.steps.pushes.put_all.Given as goal

-- with what is left it is all, and what is registered stays
abbrev pub invariant-loop-entry : goal.invariant-loop-entry
invariant-loop-entry l =
    (fold (push l.query) l.brought (drop l.entry-index l.entries) ≡ fold (push l.query) l.initial.brought l.entries)
    × ((l.brought).registered ≡ (l.initial.brought).registered)
