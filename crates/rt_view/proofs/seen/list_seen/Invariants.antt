use Rattle.std.proofs.Common.{◌≡◌, ◌++◌, length}
use Rattle.std.specs.Map.{values_of}
use Rattle.rt_view.proofs.seen.list_seen.Given as goal

abbrev pub invariant-loop-one : goal.invariant-loop-one
invariant-loop-one l = l.list.items ++ values_of l.seen.entries ≡ values_of l.fn.seen.entries

abbrev pub decreases-loop-one : goal.decreases-loop-one
decreases-loop-one l = length l.seen.entries
