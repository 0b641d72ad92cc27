use Rattle.std.proofs.Common.{◌≡◌, take}
use Rattle.rt_writes.proofs.OverlapLaws.{seen}
use Rattle.rt_writes.proofs.entries.by_path.Given as goal

abbrev pub invariant-loop-entry : goal.invariant-loop-entry
invariant-loop-entry l = seen l.sorted.items ≡ take l.entry-index l.entries
