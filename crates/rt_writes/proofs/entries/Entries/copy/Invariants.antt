use Rattle.std.proofs.Common.{◌≡◌, take}
use Rattle.rt_writes.proofs.entries.Entries.copy.Given as goal

abbrev pub invariant-loop-path : goal.invariant-loop-path
invariant-loop-path l = l.items.items ≡ take l.path-index l.path-items
