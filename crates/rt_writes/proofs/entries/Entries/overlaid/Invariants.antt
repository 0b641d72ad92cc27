use Rattle.std.proofs.Common.{◌≡◌, drop}
use Rattle.std.specs.List.{fold}
use Rattle.rt_writes.specs.Writes.{IsShallow, overlaid}
use Rattle.rt_writes.proofs.entries.Entries.overlaid.Given as goal

-- what is left to lay over, and no leaf is too deep
abbrev pub invariant-loop-at : goal.invariant-loop-at
invariant-loop-at l = (fold (overlaid l.path) l.initial.after l.at-items ≡ fold (overlaid l.path) l.after (drop l.at-index l.at-items)) × IsShallow (l.path, l.after)
