use Rattle.std.proofs.Common.{take}
use Rattle.rt_parts.specs.inside.Pairs.{HavePairs}
use Rattle.rt_parts.proofs.entries.pairs_met.Given as goal

-- those of the entries so far
abbrev pub invariant-loop-at : goal.invariant-loop-at
invariant-loop-at l = HavePairs (take l.at l.entries) l.pairs.items l.places
