use Rattle.std.proofs.Common.{take}
use Rattle.rt_peer.specs.inside.Met.{AreMet}
use Rattle.rt_peer.proofs.write.entries_met.Given as goal

-- those of the entries so far
abbrev pub invariant-loop-at : goal.invariant-loop-at
invariant-loop-at l = AreMet l.entries (take l.at l.entries) l.met.entries l.spots.keys
