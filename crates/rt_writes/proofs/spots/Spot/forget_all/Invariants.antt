use Rattle.std.proofs.Common.{take}
use Rattle.rt_writes.specs.inside.Spots.{ForgetsAll, KeepsTrees}
use Rattle.rt_writes.proofs.spots.Spot.forget_all.Given as goal

-- the entries so far
abbrev pub invariant-loop-entry : goal.invariant-loop-entry
invariant-loop-entry l =
    ForgetsAll l.initial.self l.self (take l.entry-index l.entries) l.id
    × KeepsTrees l.initial.self l.self (take l.entry-index l.entries) l.id
