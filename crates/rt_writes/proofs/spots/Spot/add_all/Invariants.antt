use Rattle.std.proofs.Common.{take, ◌≡◌}
use Rattle.rt_writes.specs.inside.Spots.{AddsAll, AddsTrees}
use Rattle.rt_writes.proofs.spots.Spot.add_all.Given as goal

-- the entries so far
abbrev pub invariant-loop-entry : goal.invariant-loop-entry
invariant-loop-entry l =
    (l.place ≡ l.entry-index)
    × AddsAll l.initial.self l.self (take l.entry-index l.entries) l.id
    × AddsTrees l.initial.self l.self (take l.entry-index l.entries)
