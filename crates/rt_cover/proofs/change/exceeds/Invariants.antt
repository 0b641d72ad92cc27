use Rattle.std.proofs.Common.{◌≡◌, ◌+◌, take}
use Rattle.std.specs.List.{count_by}
use Rattle.rt_cover.specs.inside.Endings.{by_number, starts}
use Rattle.rt_cover.proofs.change.exceeds.Given as goal

abbrev pub invariant-loop-listener : goal.invariant-loop-listener
invariant-loop-listener g l =
    l.left + count_by (starts (by_number (g.E.EndedListeners.ended l.ending)) l.kept l.listeners) (take l.listener-index l.listeners) ≡ l.room
