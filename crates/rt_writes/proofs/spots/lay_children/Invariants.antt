use Rattle.rt_writes.specs.Writes.{IsShallow}
use Rattle.rt_writes.specs.inside.ByNumber.{writes_of}
use Rattle.rt_writes.proofs.RowLaws.{IsLaidAt, Row}
use Rattle.rt_writes.proofs.spots.lay_children.Given as goal

-- the spots so far are laid, the others stand in the map, and no leaf is too deep
abbrev pub invariant-loop-key : goal.invariant-loop-key
invariant-loop-key l =
    IsLaidAt l.path (writes_of l.writes) l.spot l.last l.path l.initial.done l.key-iterator l.done
    × Row l.spot l.key-iterator
    × IsShallow (l.path, l.done)
