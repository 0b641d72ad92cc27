use Rattle.rt_writes.specs.Writes.{IsShallow}
use Rattle.rt_writes.specs.inside.ByNumber.{writes_of}
use Rattle.rt_writes.proofs.RowLaws.{IsLaid, Row}
use Rattle.rt_writes.proofs.spots.+lay_below.Given as goal

-- the spots so far are laid, the others stand in the map, and no leaf is too deep
abbrev pub invariant-loop-child : goal.invariant-loop-child
invariant-loop-child l =
    IsLaid (writes_of l.writes) l.spot l.last l.path l.initial.done l.child-iterator l.done
    × Row l.spot l.child-iterator
    × IsShallow (l.path, l.done)
