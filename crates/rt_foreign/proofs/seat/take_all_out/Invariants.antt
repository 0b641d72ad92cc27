use Rattle.rt_foreign.proofs.Room.{SoFar}
use Rattle.rt_foreign.proofs.seat.take_all_out.Given as goal

-- nothing or some items are taken out so far
abbrev pub invariant-items : goal.invariant-items
invariant-items l = SoFar l.initial.shared l.initial.seat l.initial.taken l.shared l.seat l.taken
