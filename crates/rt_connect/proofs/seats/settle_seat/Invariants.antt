use Rattle.std.proofs.Common.{length, string_bytes}
use Rattle.rt_connect.specs.Telling.{to_tell}
use Rattle.rt_connect.proofs.Settling.{HasTold}
use Rattle.rt_connect.proofs.seats.settle_seat.Given as goal

abbrev pub invariant-rounds : goal.invariant-rounds
invariant-rounds l =
    HasTold l.fn.shared l.fn.seat (string_bytes l.fn.out) (string_bytes l.out) l.shared l.seat

abbrev pub decreases-rounds : goal.decreases-rounds
decreases-rounds l = length (to_tell l.shared l.seat)
