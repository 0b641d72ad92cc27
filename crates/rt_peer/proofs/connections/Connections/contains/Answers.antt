use Rattle.std.proofs.Common.{arith, subst, sym}
use Rattle.rt_peer.specs.inside.Rising.{RisesFrom}
use Rattle.rt_peer.proofs.Numbers.{rises_lower}
use Rattle.rt_peer.proofs.connections.Connections.contains.Goals as goal

pub has_number-requires : goal.has_number-requires
has_number-requires c =
    subst (RisesFrom 0) (sym c.deref.ensures.value)
    (rises_lower 0 1 c.self.inside.numbers.items (omega arith) c.self.invariant)
