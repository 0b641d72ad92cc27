use Rattle.std.proofs.Common.{subst, sym}
use Rattle.rt_peer.specs.inside.Rising.{RisesFrom}
use Rattle.rt_peer.proofs.connections.Rising.has.Goals as goal

pub has_number-requires : goal.has_number-requires
has_number-requires c = subst (RisesFrom 0) (sym c.deref.ensures.value) c.self.invariant
