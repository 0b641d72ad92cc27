use Rattle.std.proofs.Common.{◌==◌, not, subst, sym}
use Rattle.rt_peer.specs.inside.Rising.{RisesFrom}
use Rattle.rt_peer.proofs.Numbers.{rises-filter}
use Rattle.rt_peer.proofs.connections.Rising.remove.Goals as goal

pub invariant_of-self : goal.invariant_of-self
invariant_of-self c =
    subst (RisesFrom 0) (sym c.remove_number.ensures)
    (rises-filter (λ m. not (m == c.args.number)) 0 c.self.inside.numbers.items c.self.invariant)
