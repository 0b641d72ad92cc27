use Rattle.std.proofs.Common.{◌≡◌, Some, rules}
use Rattle.slab.specs.Slab.{get}
use Rattle.rt_nodes.proofs.nodes.nearest.Goals as goal

pub returns-then-eq : goal.returns-then-eq
returns-then-eq g c =
    let slot = c.in_ok-slot.slot.now in
    let there : get c.args.nodes.now c.in_ok-index.index ≡ Some slot = search rules in
    let same : slot.parent ≡ c.args.parent = search rules in
    (slot, there, same)
