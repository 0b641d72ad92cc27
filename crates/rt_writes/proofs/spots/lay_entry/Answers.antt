use Rattle.std.proofs.Common.{◌≤◌, arith}
use Rattle.rt_tree.specs.PathTree.{levels}
use Rattle.rt_writes.proofs.LayLaws.{one_level}
use Rattle.rt_writes.proofs.spots.lay_entry.Goals as goal

pub overlaid-requires-clause-entry : goal.overlaid-requires-clause-entry
overlaid-requires-clause-entry c =
    let flat : levels c.leaf.result ≤ 1 = one_level c.leaf.result _ c.leaf.ensures in
    omega (arith, flat, c.keys-is_path.ensures.valid.short)
