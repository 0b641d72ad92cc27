use Rattle.std.proofs.Common.{◌≡◌, take}
use Rattle.rt_map.specs.inside.Joined.{joined, AllFilled}
use Rattle.rt_map.proofs.table.copy_parts.Given as goal

abbrev pub invariant-loop-part : goal.invariant-loop-part
invariant-loop-part g l = AllFilled l.copies.items × (joined l.copies.items ≡ joined (take l.part-index l.parts))
