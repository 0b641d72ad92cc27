use Rattle.std.proofs.Common.{◌≡◌, ◌++◌, map}
use Rattle.std.specs.Vec.Iter.{into_iter_items}
use Rattle.rt_wire.specs.Fields.{made}
use Rattle.rt_wire.specs.PartFields.{part_trees}
use Rattle.rt_wire.specs.inside.Places.{unread}
use Rattle.rt_wire.proofs.parts.part_trees.Given as goal

abbrev pub invariant-loop-part : goal.invariant-loop-part
invariant-loop-part l =
    part_trees (map unread l.fn.found.items)
    ≡ made (part_trees (map unread (into_iter_items l.part-iterator))) (λ rest. l.items.items ++ rest)
