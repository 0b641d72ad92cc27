use Rattle.std.proofs.Common.{◌≡◌, ◌++◌}
use Rattle.std.specs.Vec.Iter.{into_iter_items}
use Rattle.rt_wire.specs.EntryFields.{trees_of}
use Rattle.rt_wire.specs.Fields.{made}
use Rattle.rt_wire.specs.inside.Places.{places}
use Rattle.rt_wire.proofs.members.trees.Given as goal

abbrev pub invariant-loop-path : goal.invariant-loop-path
invariant-loop-path l = trees_of (places l.fn.found.items) ≡ made (trees_of (places (into_iter_items l.path-iterator))) (λ rest. l.items.items ++ rest)
