use Rattle.std.proofs.Common.{◌≡◌, ◌++◌}
use Rattle.std.specs.Vec.Iter.{into_iter_items}
use Rattle.rt_view.specs.inside.ChildChain.{marked}
use Rattle.rt_view.proofs.window.list_children.Given as goal

abbrev pub invariant-loop-position : goal.invariant-loop-position
invariant-loop-position l = l.list.items ++ marked l.from (into_iter_items l.position-iterator) ≡ marked l.from l.fn.children.items
