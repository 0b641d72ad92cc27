use Rattle.std.proofs.Common.{◌≡◌, length}
use Rattle.std.specs.Vec.Iter.{into_iter_items, into_iter_len}
use Rattle.rt_tree.proofs.Children.{Placing}
use Rattle.rt_tree.proofs.tree.children.object_of.Given as goal

abbrev pub invariant-loop-key : goal.invariant-loop-key
invariant-loop-key l =
    Placing l.fn.children.items l.placed.entries (into_iter_items l.key-iterator)
    × (into_iter_len l.key-iterator ≡ length (into_iter_items l.key-iterator))
