use Rattle.std.proofs.Common.{◌≡◌, ◌++◌, None, length}
use Rattle.std.specs.Vec.Iter.{into_iter_items, into_iter_len}
use Rattle.rt_tree.specs.Named.{by_name, children_fault}
use Rattle.rt_tree.proofs.tree.names.keyed.Given as goal

abbrev pub invariant-loop-name : goal.invariant-loop-name
invariant-loop-name l =
    (l.keyed.items ++ by_name (into_iter_items l.name-iterator) ≡ by_name l.fn.children.items)
    × (children_fault (by_name (into_iter_items l.name-iterator)) ≡ None)
    × (into_iter_len l.name-iterator ≡ length (into_iter_items l.name-iterator))
