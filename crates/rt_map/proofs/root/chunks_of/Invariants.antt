use Rattle.std.proofs.Common.{◌≡◌, ◌++◌, length}
use Rattle.std.specs.Vec.Iter.{into_iter_items, into_iter_len}
use Rattle.rt_map.specs.inside.Joined.{joined, AllFilled}
use Rattle.rt_map.proofs.root.chunks_of.Given as goal

abbrev pub invariant-loop-entry : goal.invariant-loop-entry
invariant-loop-entry g l =
    (goal.iterator-loop-entry g).can_next l.entry-iterator × (goal.iterator-loop-entry g).is_finite l.entry-iterator
    × AllFilled l.chunks.items × (joined l.chunks.items ++ (l.open.items ++ into_iter_items l.entry-iterator) ≡ into_iter_items l.initial.entry-iterator)
    × (into_iter_len l.entry-iterator ≡ length (into_iter_items l.entry-iterator))
