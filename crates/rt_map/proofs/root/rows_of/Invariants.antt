use Rattle.std.proofs.Common.{◌≡◌, ◌++◌, length}
use Rattle.std.specs.Vec.Iter.{into_iter_items, into_iter_len}
use Rattle.rt_map.specs.inside.Joined.{joined, AllFilled}
use Rattle.rt_map.proofs.root.rows_of.Given as goal

abbrev pub invariant-loop-chunk : goal.invariant-loop-chunk
invariant-loop-chunk g l =
    (goal.iterator-loop-chunk g).can_next l.chunk-iterator × (goal.iterator-loop-chunk g).is_finite l.chunk-iterator
    × AllFilled l.rows.items × AllFilled l.open.items × AllFilled (into_iter_items l.chunk-iterator)
    × (joined l.rows.items ++ (joined l.open.items ++ joined (into_iter_items l.chunk-iterator)) ≡ joined (into_iter_items l.initial.chunk-iterator))
    × (into_iter_len l.chunk-iterator ≡ length (into_iter_items l.chunk-iterator))
