use Rattle.std.proofs.Common.{◌≡◌, ◌≤◌, ◌+◌, ◌++◌, length, false}
use lib.Dec.{T}
use Rattle.std.specs.FinMap as map_of
use Rattle.rt_tree.specs.PathTree.{path_cmp}
use Rattle.std.specs.Vec.{vec_capacity, vec_len}
use Rattle.std.specs.Vec.Iter.{into_iter_items, into_iter_len}
use Rattle.rt_tree.specs.Assignments.{have_overlap}
use Rattle.rt_cache.specs.Recover.{with_regions}
use Rattle.rt_cache.specs.inside.Held.{pairs_of}
use Rattle.rt_cache.proofs.recovery.insert_all.Given as goal

-- there is room for what is left, which is apart from what is there, in order
abbrev pub invariant-loop-region : goal.invariant-loop-region
invariant-loop-region l =
    (vec_len l.regions + length (into_iter_items l.region-iterator) ≤ vec_capacity l.regions)
    × (have_overlap (pairs_of l.regions.items ++ pairs_of (into_iter_items l.region-iterator)) ≡ false)
    × (with_regions (pairs_of l.regions.items) (pairs_of (into_iter_items l.region-iterator)) ≡ with_regions (pairs_of l.initial.regions.items) (pairs_of l.fn.more.items))
    × (T (map_of.is_sorted path_cmp (pairs_of l.regions.items)))
    × (into_iter_len l.region-iterator ≡ length (into_iter_items l.region-iterator))
