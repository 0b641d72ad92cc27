use Rattle.std.proofs.Common.{◌≡◌, ◌≤◌, ◌+◌, ◌++◌, length}
use Rattle.std.specs.List.Sorted.{IsSorted}
use Rattle.std.specs.Vec.{vec_capacity, vec_len}
use Rattle.std.specs.Vec.Iter.{into_iter_items, into_iter_len}
use Rattle.rt_cover.specs.inside.Index.{by_form, SameCounts, form_of}
use Rattle.rt_cover.proofs.listens.place_each.Given as goal

-- there is room for what is left; what is there is in order
abbrev pub invariant-loop-listen : goal.invariant-loop-listen
invariant-loop-listen l =
    (vec_len l.by_path + length (into_iter_items l.listen-iterator) ≤ vec_capacity l.by_path)
    × IsSorted (by_form form_of) l.by_path.items
    × SameCounts (l.by_path.items ++ into_iter_items l.listen-iterator) (l.initial.by_path.items ++ l.fn.new.items)
    × (into_iter_len l.listen-iterator ≡ length (into_iter_items l.listen-iterator))
