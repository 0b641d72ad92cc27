use Rattle.std.proofs.Common.{◌≡◌, ◌≤◌, length}
use Rattle.std.specs.Vec.{vec_len, vec_capacity}
use Rattle.rt_cache.specs.inside.Spans.{AreInOrder, without}
use Rattle.rt_cache.proofs.recovery.remove_spans.Given as goal

-- what is left without the spans that are left is what was to be left
abbrev pub invariant-loop-span : goal.invariant-loop-span
invariant-loop-span l =
    (without l.spans.items l.regions.items ≡ without l.fn.spans.items l.initial.regions.items)
    × AreInOrder 0 l.spans.items (length l.regions.items)
    × (vec_len l.regions ≤ vec_len l.initial.regions)
    × (vec_capacity l.regions ≡ vec_capacity l.initial.regions)

abbrev pub decreases-loop-span : goal.decreases-loop-span
decreases-loop-span l = length l.spans.items
