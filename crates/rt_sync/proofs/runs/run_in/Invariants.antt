use Rattle.std.proofs.Common.{◌≡◌, ◌≤◌, ◌+◌, length}
use Rattle.std.specs.Vec.{vec_capacity, vec_len}
use Rattle.std.specs.Vec.Iter.{into_iter_items, into_iter_len}
use Rattle.rt_sync.specs.Core.{world_in}
use Rattle.rt_sync.proofs.AppliedAll.{Continues}
use Rattle.rt_sync.proofs.runs.run_in.Given as goal

-- there is room for the answers to what is left; and what they make of the core now, all answers make of the core before
abbrev pub invariant-loop-step : goal.invariant-loop-step
invariant-loop-step l =
    (vec_len l.items + length (into_iter_items l.step-iterator) ≤ vec_capacity l.items)
    × Continues (world_in l.initial.core) l.fn.steps.items l.items.items (world_in l.core) (into_iter_items l.step-iterator)
    × (into_iter_len l.step-iterator ≡ length (into_iter_items l.step-iterator))
