use Rattle.std.proofs.Common.{ℕ, ◌+◌, ◌<◌, slice_index}
use Rattle.rt_sync.proofs.steps.pushes.are_distinct.Given as goal

-- so far each tag is below the next one
abbrev pub invariant-loop-later : goal.invariant-loop-later
invariant-loop-later l = (k : ℕ) → k + 1 < l.later → slice_index l.tags k < slice_index l.tags (k + 1)
