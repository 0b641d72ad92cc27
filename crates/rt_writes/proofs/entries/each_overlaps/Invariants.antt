use Rattle.std.proofs.Common.{◌≡◌, length}
use Rattle.rt_tree.specs.Assignments.{have_overlap}
use Rattle.rt_writes.proofs.entries.each_overlaps.Given as goal

-- none so far
abbrev pub invariant-loop-first : goal.invariant-loop-first
invariant-loop-first l = have_overlap l.entries ≡ have_overlap l.rest

abbrev pub decreases-loop-first : goal.decreases-loop-first
decreases-loop-first l = length l.rest
