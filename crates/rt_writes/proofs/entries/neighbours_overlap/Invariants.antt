use Rattle.std.proofs.Common.{◌≡◌, ◌-◌, drop}
use Rattle.rt_tree.specs.Assignments.{have_overlap}
use Rattle.rt_writes.proofs.OverlapLaws.{seen}
use Rattle.rt_writes.proofs.entries.neighbours_overlap.Given as goal

-- none so far
abbrev pub invariant-loop-next : goal.invariant-loop-next
invariant-loop-next l = have_overlap (seen l.sorted) ≡ have_overlap (seen (drop (l.next - 1) l.sorted))
