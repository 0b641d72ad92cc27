use Rattle.std.proofs.Common.{◌≡◌, ◌++◌, drop, map}
use Rattle.rt_parts.specs.inside.HeldView.{AreHeld, counted_of, pair_of, refreshed}
use Rattle.rt_parts.proofs.Counts.{counts_in}
use Rattle.rt_parts.proofs.RefreshLaws.{AreDue, left_of, met, told_left}
use Rattle.rt_parts.proofs.views.refresh.Given as goal

-- with those of the numbers that are left, all are refreshed and told; those that are due still are as they were
abbrev pub invariant-loop-number : goal.invariant-loop-number
invariant-loop-number l = record {
  pairs : left_of l.entries l.brought l.pending (drop l.number-index l.numbers) (map pair_of l.listeners) ≡ left_of l.entries l.brought l.pending l.numbers (map pair_of l.initial.listeners);
  notes : l.notes.items ++ told_left l.entries l.brought l.pending (drop l.number-index l.numbers) (map pair_of l.listeners) ≡ l.initial.notes.items ++ told_left l.entries l.brought l.pending l.numbers (map pair_of l.initial.listeners);
  counts : counts_in (refreshed l.entries l.brought l.pending) (met l.entries l.brought l.pending) (drop l.number-index l.numbers) (map counted_of l.listeners) ≡ counts_in (refreshed l.entries l.brought l.pending) (met l.entries l.brought l.pending) l.numbers (map counted_of l.initial.listeners);
  held : AreHeld l.listeners;
  due : AreDue l.entries l.brought l.pending l.met (drop l.number-index l.numbers) (map pair_of l.listeners);
}
