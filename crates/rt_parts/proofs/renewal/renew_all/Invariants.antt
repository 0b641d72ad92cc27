use Rattle.std.proofs.Common.{◌≡◌, ◌++◌, drop, map}
use Rattle.rt_parts.specs.inside.HeldView.{AreHeld, counted_of, pair_of, renewed_pair}
use Rattle.rt_parts.proofs.Counts.{counts_in}
use Rattle.rt_parts.proofs.RenewalLaws.{left_of, of, told_left}
use Rattle.rt_parts.proofs.renewal.renew_all.Given as goal

-- with those of the numbers that are left, all are renewed and told
abbrev pub invariant-loop-number : goal.invariant-loop-number
invariant-loop-number l = record {
  pairs : left_of l.queries l.brought l.pending (drop l.number-index l.numbers) (map pair_of l.listeners) ≡ left_of l.queries l.brought l.pending l.numbers (map pair_of l.initial.listeners);
  notes : l.notes.items ++ told_left l.queries l.brought l.pending (drop l.number-index l.numbers) (map pair_of l.listeners) ≡ l.initial.notes.items ++ told_left l.queries l.brought l.pending l.numbers (map pair_of l.initial.listeners);
  counts : counts_in (renewed_pair l.queries l.brought l.pending) (of l.queries l.brought l.pending) (drop l.number-index l.numbers) (map counted_of l.listeners) ≡ counts_in (renewed_pair l.queries l.brought l.pending) (of l.queries l.brought l.pending) l.numbers (map counted_of l.initial.listeners);
  held : AreHeld l.listeners;
}
