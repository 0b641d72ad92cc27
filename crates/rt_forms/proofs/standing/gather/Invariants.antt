use Rattle.std.proofs.Common.{◌≡◌, ◌++◌, drop}
use Rattle.rt_forms.specs.inside.Trees.{all_filtered}
use Rattle.rt_forms.proofs.standing.gather.Given as goal

abbrev pub invariant-loop-entry : goal.invariant-loop-entry
invariant-loop-entry l = l.numbers.items ++ all_filtered (drop l.entry-index l.filtered) ≡ l.initial.numbers.items ++ all_filtered l.filtered
