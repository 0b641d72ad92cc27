use Rattle.std.proofs.Common.{◌≡◌, ◌++◌, drop}
use Rattle.rt_view.specs.Kinds.{of_kinds}
use Rattle.rt_view.proofs.change.of_kinds.Given as goal

abbrev pub invariant-loop-change : goal.invariant-loop-change
invariant-loop-change l = l.changes.items ++ of_kinds l.kinds (drop l.change-index l.change-items) ≡ l.initial.changes.items ++ of_kinds l.kinds l.change-items
