use Rattle.std.proofs.Common.{◌≡◌, ◌++◌, drop}
use Rattle.rt_view.specs.Changes.{removals}
use Rattle.rt_view.proofs.difference.push_removals.Given as goal

abbrev pub invariant-loop-gone : goal.invariant-loop-gone
invariant-loop-gone l = l.changes.items ++ removals (drop l.gone-index l.old) l.new.rows ≡ l.initial.changes.items ++ removals l.old l.new.rows
