use Rattle.std.proofs.Common.{◌≡◌, ◌++◌, map, drop}
use Rattle.rt_view.specs.inside.ViewIndex.{removed_of}
use Rattle.rt_view.proofs.difference.push_removed.Given as goal

abbrev pub invariant-loop-position : goal.invariant-loop-position
invariant-loop-position l = l.changes.items ++ map removed_of (drop l.position-index l.gone) ≡ l.initial.changes.items ++ map removed_of l.gone
