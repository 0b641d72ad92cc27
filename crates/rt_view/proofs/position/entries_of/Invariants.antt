use Rattle.std.specs.Prelude.{◌≡◌, ◌++◌}
use Rattle.rt_view.specs.inside.ViewIndex.{entries_of}
use Rattle.rt_view.proofs.position.entries_of.Given as goal

abbrev pub invariant-loop-key : goal.invariant-loop-key
invariant-loop-key l = entries_of l.index l.children.entries ≡ l.found.items ++ entries_of l.index l.key-iterator
