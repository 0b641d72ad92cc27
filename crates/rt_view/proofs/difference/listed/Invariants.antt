use Rattle.std.proofs.Common.{◌≡◌, ◌++◌}
use Rattle.rt_view.proofs.difference.listed.Given as goal

abbrev pub invariant-loop-key : goal.invariant-loop-key
invariant-loop-key l = l.children.entries ≡ l.list.items ++ l.key-iterator
