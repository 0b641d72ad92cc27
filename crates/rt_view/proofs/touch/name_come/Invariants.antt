use Rattle.std.proofs.Common.{◌≡◌, ◌++◌}
use Rattle.rt_view.specs.inside.Differences.{come}
use Rattle.rt_view.proofs.touch.name_come.Given as goal

abbrev pub invariant-loop-key : goal.invariant-loop-key
invariant-loop-key l = l.named.items ++ come l.old.entries l.key-iterator ≡ l.initial.named.items ++ come l.old.entries l.new.entries
