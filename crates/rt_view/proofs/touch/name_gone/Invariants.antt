use Rattle.std.proofs.Common.{◌≡◌, ◌++◌}
use Rattle.rt_view.specs.inside.Differences.{gone}
use Rattle.rt_view.proofs.touch.name_gone.Given as goal

abbrev pub invariant-loop-key : goal.invariant-loop-key
invariant-loop-key l = l.named.items ++ gone l.key-iterator l.new.entries ≡ l.initial.named.items ++ gone l.old.entries l.new.entries
