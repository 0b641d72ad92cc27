use Rattle.std.proofs.Common.{◌≡◌}
use Rattle.rt_tree.specs.Trees.{child_of}
use Rattle.rt_tree.proofs.tree.names.named_in.Given as goal

-- no child so far has the name
abbrev pub invariant-loop-key : goal.invariant-loop-key
invariant-loop-key l = child_of l.initial.key-iterator l.name ≡ child_of l.key-iterator l.name
