use Rattle.std.proofs.Common.{ℕ, ◌<◌, get_or}
use Rattle.rt_tree.specs.Leaves.{Key}
use Rattle.rt_tree.specs.Trees.{PathTree, levels}
use Rattle.rt_tree.proofs.tree.children.is_one_too_deep.Given as goal

-- none so far
abbrev pub invariant-loop-entry : goal.invariant-loop-entry
invariant-loop-entry l = (k : ℕ) (d : Key × PathTree) → k < l.entry-index → levels (get_or l.children k d).1 < 33
