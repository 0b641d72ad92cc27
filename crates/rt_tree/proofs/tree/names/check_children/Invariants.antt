use Rattle.std.proofs.Common.{◌≡◌, drop}
use Rattle.rt_tree.specs.Named.{by_name, children_fault}
use Rattle.rt_tree.proofs.tree.names.check_children.Given as goal

abbrev pub invariant-loop-entry : goal.invariant-loop-entry
invariant-loop-entry l = children_fault (by_name l.children) ≡ children_fault (by_name (drop l.entry-index l.children))
