use Rattle.std.proofs.Common.{◌≡◌, take}
use Rattle.std.specs.BTreeMap.{IsOrdered}
use Rattle.rt_tree.specs.PathTree.{key_cmp}
use Rattle.rt_view.specs.Changes.{replay}
use Rattle.rt_view.proofs.change.apply_changes.Given as goal

abbrev pub invariant-loop-change : goal.invariant-loop-change
invariant-loop-change l = (l.children.entries ≡ replay (take l.change-index l.changes) l.fn.children.entries) × IsOrdered key_cmp l.children
