use Rattle.std.proofs.Common.{◌≡◌, ◌+◌, ◌*◌, length, drop, map}
use Rattle.rt_tree.specs.PathTree.{levels, object}
use Rattle.rt_store.specs.Rows.{in_key_order}
use Rattle.rt_nodes.specs.Forest.{row_at}
use Rattle.rt_store.specs.inside.Entries.{entries}
use Rattle.rt_store.specs.inside.Changes.{IsGrown}
use Rattle.rt_store.specs.inside.Growing.{seen}
use Rattle.rt_store.proofs.Falling.{onto}
use Rattle.rt_store.proofs.nodes.+grow.Given as goal

abbrev pub decreases-content : goal.decreases-content
decreases-content l = 3 * (length l.rest.now + levels l.tree.now) + 1

abbrev pub decreases-grow : goal.decreases-grow
decreases-grow l = 3 * (length l.rest.now + levels l.tree.now) + 2

abbrev pub decreases-grow_row : goal.decreases-grow_row
decreases-grow_row l = 3 * levels (object (in_key_order l.children.now.entries))

abbrev pub invariant-grow_row-loop-child : goal.invariant-grow_row-loop-child
invariant-grow_row-loop-child l =
    IsGrown l.initial.nodes l.nodes l.first l.parent
    × onto (map seen (drop l.child-index l.child-items)) (entries (row_at l.nodes l.first)) ≡ in_key_order l.children.entries
