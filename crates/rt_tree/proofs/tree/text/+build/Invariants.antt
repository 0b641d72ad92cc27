use Rattle.std.proofs.Common.{◌≡◌, ◌≤◌, drop}
use denote.Param.Weighed.{most}
use Rattle.std.specs.Map.{values_of}
use Rattle.serde_json.proofs.value.Value.TheLaws.{the_size}
use Rattle.serde_json.specs.View.{items_view, members_view}
use Rattle.rt_tree.specs.Reading.{item_trees, member_trees, AreTreeItems, AreTreeMembers}
use Rattle.rt_tree.proofs.Readings.{Building}
use Rattle.rt_tree.proofs.Rows.{Filling}
use Rattle.rt_tree.proofs.tree.text.+build.Given as goal

abbrev pub invariant-of_items-loop-item : goal.invariant-of_items-loop-item
invariant-of_items-loop-item l =
    (l.place ≡ l.item-index)
    × Building (item_trees 0 (items_view l.items)) l.children.entries (item_trees l.item-index (items_view (drop l.item-index l.items)))
    × AreTreeItems (items_view (drop l.item-index l.items))

abbrev pub invariant-of_members-loop-name : goal.invariant-of_members-loop-name
invariant-of_members-loop-name l =
    Filling (member_trees (members_view l.members.entries)) l.row.items (member_trees (members_view l.name-iterator))
    × AreTreeMembers (members_view l.name-iterator)
    × (most the_size (values_of l.name-iterator) ≤ most the_size (values_of l.members.entries))
