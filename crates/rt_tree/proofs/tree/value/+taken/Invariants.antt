use Rattle.std.proofs.Common.{◌≡◌, ◌+◌, ◌≤◌, length}
use denote.Param.Weighed.{most}
use Rattle.std.specs.Map.{values_of}
use Rattle.std.specs.Vec.Iter.{into_iter_items, into_iter_len}
use Rattle.serde_json.proofs.value.Value.TheLaws.{the_size}
use Rattle.serde_json.specs.View.{items_view, members_view}
use Rattle.rt_tree.specs.Reading.{item_trees, member_trees, item_visits, member_visits, walked}
use Rattle.rt_tree.proofs.Readings.{Building}
use Rattle.rt_tree.proofs.Rows.{Filling}
use Rattle.rt_tree.proofs.tree.value.+taken.Given as goal

abbrev pub invariant-taken_items-loop-item : goal.invariant-taken_items-loop-item
invariant-taken_items-loop-item l =
    (walked l.initial.seen (item_visits l.level (items_view (into_iter_items l.initial.item-iterator))) ≡ walked l.seen (item_visits l.level (items_view (into_iter_items l.item-iterator))))
    × (l.seen ≤ 65536)
    × (l.place + length (into_iter_items l.item-iterator) ≡ length (into_iter_items l.initial.item-iterator))
    × Building (item_trees 0 (items_view (into_iter_items l.initial.item-iterator))) l.children.entries (item_trees l.place (items_view (into_iter_items l.item-iterator)))
    × (into_iter_len l.item-iterator ≡ length (into_iter_items l.item-iterator))
    × (most the_size (into_iter_items l.item-iterator) ≤ most the_size (into_iter_items l.initial.item-iterator))

abbrev pub invariant-taken_members-loop-name : goal.invariant-taken_members-loop-name
invariant-taken_members-loop-name l =
    (walked l.initial.seen (member_visits l.level (members_view l.initial.name-iterator)) ≡ walked l.seen (member_visits l.level (members_view l.name-iterator)))
    × (l.seen ≤ 65536)
    × Filling (member_trees (members_view l.initial.name-iterator)) l.row.items (member_trees (members_view l.name-iterator))
    × (most the_size (values_of l.name-iterator) ≤ most the_size (values_of l.initial.name-iterator))
