use Rattle.std.proofs.Common.{◌≡◌, ◌≤◌, drop}
use Rattle.serde_json.specs.View.{items_view, members_view}
use Rattle.rt_tree.specs.Reading.{walked, item_visits, member_visits}
use Rattle.rt_tree.proofs.tree.text.+walk.Given as goal

abbrev pub invariant-walk_items-loop-item : goal.invariant-walk_items-loop-item
invariant-walk_items-loop-item l = (walked l.seen (item_visits l.level (items_view l.items)) ≡ walked l.counted (item_visits l.level (items_view (drop l.item-index l.items)))) × (l.counted ≤ 65536)

abbrev pub invariant-walk_members-loop-name : goal.invariant-walk_members-loop-name
invariant-walk_members-loop-name l = (walked l.seen (member_visits l.level (members_view l.members.entries)) ≡ walked l.counted (member_visits l.level (members_view l.name-iterator))) × (l.counted ≤ 65536)
