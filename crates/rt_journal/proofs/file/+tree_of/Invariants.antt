use Rattle.std.proofs.Common.{◌≡◌, ◌≤◌, ◌++◌}
use denote.Param.Weighed.{most}
use Rattle.std.specs.Map.{values_of}
use Rattle.serde_json.proofs.value.Value.TheLaws.{the_size}
use Rattle.serde_json.specs.View.{members_view}
use Rattle.rt_tree.specs.Reading.{member_trees}
use Rattle.rt_journal.proofs.file.+tree_of.Given as goal

abbrev pub invariant-tree_of_members-loop-name : goal.invariant-tree_of_members-loop-name
invariant-tree_of_members-loop-name l =
    (member_trees (members_view l.members.entries)
    ≡ l.children.items ++ member_trees (members_view l.name-iterator))
    × (most the_size (values_of l.name-iterator) ≤ most the_size (values_of l.members.entries))
