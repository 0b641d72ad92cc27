use Rattle.std.proofs.Common.{◌≡◌, ◌≤◌, List, ◌++◌, Some}
use Rattle.json.specs.Json as json
use Rattle.json.specs.Tree as text
use Rattle.serde_json.specs.Data.{members_depth}
use Rattle.serde_json.specs.Read.{of_members}
use Rattle.serde_json.specs.Written.{blank_members, members_outline, WritesMembers}
use Rattle.rt_tree.specs.Leaves.{Key}
use Rattle.rt_tree.specs.Trees.{PathTree}
use Rattle.rt_tree.specs.Writing.{members_with, data_of}
use Rattle.rt_tree.proofs.tree.text.+write.Given as goal

-- whatever ends the object well from here ends it well from the start
abbrev pub invariant-write_children-loop-key : goal.invariant-write_children-loop-key
invariant-write_children-loop-key l =
    let all = members_with data_of l.initial.key-iterator in
    (l.out.before ≡ l.initial.out.before) × (done : List (Key × PathTree)) × (l.initial.key-iterator ≡ done ++ l.key-iterator)
    × ((ms : json.Members) → of_members ms (members_with data_of done) ≡ Some all → text.members_depth ms ≤ members_depth (members_with data_of l.key-iterator)
    → blank_members ms ≡ members_outline (members_with data_of l.key-iterator)
    → WritesMembers all l.initial.out.tokens (l.out.tokens ++ text.members_tokens ms))
