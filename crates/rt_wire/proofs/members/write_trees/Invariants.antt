use Rattle.std.proofs.Common.{◌≡◌, ◌≤◌, List, ◌++◌, Some}
use Rattle.json.specs.Json as json
use Rattle.json.specs.Tree as text
use Rattle.serde_json.specs.Data.{members_depth}
use Rattle.serde_json.specs.Read.{of_members}
use Rattle.serde_json.specs.Written.{blank_members, members_outline, WritesMembers}
use Rattle.rt_wire.specs.inside.Writing.{lent_members}
use Rattle.rt_wire.proofs.Lent.{Lent}
use Rattle.rt_wire.proofs.members.write_trees.Given as goal

-- whatever ends the object well from here ends it well from the start
abbrev pub invariant-loop-name : goal.invariant-loop-name
invariant-loop-name l =
    let all = lent_members l.trees.entries in
    (l.out.before ≡ l.initial.out.before) × (done : List Lent) × (l.trees.entries ≡ done ++ l.name-iterator)
    × ((ms : json.Members) → of_members ms (lent_members done) ≡ Some all → text.members_depth ms ≤ members_depth (lent_members l.name-iterator)
    → blank_members ms ≡ members_outline (lent_members l.name-iterator)
    → WritesMembers all l.initial.out.tokens (l.out.tokens ++ text.members_tokens ms))
