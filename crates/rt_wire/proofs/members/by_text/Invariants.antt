use Rattle.std.proofs.Common.{◌≡◌, drop, take}
use Rattle.std.specs.List.{AllByRecursion, fold}
use Rattle.serde_json.specs.Data.{no_members}
use Rattle.rt_wire.specs.FieldData.{with_entry}
use Rattle.rt_wire.specs.inside.Standing.{IsStanding}
use Rattle.rt_wire.specs.inside.Writing.{lent_members}
use Rattle.rt_wire.proofs.members.by_text.Given as goal

abbrev pub invariant-loop-path : goal.invariant-loop-path
invariant-loop-path l =
    (fold with_entry no_members l.path-items ≡ fold with_entry (lent_members l.trees.entries) (drop l.path-index l.path-items))
    × AllByRecursion IsStanding (take l.path-index l.path-items)
