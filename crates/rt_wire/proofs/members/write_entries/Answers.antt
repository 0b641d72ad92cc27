use Rattle.std.proofs.Common.{subst}
use Rattle.std.proofs.lemmas.Result.{on_ok_weaker}
use Rattle.serde_json.specs.Written.{WritesMembers}
use Rattle.rt_wire.specs.FieldData.{entries_field}
use Rattle.rt_wire.proofs.Putting.{field_put, members_put}
use Rattle.rt_wire.proofs.members.write_entries.Goals as goal

pub returns-clause-put : goal.returns-clause-put
returns-clause-put c =
    on_ok_weaker c.write_trees.result
    (λ w. field_put (entries_field c.args.entries.now) c.args.out.now c.key.new.self c.write_trees.new.out c.key.ensures.room.0 c.in_ok-key.ensures.ok
    (members_put _ c.key.new.self c.begin_object.new.self c.write_trees.new.out c.begin_object.ensures.room.0 c.in_ok-begin_object.ensures.ok c.write_trees.ensures.before
    (subst (λ ms. WritesMembers ms c.begin_object.new.self.tokens c.write_trees.new.out.tokens) c.in_ok-trees.ensures.members w)))
    c.write_trees.ensures.ok
