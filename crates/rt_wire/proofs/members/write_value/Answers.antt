use Rattle.std.proofs.lemmas.Result.{on_ok_weaker}
use Rattle.rt_tree.proofs.Standing.{tree_of_data-data_of}
use Rattle.rt_wire.specs.FieldData.{tree_field}
use Rattle.rt_wire.proofs.Putting.{field_put}
use Rattle.rt_wire.proofs.members.write_value.Goals as goal

pub returns-clause-put : goal.returns-clause-put
returns-clause-put c =
    on_ok_weaker c.write_tree.result
    (λ w. field_put (tree_field c.args.tree.now) c.args.out.now c.key.new.self c.write_tree.new.out c.key.ensures.room.0 c.in_ok-key.ensures.ok (record { before = c.write_tree.ensures.before; value = w }))
    c.write_tree.ensures.ok

pub returns-clause-standing : goal.returns-clause-standing
returns-clause-standing c =
    on_ok_weaker c.write_tree.result (λ w. record { allowed = c.write_tree.ensures.allowed; back = tree_of_data-data_of c.args.tree.now c.write_tree.ensures.allowed }) c.write_tree.ensures.ok
