use Rattle.std.proofs.Common.{arith}
use Rattle.std.proofs.lemmas.Result.{on_ok_weaker}
use Rattle.rt_wire.specs.FieldData.{number_field}
use Rattle.rt_wire.proofs.Putting.{field_put, number_put}
use Rattle.rt_wire.proofs.members.write_number.Goals as goal

pub returns : goal.returns
returns c =
    on_ok_weaker c.u64.result
    (λ e. field_put (number_field c.args.name.now c.args.number) c.args.out.now c.key.new.self c.u64.new.self c.key.ensures.room.0 c.in_ok-key.ensures.ok
    (number_put c.args.number c.key.new.self c.u64.new.self (omega arith) c.u64.ensures.room.0 e))
    c.u64.ensures.ok
