use Rattle.std.proofs.lemmas.Result.{on_ok_weaker}
use Rattle.rt_wire.specs.FieldData.{path_field}
use Rattle.rt_wire.proofs.Putting.{field_put}
use Rattle.rt_wire.proofs.members.write_path.Goals as goal

pub returns-clause-put : goal.returns-clause-put
returns-clause-put c =
    on_ok_weaker c.write_path_text.result
    (λ h. field_put (path_field c.args.path.now) c.args.out.now c.key.new.self c.write_path_text.new.out c.key.ensures.room.0 c.in_ok-key.ensures.ok h)
    c.write_path_text.ensures.put
