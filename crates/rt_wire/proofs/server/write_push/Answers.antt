use Rattle.std.proofs.Common.{◌∷◌, [], refl}
use Rattle.std.specs.Prelude.{codes}
use Rattle.std.proofs.lemmas.Result.{on_ok_weaker}
use Rattle.serde_json.specs.Data.{array}
use Rattle.rt_wire.specs.FieldData.{kind}
use Rattle.rt_wire.specs.ServerData.{part_items}
use Rattle.rt_wire.proofs.Putting.{object_put}
use Rattle.rt_wire.proofs.server.write_push.Goals as goal

pub returns-clause-put : goal.returns-clause-put
returns-clause-put c =
    on_ok_weaker c.end_object.result
    (λ e. object_put (kind (codes "push") ∷ (codes "parts", array (part_items c.args.parts.now)) ∷ []) c.args.out.now c.begin_object.new.self c.write_parts_field.new.out c.end_object.new.self refl c.begin_object.ensures.room.0 c.in_ok-begin_object.ensures.ok
    (c.write_text.new.out, c.in_ok-write_text.ensures, (c.write_parts_field.new.out, c.in_ok-write_parts_field.ensures.put, (refl, refl))) c.end_object.ensures.room.0 e)
    c.end_object.ensures.ok
