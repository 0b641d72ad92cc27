use Rattle.std.proofs.Common.{◌∷◌, [], refl}
use Rattle.std.specs.Prelude.{codes}
use Rattle.std.proofs.lemmas.Result.{on_ok_weaker}
use Rattle.rt_wire.specs.FieldData.{kind, number_field}
use Rattle.rt_wire.proofs.Putting.{object_put}
use Rattle.rt_wire.proofs.server.write_accepted.Goals as goal

pub returns : goal.returns
returns c =
    on_ok_weaker c.end_object.result
    (λ e. object_put (number_field (codes "id") c.args.id ∷ kind (codes "ok") ∷ []) c.args.out.now c.begin_object.new.self c.write_text.new.out c.end_object.new.self refl c.begin_object.ensures.room.0 c.in_ok-begin_object.ensures.ok
    (c.write_number.new.out, c.in_ok-write_number.ensures, (c.write_text.new.out, c.in_ok-write_text.ensures, (refl, refl))) c.end_object.ensures.room.0 e)
    c.end_object.ensures.ok
