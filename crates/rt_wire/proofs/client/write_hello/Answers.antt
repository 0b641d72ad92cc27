use Rattle.std.proofs.Common.{◌∷◌, [], refl}
use Rattle.std.specs.Prelude.{codes}
use Rattle.std.proofs.lemmas.Result.{on_ok_weaker}
use Rattle.rt_wire.specs.FieldData.{kind, number_field}
use Rattle.rt_wire.proofs.Putting.{object_put}
use Rattle.rt_wire.proofs.client.write_hello.Goals as goal

pub returns : goal.returns
returns c =
    on_ok_weaker c.end_object.result
    (λ e. object_put (kind (codes "hello") ∷ number_field (codes "version") c.args.version ∷ []) c.args.out.now c.begin_object.new.self c.write_number.new.out c.end_object.new.self refl c.begin_object.ensures.room.0 c.in_ok-begin_object.ensures.ok
    (c.write_text.new.out, c.in_ok-write_text.ensures, (c.write_number.new.out, c.in_ok-write_number.ensures, (refl, refl))) c.end_object.ensures.room.0 e)
    c.end_object.ensures.ok
