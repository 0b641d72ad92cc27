use Rattle.std.proofs.Common.{◌∷◌, [], refl, subst}
use Rattle.std.specs.Prelude.{codes}
use Rattle.std.proofs.lemmas.Result.{on_ok_weaker}
use Rattle.rt_wire.specs.FieldData.{kind, number_field, reason_field}
use Rattle.rt_wire.specs.inside.Writing.{PutsField}
use Rattle.rt_wire.proofs.Putting.{object_put}
use Rattle.rt_wire.proofs.server.write_revoked.Goals as goal

pub returns : goal.returns
returns c =
    let why = subst (λ s. PutsField (reason_field s) c.write_number.new.out c.write_text-2.new.out) c.text.ensures c.in_ok-write_text-2.ensures in
    on_ok_weaker c.end_object.result
    (λ e. object_put (kind (codes "revoke") ∷ number_field (codes "tag") c.args.tag ∷ reason_field c.args.why.now ∷ []) c.args.out.now c.begin_object.new.self c.write_text-2.new.out c.end_object.new.self refl c.begin_object.ensures.room.0 c.in_ok-begin_object.ensures.ok
    (c.write_text.new.out, c.in_ok-write_text.ensures, (c.write_number.new.out, c.in_ok-write_number.ensures, (c.write_text-2.new.out, why, (refl, refl)))) c.end_object.ensures.room.0 e)
    c.end_object.ensures.ok
