use Rattle.std.proofs.Common.{◌∷◌, [], refl, subst}
use Rattle.std.specs.Prelude.{codes}
use Rattle.std.proofs.lemmas.Result.{on_ok_weaker}
use Rattle.rt_wire.specs.FieldData.{number_field, entries_field}
use Rattle.rt_wire.specs.inside.Writing.{PutsField}
use Rattle.rt_wire.proofs.Putting.{object_put}
use Rattle.rt_wire.proofs.parts.write_part.Goals as goal

pub returns-clause-put : goal.returns-clause-put
returns-clause-put c =
    let entries = subst (λ es. PutsField (entries_field es) c.begin_object.new.self c.write_entries.new.out) c.entries.ensures c.in_ok-write_entries.ensures.put in
    let tag = subst (λ n. PutsField (number_field (codes "tag") n) c.write_entries.new.out c.write_number.new.out) c.tag.ensures c.in_ok-write_number.ensures in
    on_ok_weaker c.end_object.result
    (λ e. object_put (entries_field c.args.part.now.1 ∷ number_field (codes "tag") c.args.part.now.0 ∷ []) c.args.out.now c.begin_object.new.self c.write_number.new.out c.end_object.new.self refl c.begin_object.ensures.room.0 c.in_ok-begin_object.ensures.ok
    (c.write_entries.new.out, entries, (c.write_number.new.out, tag, (refl, refl))) c.end_object.ensures.room.0 e)
    c.end_object.ensures.ok
