use Rattle.std.proofs.Common.{◌∷◌, [], refl}
use Rattle.std.specs.Prelude.{codes}
use Rattle.std.proofs.lemmas.Result.{on_ok_weaker}
use Rattle.rt_wire.specs.FieldData.{kind, path_field, number_field, tree_field}
use Rattle.rt_wire.proofs.Putting.{object_put}
use Rattle.rt_wire.proofs.server.write_data.Goals as goal

pub returns-clause-put : goal.returns-clause-put
returns-clause-put c =
    on_ok_weaker c.end_object.result
    (λ e. object_put (kind (codes "data") ∷ path_field c.args.path.now ∷ number_field (codes "tag") c.args.tag ∷ tree_field c.args.tree.now ∷ []) c.args.out.now c.begin_object.new.self c.write_value.new.out c.end_object.new.self refl c.begin_object.ensures.room.0 c.in_ok-begin_object.ensures.ok
    (c.write_text.new.out, c.in_ok-write_text.ensures, (c.write_path.new.out, c.in_ok-write_path.ensures.put, (c.write_number.new.out, c.in_ok-write_number.ensures, (c.write_value.new.out, c.in_ok-write_value.ensures.put, (refl, refl))))) c.end_object.ensures.room.0 e)
    c.end_object.ensures.ok
