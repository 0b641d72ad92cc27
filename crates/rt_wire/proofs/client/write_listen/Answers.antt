use Rattle.std.proofs.Common.{◌≡◌, ◌∷◌, [], ◌++◌, refl, subst}
use Rattle.std.proofs.lemmas.Result.{on_ok_weaker}
use Rattle.std.specs.Prelude.{codes}
use Rattle.serde_json.specs.Data.{string, number, unsigned}
use Rattle.rt_tree.specs.Path.{path_text}
use Rattle.rt_query.specs.Queries.{is_filtered}
use Rattle.rt_wire.specs.FieldData.{kind, number_field, path_field}
use Rattle.rt_wire.specs.QueryData.{query_data, query_field}
use Rattle.rt_wire.specs.inside.Writing.{PutsField}
use Rattle.rt_wire.proofs.Putting.{object_put, both_fields, one_field}
use Rattle.rt_wire.proofs.QueryMembers.{listen_in_order}
use Rattle.rt_wire.proofs.client.write_listen.Goals as goal

pub returns-clause-put : goal.returns-clause-put
returns-clause-put c =
    let q = c.args.query.now in
    let path_is : c.path.result.now ≡ q.path = c.path.ensures in
    let path = subst (λ p. PutsField (path_field p) c.write_text.new.out c.write_path.new.out) path_is c.in_ok-write_path.ensures.put in
    let tag = number_field (codes "tag") c.args.tag in
    on_ok_weaker c.end_object.result
    (λ e. object_put (kind (codes "listen") ∷ path_field q.path ∷ (query_field q ++ tag ∷ [])) c.args.out.now c.begin_object.new.self c.write_number.new.out c.end_object.new.self
    (listen_in_order (is_filtered q) (string (codes "listen")) (string (path_text q.path)) (query_data q) (number (unsigned c.args.tag)))
    c.begin_object.ensures.room.0 c.in_ok-begin_object.ensures.ok (
      c.write_text.new.out,
      c.in_ok-write_text.ensures,
      (
        c.write_path.new.out,
        path,
        both_fields (query_field q) (tag ∷ []) c.write_path.new.out c.write_q.new.out c.write_number.new.out c.in_ok-write_q.ensures.put (one_field tag c.write_q.new.out c.write_number.new.out c.in_ok-write_number.ensures),
      ),
    )
    c.end_object.ensures.room.0 e)
    c.end_object.ensures.ok
