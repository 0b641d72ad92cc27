use Rattle.std.proofs.Common.{◌≡◌, ◌∷◌, ◌++◌, subst}
use Rattle.std.proofs.lemmas.Result.{on_ok_weaker}
use Rattle.std.specs.Prelude.{codes}
use Rattle.rt_wire.specs.QueryData.{index_data, cut_data, limit_data, field_if}
use Rattle.rt_order.specs.declared.cut.Range.{Range}
use Rattle.rt_wire.specs.inside.Writing.{PutsField, PutsFields}
use Rattle.rt_wire.proofs.Putting.{object_put, both_fields}
use Rattle.rt_wire.proofs.QueryMembers.{fields_of, fields_in_order}
use Rattle.rt_wire.proofs.query.write_query.Goals as goal

pub returns-clause-put : goal.returns-clause-put
returns-clause-put c =
    let q = c.args.query.now in
    let limit_is : c.limit.result ≡ q.limit = c.limit.ensures.limit in
    let range_is : c.range.result.now ≡ q.range = c.range.ensures.range in
    let index_is : c.index.result.now ≡ q.index = c.index.ensures in
    let again_is : c.range-2.result.now ≡ q.range = c.range-2.ensures.range in
    let limit = subst (λ l. PutsFields (field_if limit_data (codes "limit") l) c.begin_object.new.self c.write_limit.new.out) limit_is c.in_ok-write_limit.ensures.put in
    let lower = subst (λ (r : Range). PutsFields (field_if cut_data (codes "lower") r.lower) c.write_limit.new.out c.write_bound.new.out) range_is c.in_ok-write_bound.ensures.put in
    let order = subst (λ x. PutsField (codes "order", index_data x) c.write_bound.new.out c.write_order.new.out) index_is c.in_ok-write_order.ensures.put in
    let upper = subst (λ (r : Range). PutsFields (field_if cut_data (codes "upper") r.upper) c.write_order.new.out c.write_bound-2.new.out) again_is c.in_ok-write_bound-2.ensures.put in
    let lowers = field_if cut_data (codes "lower") q.range.lower in
    let last = (codes "order", index_data q.index) ∷ field_if cut_data (codes "upper") q.range.upper in
    on_ok_weaker c.end_object.result
    (λ e. object_put (fields_of q.limit q.range.lower q.index q.range.upper) c.args.out.now c.begin_object.new.self c.write_bound-2.new.out c.end_object.new.self (fields_in_order q.limit q.range.lower q.index q.range.upper)
    c.begin_object.ensures.room.0 c.in_ok-begin_object.ensures.ok
    (both_fields (field_if limit_data (codes "limit") q.limit) (lowers ++ last) c.begin_object.new.self c.write_limit.new.out c.write_bound-2.new.out limit
    (both_fields lowers last c.write_limit.new.out c.write_bound.new.out c.write_bound-2.new.out lower
    (c.write_order.new.out, order, upper)))
    c.end_object.ensures.room.0 e)
    c.end_object.ensures.ok
