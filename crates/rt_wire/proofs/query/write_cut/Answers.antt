use Rattle.std.proofs.Common.{refl}
use Rattle.std.proofs.lemmas.Result.{on_ok_weaker}
use Rattle.serde_json.specs.Data.{item}
use Rattle.rt_wire.specs.QueryData.{mark_data, place_items}
use Rattle.rt_wire.proofs.Putting.{array_put}
use Rattle.rt_wire.proofs.query.write_cut.Goals as goal

pub returns-clause-put : goal.returns-clause-put
returns-clause-put c =
    on_ok_weaker c.end_array.result
    (λ e. array_put (item (mark_data c.args.cut.now.value) (place_items c.args.cut.now.place)) c.args.out.now c.begin_array.new.self c.write_place.new.out c.end_array.new.self c.begin_array.ensures.room.0 c.in_ok-begin_array.ensures.ok
    (c.write_mark.new.out, c.in_ok-write_mark.ensures.put, c.in_ok-write_place.ensures.put) c.end_array.ensures.room.0 e)
    c.end_array.ensures.ok
