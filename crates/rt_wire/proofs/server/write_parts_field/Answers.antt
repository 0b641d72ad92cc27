use Rattle.std.proofs.Common.{subst}
use Rattle.std.specs.Prelude.{codes}
use Rattle.std.proofs.lemmas.Result.{on_ok_weaker}
use Rattle.serde_json.specs.Data.{array}
use Rattle.rt_wire.specs.ServerData.{part_items}
use Rattle.rt_wire.specs.inside.Writing.{PutsItems}
use Rattle.rt_wire.proofs.Putting.{field_put, array_put}
use Rattle.rt_wire.proofs.server.write_parts_field.Goals as goal

pub returns-clause-put : goal.returns-clause-put
returns-clause-put c =
    let items = subst (λ ps. PutsItems (part_items ps) c.begin_array.new.self c.write_parts.new.out) c.as_slice.ensures c.in_ok-write_parts.ensures.put in
    on_ok_weaker c.end_array.result
    (λ e. field_put (codes "parts", array (part_items c.args.parts.now)) c.args.out.now c.key.new.self c.end_array.new.self c.key.ensures.room.0 c.in_ok-key.ensures.ok
    (array_put (part_items c.args.parts.now) c.key.new.self c.begin_array.new.self c.write_parts.new.out c.end_array.new.self c.begin_array.ensures.room.0 c.in_ok-begin_array.ensures.ok items c.end_array.ensures.room.0 e))
    c.end_array.ensures.ok
