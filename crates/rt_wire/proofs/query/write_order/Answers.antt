use Rattle.std.proofs.lemmas.Result.{on_ok_weaker}
use Rattle.std.specs.Prelude.{codes}
use Rattle.rt_wire.specs.QueryData.{index_data}
use Rattle.rt_wire.proofs.Putting.{field_put}
use Rattle.rt_wire.proofs.query.write_order.Goals as goal

pub returns-clause-put : goal.returns-clause-put
returns-clause-put c =
    on_ok_weaker c.write_index.result
    (λ h. field_put (codes "order", index_data c.args.index.now) c.args.out.now c.key.new.self c.write_index.new.out c.key.ensures.room.0 c.in_ok-key.ensures.ok h)
    c.write_index.ensures.put
