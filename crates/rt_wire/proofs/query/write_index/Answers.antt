use Rattle.std.proofs.Common.{sym, subst}
use Rattle.std.specs.Prelude.{codes}
use Rattle.std.proofs.lemmas.Result.{on_ok_weaker}
use Rattle.rt_wire.specs.QueryData.{index_data}
use Rattle.rt_wire.specs.inside.Writing.{PutsValue}
use Rattle.rt_wire.proofs.Putting.{string_put}
use Rattle.rt_wire.proofs.query.write_index.Goals as goal

pub returns-in-Key-clause-put : goal.returns-in-Key-clause-put
returns-in-Key-clause-put c =
    on_ok_weaker c.string.result
    (λ e. subst (λ x. PutsValue (index_data x) c.args.out.now c.string.new.self) (sym c.in-Key.is) (string_put (codes "key") c.args.out.now c.string.new.self c.string.ensures.room.0 e))
    c.string.ensures.ok

pub returns-in-Value-clause-put : goal.returns-in-Value-clause-put
returns-in-Value-clause-put c =
    on_ok_weaker c.string-in-Value.result
    (λ e. subst (λ x. PutsValue (index_data x) c.args.out.now c.string-in-Value.new.self) (sym c.in-Value.is)
    (string_put (codes "value") c.args.out.now c.string-in-Value.new.self c.string-in-Value.ensures.room.0 e))
    c.string-in-Value.ensures.ok
