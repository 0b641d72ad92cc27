use Rattle.std.proofs.Common.{sym, subst}
use Rattle.std.proofs.lemmas.Result.{on_ok_weaker}
use Rattle.rt_wire.specs.QueryData.{mark_data}
use Rattle.rt_wire.specs.inside.Writing.{PutsValue}
use Rattle.rt_wire.proofs.Putting.{null_put}
use Rattle.rt_wire.proofs.query.write_mark.Goals as goal

pub returns-in-Null-clause-put : goal.returns-in-Null-clause-put
returns-in-Null-clause-put c =
    on_ok_weaker c.null.result
    (λ e. subst (λ m. PutsValue (mark_data m) c.args.out.now c.null.new.self) (sym c.in-Null.is) (null_put c.args.out.now c.null.new.self c.null.ensures.room.0 e))
    c.null.ensures.ok
