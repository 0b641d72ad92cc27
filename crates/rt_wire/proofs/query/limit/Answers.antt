use Rattle.std.proofs.Common.{inl, inr, refl, arith}
use Rattle.rt_wire.proofs.QueryItems.{no_limit}
use Rattle.rt_wire.proofs.query.limit.Goals as goal

pub returns-in_default-clause-err : goal.returns-in_default-clause-err
returns-in_default-clause-err c = (refl, no_limit c.args.items.now (inl (omega arith)))

pub returns-in_default-2-clause-err : goal.returns-in_default-2-clause-err
returns-in_default-2-clause-err c = (refl, no_limit c.args.items.now (inr (omega arith)))
