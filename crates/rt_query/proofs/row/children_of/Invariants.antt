use Rattle.std.specs.Prelude.{drop}
use Rattle.rt_query.proofs.ObjectLaws.{IsMaking}
use Rattle.rt_query.proofs.row.children_of.Given as goal

abbrev pub invariant-loop-row : goal.invariant-loop-row
invariant-loop-row l = IsMaking l.rows (drop l.row-index l.rows) l.children.entries
