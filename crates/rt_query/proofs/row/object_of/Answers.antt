use Rattle.std.proofs.Common.{sym, subst, ◌∙◌}
use Rattle.rt_tree.specs.Allowed.{IsAllowed}
use Rattle.rt_query.proofs.ObjectLaws.{object_of_rows, full_rows}
use Rattle.rt_query.proofs.row.object_of.Goals as goal

pub object-requires-clause-full : goal.object-requires-clause-full
object-requires-clause-full c = full_rows c.args.rows.now c.in_ok-children.children.entries c.in_ok-children.ensures c.requires.full

pub object-requires-clause-allowed : goal.object-requires-clause-allowed
object-requires-clause-allowed c =
    subst IsAllowed (sym (object_of_rows c.args.rows.now c.in_ok-children.children.entries c.in_ok-children.ensures)) c.requires.allowed

pub returns : goal.returns
returns c = c.object.ensures ∙ object_of_rows c.args.rows.now c.in_ok-children.children.entries c.in_ok-children.ensures
