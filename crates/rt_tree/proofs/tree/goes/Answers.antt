use Rattle.std.proofs.Common.{sym}
use Rattle.rt_tree.proofs.tree.goes.Goals as goal

pub returns-else-not-is_only : goal.returns-else-not-is_only
returns-else-not-is_only c = rw c.if-not-is_only.false (sym (c.requires c.if-not-is_only.false))
