use Rattle.std.proofs.Common.{sym, arith}
use Rattle.rt_tree.proofs.tree.children.is_one_too_deep.Goals as goal

pub returns-then-levels-ge-MAX_LEVELS : goal.returns-then-levels-ge-MAX_LEVELS
returns-then-levels-ge-MAX_LEVELS c = (c.loop-entry.entry-index, c.entry-item.result, c.loop-entry-test.true, sym c.entry-item.is, omega (arith, c.levels.ensures.levels, c.if-levels-ge-MAX_LEVELS.true))
