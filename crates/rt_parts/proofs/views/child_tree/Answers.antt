use Rattle.std.proofs.Common.{◌≤◌, arith, sym, subst}
use Rattle.rt_tree.specs.PathTree.{levels, levels-null}
use Rattle.rt_parts.proofs.views.child_tree.Goals as goal

pub returns-in-None-clause-levels : goal.returns-in-None-clause-levels
returns-in-None-clause-levels c = subst (λ t. levels t ≤ 32) (sym c.null.ensures) (omega (arith, levels-null))
