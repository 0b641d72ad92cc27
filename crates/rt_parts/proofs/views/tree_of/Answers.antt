use Rattle.std.proofs.Common.{◌+◌, ◌≤◌, length, arith, sym, subst}
use Rattle.rt_tree.specs.PathTree.{levels, levels-null}
use Rattle.rt_parts.proofs.views.tree_of.Goals as goal

pub returns-in-None-clause-shallow : goal.returns-in-None-clause-shallow
returns-in-None-clause-shallow c =
    subst (λ t. length c.args.path.now + levels t ≤ 33) (sym c.null.ensures) (omega (arith, levels-null, c.keys-is_path.ensures.valid.short))
