use Rattle.std.proofs.Common.{◌≤◌, arith, sym, subst}
use Rattle.rt_tree.specs.PathTree.{levels, levels-null}
use Rattle.rt_parts.proofs.views.take_child.Goals as goal

pub put_child-requires : goal.put_child-requires
put_child-requires c = subst (λ t. levels t ≤ 32) (sym c.null.ensures) (omega (arith, levels-null))
