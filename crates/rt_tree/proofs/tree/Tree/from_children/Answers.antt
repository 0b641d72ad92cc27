use Rattle.std.proofs.Common.{◌+◌, ◌<◌, refl, subst}
use Rattle.std.specs.List.{Any}
use Rattle.rt_tree.specs.Trees.{levels}
use Rattle.rt_tree.proofs.tree.Tree.from_children.Goals as goal

pub returns-then-is_one_too_deep-clause-too_deep : goal.returns-then-is_one_too_deep-clause-too_deep
returns-then-is_one_too_deep-clause-too_deep c =
    (λ e. subst (Any (λ e. 33 < 1 + levels e.1)) c.deref.ensures.value c.if-is_one_too_deep.ensures, λ a. refl)
