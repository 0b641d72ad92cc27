use Rattle.std.proofs.Common.{◌≡◌, ◌<◌, None, sym, ap, subst, ◌∙◌}
use Rattle.std.specs.List.{All}
use Rattle.rt_tree.specs.Trees.{levels}
use Rattle.rt_tree.specs.Named.{by_name, children_fault}
use Rattle.rt_tree.proofs.Named.{all_shallow}
use Rattle.rt_tree.proofs.tree.Tree.object_of.Goals as goal

pub keyed-requires : goal.keyed-requires
keyed-requires c = ap (λ es. children_fault (by_name es)) (sym c.deref.ensures.value) ∙ sym c.in_ok-check_children.ensures

pub object_of-requires : goal.object_of-requires
object_of-requires c =
    let fine : children_fault (by_name c.args.children.items) ≡ None = ap (λ es. children_fault (by_name es)) (sym c.deref.ensures.value) ∙ sym c.in_ok-check_children.ensures in
    subst (All (λ e. levels e.1 < 33)) (sym c.in_ok-keyed.ensures) (all_shallow (by_name c.args.children.items) fine)
