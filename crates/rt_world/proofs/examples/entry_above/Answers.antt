use Rattle.std.proofs.Common.{refl, ap}
use mathlib.Core.Bool.{true≢false}
use Rattle.rt_tree.specs.PathTree.{null, of_leaf, is_null, leaf_at, sub, put, with_children, children_alone, levels}
use Rattle.rt_tree.specs.Children.{children_of}
use Rattle.rt_tree.specs.TreeEq.{tree_eq}
use Rattle.rt_world.proofs.examples.entry_above.Goals as goal

pub returns : goal.returns
unfolding null of_leaf is_null leaf_at sub put with_children children_alone levels children_of tree_eq
returns c = (refl, refl, λ e. true≢false (ap is_null e))
