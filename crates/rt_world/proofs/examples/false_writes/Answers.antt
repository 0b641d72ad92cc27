use Rattle.std.proofs.Common.{sym, ap, arith}
use mathlib.Core.Bool.{true≢false}
use Rattle.rt_tree.specs.PathTree.{null, of_leaf, is_null, leaf_at, sub, put, with_children, children_alone, levels}
use Rattle.rt_tree.specs.Children.{children_of}
use Rattle.rt_tree.specs.TreeEq.{tree_eq}
use Rattle.rt_world.specs.World.{World}
use Rattle.rt_world.specs.laws.False.{showing}
use Rattle.rt_world.proofs.Seen.{is_nil, shows_eight}
use Rattle.rt_world.proofs.examples.false_writes.Goals as goal

pub returns-clause-shown : goal.returns-clause-shown
unfolding null of_leaf is_null leaf_at sub put with_children children_alone levels children_of tree_eq
returns-clause-shown c = λ m. true≢false (sym (ap shows_eight (m.shown 0 (showing 7) (omega arith)).view))

pub returns-clause-forgotten : goal.returns-clause-forgotten
unfolding null of_leaf is_null leaf_at sub put with_children children_alone levels children_of tree_eq
returns-clause-forgotten c = λ m. true≢false (ap (λ (w : World). is_nil w.requests) m.made)

pub returns-clause-settled : goal.returns-clause-settled
unfolding null of_leaf is_null leaf_at sub put with_children children_alone levels children_of tree_eq
returns-clause-settled c = λ m. true≢false (sym (ap (λ (w : World). is_nil w.requests) m.made))

pub returns-clause-refused : goal.returns-clause-refused
unfolding null of_leaf is_null leaf_at sub put with_children children_alone levels children_of tree_eq
returns-clause-refused c = λ m. true≢false (ap shows_eight (m.shown 0 (showing 8) (omega arith)).view)
