use Rattle.std.proofs.Common.{◌==◌, sym, ap, arith}
use mathlib.Core.Bool.{true≢false}
use Rattle.rt_tree.specs.PathTree.{null, of_leaf, is_null, leaf_at, sub, put, with_children, children_alone, levels}
use Rattle.rt_tree.specs.Children.{children_of}
use Rattle.rt_tree.specs.TreeEq.{tree_eq}
use Rattle.rt_world.specs.World.{World}
use Rattle.rt_world.specs.Answers.{Answer}
use Rattle.rt_world.specs.laws.False.{showing}
use Rattle.rt_world.proofs.Seen.{are_primed, is_nil, notes_of, seat_of, shows_eight, was_done}
use Rattle.rt_world.proofs.examples.false_pushes.Goals as goal

pub returns-clause-dropped : goal.returns-clause-dropped
unfolding null of_leaf is_null leaf_at sub put with_children children_alone levels children_of tree_eq
returns-clause-dropped c = λ m. true≢false (ap (λ (w : World). is_nil (w.brought).regions) m.made)

pub returns-clause-stale : goal.returns-clause-stale
unfolding null of_leaf is_null leaf_at sub put with_children children_alone levels children_of tree_eq
returns-clause-stale c = λ m. true≢false (sym (ap was_done m.answered))

pub returns-clause-nobody : goal.returns-clause-nobody
unfolding null of_leaf is_null leaf_at sub put with_children children_alone levels children_of tree_eq
returns-clause-nobody c = λ m. true≢false (ap (λ (x : Answer). is_nil (notes_of x)) m.answered)

pub returns-clause-another : goal.returns-clause-another
unfolding null of_leaf is_null leaf_at sub put with_children children_alone levels children_of tree_eq
returns-clause-another c = λ m. true≢false (ap (λ (x : Answer). seat_of (notes_of x) == 2) m.answered)

pub returns-clause-shown : goal.returns-clause-shown
unfolding null of_leaf is_null leaf_at sub put with_children children_alone levels children_of tree_eq
returns-clause-shown c = λ m. true≢false (ap shows_eight (m.shown 0 (showing 8) (omega arith)).view)

-- what is brought is known
pub returns-clause-primed : goal.returns-clause-primed
unfolding null of_leaf is_null leaf_at sub put with_children children_alone levels children_of tree_eq
returns-clause-primed c = λ m. true≢false (sym (ap (λ (w : World). are_primed w.listeners) m.made))
