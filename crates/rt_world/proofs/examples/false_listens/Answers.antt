use Rattle.std.proofs.Common.{◌≡◌, ◌==◌, [], List, sym, ap, subst, refl, arith}
use mathlib.Core.Bool.{true≢false}
use Rattle.std.specs.List.{fold}
use Rattle.rt_tree.specs.PathTree.{null, of_leaf, is_null, leaf_at, sub, put, with_children, children_alone, levels}
use Rattle.rt_tree.specs.Children.{children_of}
use Rattle.rt_tree.specs.TreeEq.{tree_eq}
use Rattle.rt_query.specs.Queries.{plain}
use Rattle.rt_wire.specs.declared.client.ClientMessage.{ClientMessage}
use Rattle.rt_world.specs.declared.step.Step.{Step}
use Rattle.rt_world.specs.World.{World}
use Rattle.rt_world.specs.Answers.{Answer}
use Rattle.rt_world.specs.Messages.{heard_by}
use Rattle.rt_world.specs.Headline.{Sends}
use Rattle.rt_world.specs.laws.False.{a, connected, listening}
use Rattle.rt_world.proofs.Seen.{is_nil, notes_of, seat_of, was_done}
use Rattle.rt_world.proofs.examples.false_listens.Goals as goal

pub returns-clause-nothing : goal.returns-clause-nothing
unfolding null of_leaf is_null leaf_at sub put with_children children_alone levels children_of tree_eq
returns-clause-nothing c = λ m. true≢false (ap (λ (w : World). is_nil w.listeners) m.made)

pub returns-clause-stale : goal.returns-clause-stale
unfolding null of_leaf is_null leaf_at sub put with_children children_alone levels children_of tree_eq
returns-clause-stale c = λ m. true≢false (sym (ap was_done m.answered))

pub returns-clause-refused : goal.returns-clause-refused
unfolding null of_leaf is_null leaf_at sub put with_children children_alone levels children_of tree_eq
returns-clause-refused c = λ m. true≢false (sym (ap was_done m.answered))

-- where nothing is sent, nothing is heard
pub returns-clause-sent : goal.returns-clause-sent
unfolding null of_leaf is_null leaf_at sub put with_children children_alone levels children_of tree_eq
returns-clause-sent c = λ m.
    let sends : Sends connected (Step.Listen 1 (plain a)) (record listening { outgoing = [] }) = m.sends refl in
    true≢false (ap is_nil (subst (λ (ms : List ClientMessage). fold heard_by [] ms ≡ listening.kept) (sym sends.outgoing) (sends.heard refl)))

pub returns-clause-kept : goal.returns-clause-kept
unfolding null of_leaf is_null leaf_at sub put with_children children_alone levels children_of tree_eq
returns-clause-kept c = λ m. let x = ((m.kept).fewest).supplied 0 (1, plain a) (omega arith) in absurd (omega (arith, x.2))

pub returns-clause-end : goal.returns-clause-end
unfolding null of_leaf is_null leaf_at sub put with_children children_alone levels children_of tree_eq
returns-clause-end c = λ m. true≢false (ap (λ (x : Answer). seat_of (notes_of x) == 2) m.answered)
