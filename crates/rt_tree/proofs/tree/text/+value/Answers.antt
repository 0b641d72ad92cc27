use Rattle.std.proofs.Common.{◌≡◌, ap, sym, ◌∙◌, subst, arith}
use Rattle.std.specs.Map.{keys_of}
use Rattle.std.specs.List.Sorted.{IsStrictlySortedBy}
use Rattle.std.proofs.lemmas.Result.{IfOk-weaker}
use Rattle.serde_json.specs.Data as json
use Rattle.serde_json.specs.Data.{put}
use Rattle.serde_json.specs.View.{view, members_view}
use Rattle.serde_json.proofs.Views.{view-Object}
use Rattle.rt_tree.specs.Leaves.{key_cmp}
use Rattle.rt_tree.specs.Trees.{levels, IsAllowed}
use Rattle.rt_tree.specs.Reading.{tree_of_data}
use Rattle.rt_tree.specs.Writing.{leaf_data, members_with, data_of}
use Rattle.rt_tree.proofs.Equals.{below}
use Rattle.rt_tree.proofs.Nodes.{at-Null, at-Leaf, at-Object, kept-Object, allowed-node}
use Rattle.rt_tree.proofs.Writings.{view-Null, data_of-null, data_of-of_leaf, data_of-object, writing_begins, writing_goes_on, writing_ends, Writing}
use Rattle.rt_tree.proofs.tree.text.+value.Goals as goal

pub value_of_tree-members_of-requires : goal.value_of_tree-members_of-requires
value_of_tree-members_of-requires t c =
    let kept = kept-Object c.tree.invariant c.in-Object.is in (
      omega (arith, c.decreases, ap levels (at-Object c.tree.view_is c.in-Object.is), below _ kept),
      kept.ordered,
    )

pub value_of_tree-returns-in-Null-clause-value : goal.value_of_tree-returns-in-Null-clause-value
value_of_tree-returns-in-Null-clause-value t c = view-Null ∙ sym (ap data_of (at-Null c.tree.view_is c.in-Null.is) ∙ data_of-null)

pub value_of_tree-returns-in-Leaf-clause-value : goal.value_of_tree-returns-in-Leaf-clause-value
value_of_tree-returns-in-Leaf-clause-value t c =
    IfOk-weaker c.leaf_value.result (λ v. view v ≡ leaf_data c.in-Leaf.leaf) (λ v. view v ≡ data_of c.args.tree.now)
    (λ v p. p ∙ sym (ap data_of (at-Leaf c.tree.view_is c.in-Leaf.is) ∙ data_of-of_leaf c.in-Leaf.leaf)) c.leaf_value.ensures.value

pub value_of_tree-returns-in_ok-members-in-Object-clause-value : goal.value_of_tree-returns-in_ok-members-in-Object-clause-value
value_of_tree-returns-in_ok-members-in-Object-clause-value t c =
    view-Object c.in_ok-members-in-Object.members ∙ ap json.object (c.in_ok-members-in-Object.ensures.members)
    ∙ sym (ap data_of (at-Object c.tree.view_is c.in-Object.is) ∙ data_of-object _ (kept-Object c.tree.invariant c.in-Object.is))

pub members_of-loop-key-init : goal.members_of-loop-key-init
members_of-loop-key-init t c =
    let gives : c.into_iter-key-iterator.result ≡ c.args.children.now.entries = c.into_iter-key-iterator.ensures.into_iter_gives.0 in
    subst (λ es. Writing c.into_iter-key-iterator.result (members_view es) c.into_iter-key-iterator.result) (sym c.new-members.ensures.empty)
    (writing_begins _ (subst (λ es. IsStrictlySortedBy key_cmp (keys_of es)) (sym gives) c.requires))

pub members_of-loop-key-preserved : goal.members_of-loop-key-preserved
members_of-loop-key-preserved t c =
    let here = subst (Writing c.into_iter-key-iterator.result (members_view c.loop-key.members.entries)) c.in-Some.ensures.steps c.loop-key.invariant in
    writing_goes_on c.into_iter-key-iterator.result (members_view c.loop-key.members.entries) (members_view c.set_member.new.members.entries) c.next.new.self c.in-Some.key.now c.in-Some.child.now here
    (c.in_ok-set_member.ensures ∙ (λ i. put ((c.in_ok-name.ensures.ok ∙ c.text.ensures.text) i) (c.in_ok-value.ensures.value i) (members_view c.loop-key.members.entries)))
    (ap tree_of_data (sym c.in_ok-value.ensures.value) ∙ c.in_ok-value.ensures.same_tree)

pub members_of-returns-clause-members : goal.members_of-returns-clause-members
members_of-returns-clause-members t c =
    let gives : c.into_iter-key-iterator.result ≡ c.args.children.now.entries = c.into_iter-key-iterator.ensures.into_iter_gives.0 in
    (writing_ends _ _ (subst (Writing c.into_iter-key-iterator.result (members_view c.loop-key.members.entries)) c.in-None.ensures.steps.0 c.loop-key.invariant)).0 ∙ ap (members_with data_of) gives

pub members_of-returns-clause-same_trees : goal.members_of-returns-clause-same_trees
members_of-returns-clause-same_trees t c =
    let gives : c.into_iter-key-iterator.result ≡ c.args.children.now.entries = c.into_iter-key-iterator.ensures.into_iter_gives.0 in
    (writing_ends _ _ (subst (Writing c.into_iter-key-iterator.result (members_view c.loop-key.members.entries)) c.in-None.ensures.steps.0 c.loop-key.invariant)).1 ∙ gives

pub value_of_tree-returns-in-Null-clause-allowed : goal.value_of_tree-returns-in-Null-clause-allowed
value_of_tree-returns-in-Null-clause-allowed t c = subst IsAllowed c.tree.view_is (allowed-node c.tree.inside.node c.tree.invariant)

pub value_of_tree-returns-in-Leaf-clause-allowed : goal.value_of_tree-returns-in-Leaf-clause-allowed
value_of_tree-returns-in-Leaf-clause-allowed t c = subst IsAllowed c.tree.view_is (allowed-node c.tree.inside.node c.tree.invariant)
