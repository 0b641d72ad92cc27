use Rattle.std.proofs.Common.{◌≡◌, ◌∙◌, ap, sym, subst, decimal, refl, arith}
use Rattle.serde_json.specs.View.{members_view}
use Rattle.rt_tree.specs.Key.{IsKey}
use Rattle.rt_tree.specs.Trees.{IsAllowed, AllFull, object}
use Rattle.rt_tree.proofs.Nodes.{allowed-node}
use Rattle.rt_tree.specs.Reading.{member_trees, AreTreeItems, AreTreeMembers}
use Rattle.rt_tree.proofs.Walks.{item_next, member_next}
use Rattle.rt_tree.proofs.Readings.{allowed_children, item_stands, member_stands, first_item, other_items, first_member, other_members, building_items, building_item, no_items_left}
use Rattle.rt_tree.proofs.Rows.{Filling, filling_begins, next_filled, row_sorted, row_full, row_object, allowed_row}
use Rattle.serde_json.proofs.value.Value.TheLaws.{the_size}
use Rattle.std.specs.Map.{values_of}
use denote.Param.Weighed.{most, at_most}
use Rattle.rt_tree.proofs.tree.text.+build.Goals as goal

pub of_items-loop-item-init : goal.of_items-loop-item-init
of_items-loop-item-init t c = (refl, building_items c.args.items.now c.requires.short c.in_ok-children.children.entries c.in_ok-children.ensures.empty, c.requires.readable)

pub of_items-build-requires : goal.of_items-build-requires
of_items-build-requires t c = (
  omega (arith, c.decreases, at_most the_size c.args.items.now c.loop-item.item-index c.item-item.result c.loop-item-test.true, ap the_size c.item-item.is),
  first_item _ _ (subst AreTreeItems (item_next c.args.items.now c.loop-item.item-index c.item-item.result c.loop-item-test.true c.item-item.is) c.loop-item.invariant.2),
)

pub of_items-loop-item-preserved : goal.of_items-loop-item-preserved
of_items-loop-item-preserved t c = (
  omega (arith, c.loop-item.invariant.0),
  building_item _ _ _ c.args.items.now c.loop-item.item-index c.item-item.result _ _ c.loop-item-test.true c.item-item.is c.loop-item.invariant.1
      (c.in_ok-key.ensures.key ∙ ap decimal c.loop-item.invariant.0) c.in_ok-child.ensures
      (item_stands _ _ _ c.in_ok-child.child (subst AreTreeItems (item_next c.args.items.now c.loop-item.item-index c.item-item.result c.loop-item-test.true c.item-item.is) c.loop-item.invariant.2) c.in_ok-child.ensures (subst (λ n. IsKey (decimal n)) c.loop-item.invariant.0 c.in_ok-key.ensures.valid) (subst IsAllowed c.child.view_is (allowed-node c.child.inside.node c.child.invariant)))
      c.in_ok-add_child.ensures.added c.in_ok-add_child.ensures.ordered,
  other_items _ _ (subst AreTreeItems (item_next c.args.items.now c.loop-item.item-index c.item-item.result c.loop-item-test.true c.item-item.is) c.loop-item.invariant.2),
)

pub of_items-object-requires-clause-allowed : goal.of_items-object-requires-clause-allowed
of_items-object-requires-clause-allowed t c = allowed_children _ _ _ c.loop-item.invariant.1

pub of_items-returns : goal.of_items-returns
of_items-returns t c = c.object.ensures ∙ no_items_left _ _ c.args.items.now c.loop-item.item-index c.loop-item-test.false c.loop-item.invariant.1

pub of_members-loop-name-init : goal.of_members-loop-name-init
of_members-loop-name-init t c =
    let same : c.into_iter-name-iterator.result ≡ c.args.members.now.entries = c.into_iter-name-iterator.ensures.into_iter_gives ∙ c.iter-name-items.ensures.rest in (
      subst (λ es. Filling (member_trees (members_view c.args.members.now.entries)) c.in_ok-row.row.items (member_trees (members_view es))) (sym same)
          (filling_begins _ _ c.in_ok-row.ensures.items),
      subst (λ es. AreTreeMembers (members_view es)) (sym same) c.requires,
      omega (arith, ap (λ es. most the_size (values_of es)) same),
    )

pub of_members-build-requires : goal.of_members-build-requires
of_members-build-requires t c = (
  omega (arith, c.decreases, c.loop-name.invariant.2, ap (λ es. most the_size (values_of es)) c.in-Some.ensures.steps),
  first_member _ _ _ (subst AreTreeMembers (member_next c.loop-name.name-iterator c.next.new.self c.in-Some.name.now c.in-Some.member.now c.in-Some.ensures.steps) c.loop-name.invariant.1),
)

pub of_members-loop-name-preserved : goal.of_members-loop-name-preserved
of_members-loop-name-preserved t c = (
  next_filled _ _ _ c.loop-name.name-iterator c.next.new.self c.in-Some.name.now c.in-Some.member.now _ _ c.in-Some.ensures.steps c.loop-name.invariant.0
      (c.in_ok-key.ensures ∙ c.as_str.ensures.value) c.in_ok-child.ensures
      (member_stands _ _ _ c.in_ok-child.child (subst AreTreeMembers (member_next c.loop-name.name-iterator c.next.new.self c.in-Some.name.now c.in-Some.member.now c.in-Some.ensures.steps) c.loop-name.invariant.1) c.in_ok-child.ensures (subst IsAllowed c.child.view_is (allowed-node c.child.inside.node c.child.invariant)))
      c.in_ok-push_child.ensures,
  other_members _ _ _ (subst AreTreeMembers (member_next c.loop-name.name-iterator c.next.new.self c.in-Some.name.now c.in-Some.member.now c.in-Some.ensures.steps) c.loop-name.invariant.1),
  omega (arith, c.loop-name.invariant.2, ap (λ es. most the_size (values_of es)) c.in-Some.ensures.steps),
)

pub of_members-from_sorted-requires : goal.of_members-from_sorted-requires
of_members-from_sorted-requires t c =
    row_sorted c.args.members.now.entries c.iter-name-items.ensures.ordered c.loop-name.row.items (subst (λ es. Filling (member_trees (members_view c.args.members.now.entries)) c.loop-name.row.items (member_trees (members_view es))) c.in-None.ensures.steps.0 c.loop-name.invariant.0)

pub of_members-object-requires-clause-full : goal.of_members-object-requires-clause-full
of_members-object-requires-clause-full t c =
    subst AllFull (sym c.in_ok-from_sorted.ensures)
    (row_full c.args.members.now.entries c.iter-name-items.ensures.ordered c.loop-name.row.items (subst (λ es. Filling (member_trees (members_view c.args.members.now.entries)) c.loop-name.row.items (member_trees (members_view es))) c.in-None.ensures.steps.0 c.loop-name.invariant.0))

pub of_members-object-requires-clause-allowed : goal.of_members-object-requires-clause-allowed
of_members-object-requires-clause-allowed t c = subst (λ es. IsAllowed (object es)) (sym c.in_ok-from_sorted.ensures) (allowed_row c.loop-name.row.items c.loop-name.invariant.0.stand)

pub of_members-returns : goal.of_members-returns
of_members-returns t c =
    c.object.ensures ∙ ap object c.in_ok-from_sorted.ensures
    ∙ row_object c.args.members.now.entries c.iter-name-items.ensures.ordered c.loop-name.row.items (subst (λ es. Filling (member_trees (members_view c.args.members.now.entries)) c.loop-name.row.items (member_trees (members_view es))) c.in-None.ensures.steps.0 c.loop-name.invariant.0)
