use Rattle.std.proofs.Common.{◌≡◌, Some, None, sym, ap, ◌∙◌, arith, rules, subst}
use Rattle.slab.specs.Slab.{get}
use Rattle.rt_tree.specs.PathTree.{object}
use Rattle.rt_tree.specs.Allowed.{IsAllowed}
use Rattle.rt_nodes.specs.Forest.{row_at}
use Rattle.rt_store.specs.inside.Entries.{entries, tree_with}
use Rattle.rt_store.proofs.Building.{child_place, child_filled, child_smaller, child_allowed, building_next, fewer_left, built, same_object, built_full}
use Rattle.rt_store.proofs.nodes.+build.Goals as goal

pub build-requires : goal.build-requires
build-requires t c =
    let f = row_at c.args.nodes.now c.args.first in
    let slot = c.unwrap-slot.result.now in
    let none : c.args.leaf.now ≡ None = search rules in
    let there : get c.args.nodes.now c.in-Some-next.index ≡ Some slot = search rules in
    let allowed : IsAllowed (object (entries f)) = subst (λ l. IsAllowed (tree_with l (entries f))) none c.requires.allowed in (
      omega (arith, c.decreases, child_smaller c.args.nodes.now f c.loop-next.children.entries c.loop-next.next c.in-Some-next.index slot c.loop-next.invariant c.in-Some-next.is there),
      (
        child_place c.args.nodes.now f c.loop-next.children.entries c.loop-next.next c.in-Some-next.index slot c.loop-next.invariant c.in-Some-next.is there,
        (
          child_filled c.args.nodes.now f c.loop-next.children.entries c.loop-next.next c.in-Some-next.index slot c.loop-next.invariant c.in-Some-next.is there,
          child_allowed c.args.nodes.now f c.loop-next.children.entries c.loop-next.next c.in-Some-next.index slot c.loop-next.invariant c.in-Some-next.is there allowed,
        ),
      ),
    )

pub loop-next-smaller : goal.loop-next-smaller
loop-next-smaller t c =
    let slot = c.unwrap-slot.result.now in
    let there : get c.args.nodes.now c.in-Some-next.index ≡ Some slot = search rules in
    fewer_left c.args.nodes.now (row_at c.args.nodes.now c.args.first) c.loop-next.children.entries c.loop-next.next c.in-Some-next.index slot c.loop-next.invariant c.in-Some-next.is there

pub loop-next-preserved : goal.loop-next-preserved
loop-next-preserved t c =
    let slot = c.unwrap-slot.result.now in
    let there : get c.args.nodes.now c.in-Some-next.index ≡ Some slot = search rules in
    let key : c.in_ok-key.key ≡ slot.key = search rules in
    let child : c.in_ok-child.child ≡ tree_with slot.value (entries (row_at c.args.nodes.now slot.first_child)) = search rules in
    building_next c.args.nodes.now (row_at c.args.nodes.now c.args.first) c.loop-next.children.entries c.loop-next.next c.in-Some-next.index slot c.loop-next.invariant c.in-Some-next.is there
    c.add_child.new.children.entries c.in_ok-key.key c.in_ok-child.child key child c.in_ok-add_child.ensures

pub object-requires-clause-full : goal.object-requires-clause-full
object-requires-clause-full t c =
    let f = row_at c.args.nodes.now c.args.first in
    let end : c.loop-next.next ≡ None = search rules in
    built_full f c.loop-next.children.entries c.requires.filled (built c.args.nodes.now f c.loop-next.children.entries c.loop-next.next c.loop-next.invariant end)

pub object-requires-clause-allowed : goal.object-requires-clause-allowed
object-requires-clause-allowed t c =
    let f = row_at c.args.nodes.now c.args.first in
    let none : c.args.leaf.now ≡ None = search rules in
    let end : c.loop-next.next ≡ None = search rules in
    let allowed : IsAllowed (object (entries f)) = subst (λ l. IsAllowed (tree_with l (entries f))) none c.requires.allowed in
    subst IsAllowed (sym (same_object c.loop-next.children.entries (entries f) (built c.args.nodes.now f c.loop-next.children.entries c.loop-next.next c.loop-next.invariant end))) allowed

pub returns : goal.returns
returns t c =
    let f = row_at c.args.nodes.now c.args.first in
    let none : c.args.leaf.now ≡ None = search rules in
    let end : c.loop-next.next ≡ None = search rules in
    c.object.ensures
    ∙ same_object c.loop-next.children.entries (entries f) (built c.args.nodes.now f c.loop-next.children.entries c.loop-next.next c.loop-next.invariant end)
    ∙ ap (λ l. tree_with l (entries f)) (sym none)
