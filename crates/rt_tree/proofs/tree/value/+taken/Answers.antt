use Rattle.std.proofs.Common.{◌≡◌, ◌∷◌, ◌<◌, ◌^◌, ◌∙◌, [], ap, sym, subst, decimal, refl, arith, rules, length, Some, None, Err, ◌⊎◌, string_bytes, string_cmp}
use Rattle.std.proofs.lemmas.List.{nil_from_length}
use Rattle.std.specs.List.Sorted.{IsStrictlySortedBy}
use Rattle.std.specs.Map.{keys_of, values_of}
use Rattle.std.specs.Vec.Iter.{into_iter_items, into_iter_len}
use denote.Param.Weighed.{most}
use Rattle.serde_json.proofs.value.Value.TheLaws.{the_size}
use Rattle.serde_json.specs.View.{view, items_view, members_view}
use Rattle.rt_tree.specs.Trees.{IsAllowed, AllFull, object}
use Rattle.rt_tree.specs.Reading.{item_trees, member_trees, walked, visits, item_visits, member_visits}
use Rattle.rt_tree.proofs.Nodes.{allowed-node}
use Rattle.rt_tree.proofs.Walks.{walked-goes_on, passes_on, stops_there}
use Rattle.rt_tree.specs.declared.error.TreeError.TheVariants.{NoMemory}
use Rattle.rt_tree.proofs.Readings.{building_items, building_next, no_item_left, allowed_children, name_is_key, data_stands, places}
use Rattle.rt_tree.proofs.Rows.{Filling, filling_begins, next_filled, row_sorted, row_full, row_object, allowed_row}
use Rattle.rt_tree.proofs.tree.value.+taken.Goals as goal

-- ---- items
pub taken_items-loop-item-init : goal.taken_items-loop-item-init
taken_items-loop-item-init t c =
    let all = into_iter_items c.into_iter-item-iterator.result in
    let whole : all ≡ c.args.items.items = search rules in
    let long : into_iter_len c.into_iter-item-iterator.result ≡ length all = search rules in
    let short : length all < 2 ^ 64 = omega (arith, ap length whole, c.len-count.ensures) in (
      refl,
      c.requires.counted,
      omega arith,
      building_items all short c.in_ok-children.children.entries c.in_ok-children.ensures.empty,
      long,
      omega arith,
    )

pub taken_items-loop-item-preserved : goal.taken_items-loop-item-preserved
taken_items-loop-item-preserved t c =
    let l = c.loop-item in
    let x = c.in-Some.item in
    let rest = into_iter_items c.next.new.self in
    let is : into_iter_items l.item-iterator ≡ x ∷ rest = c.in-Some.ensures.steps.0 in
    let walks = c.in_ok-child.ensures.walked in
    let stands = data_stands c.args.level None (decimal l.place) (view x) c.in_ok-child.child c.requires.below (places _ _ _ walks) c.in_ok-child.ensures.tree c.in_ok-key.ensures.valid
    (subst IsAllowed c.child.view_is (allowed-node c.child.inside.node c.child.invariant)) in (
      l.invariant.0 ∙ ap (λ ys. walked l.seen (item_visits c.args.level (items_view ys))) is ∙ walked-goes_on l.seen c.taken.new.seen _ _ (sym walks),
      c.in_ok-child.ensures.bound,
      omega (arith, l.invariant.2, ap length is),
      building_next _ _ _ _ rest l.place x _ _ is l.invariant.3 c.in_ok-key.ensures.key c.in_ok-child.ensures.tree stands c.in_ok-add_child.ensures.added c.in_ok-add_child.ensures.ordered,
      omega (arith, ap length is, c.in-Some.ensures.steps.1, l.invariant.4),
      omega (arith, l.invariant.5, ap (most the_size) is),
    )

pub taken_items-returns-in_err-child-clause-fault : goal.taken_items-returns-in_err-child-clause-fault
taken_items-returns-in_err-child-clause-fault t c =
    let l = c.loop-item in
    let all = into_iter_items c.into_iter-item-iterator.result in
    let whole : all ≡ c.args.items.items = search rules in
    let is : into_iter_items l.item-iterator ≡ c.in-Some.item ∷ into_iter_items c.next.new.self = c.in-Some.ensures.steps.0 in
    passes_on c.from_residual-in_err-child.result c.in_err-child.field-0.0 _ c.from_residual-in_err-child.ensures.1
    (stops_there _ l.seen (visits c.args.level None (view c.in-Some.item)) (item_visits c.args.level (items_view (into_iter_items c.next.new.self))) _
    (ap (λ ys. walked c.args.seen.now (item_visits c.args.level (items_view ys))) (sym whole) ∙ l.invariant.0 ∙ ap (λ ys. walked l.seen (item_visits c.args.level (items_view ys))) is)
    c.in_err-child.ensures.fault)

pub taken_items-object-requires-clause-allowed : goal.taken_items-object-requires-clause-allowed
taken_items-object-requires-clause-allowed t c = allowed_children _ _ _ c.loop-item.invariant.3

pub taken_items-returns-clause-tree : goal.taken_items-returns-clause-tree
taken_items-returns-clause-tree t c =
    let l = c.loop-item in
    let all = into_iter_items c.into_iter-item-iterator.result in
    let whole : all ≡ c.args.items.items = search rules in
    c.object.ensures ∙ no_item_left _ _ (into_iter_items l.item-iterator) l.place (sym l.invariant.4 ∙ c.in-None.ensures.steps.0) l.invariant.3
    ∙ ap (λ ys. object (item_trees 0 (items_view ys))) whole

pub taken_items-returns-clause-walked : goal.taken_items-returns-clause-walked
taken_items-returns-clause-walked t c =
    let l = c.loop-item in
    let all = into_iter_items c.into_iter-item-iterator.result in
    let whole : all ≡ c.args.items.items = search rules in
    let none : into_iter_items l.item-iterator ≡ [] = nil_from_length _ (sym l.invariant.4 ∙ c.in-None.ensures.steps.0) in
    ap (λ ys. walked c.args.seen.now (item_visits c.args.level (items_view ys))) (sym whole) ∙ l.invariant.0 ∙ ap (λ ys. walked l.seen (item_visits c.args.level (items_view ys))) none

-- ---- members
pub taken_members-loop-name-init : goal.taken_members-loop-name-init
taken_members-loop-name-init t c = (refl, c.requires.counted, filling_begins _ _ c.in_ok-row.ensures.items, omega arith)

pub taken_members-moved_key-requires : goal.taken_members-moved_key-requires
taken_members-moved_key-requires t c =
    let named = ap (λ k. walked c.loop-name.seen (visits c.args.level (Some k) (view c.in-Some.member))) c.as_str.ensures.value in
    name_is_key c.args.level _ (view c.in-Some.member) (places _ _ _ (sym named ∙ c.in_ok-child.ensures.walked))

pub taken_members-loop-name-preserved : goal.taken_members-loop-name-preserved
taken_members-loop-name-preserved t c =
    let l = c.loop-name in
    let name = c.in-Some.name in
    let x = c.in-Some.member in
    let rest = c.next.new.self in
    let is : l.name-iterator ≡ (name, x) ∷ rest = c.in-Some.ensures.steps in
    let named = ap (λ k. walked l.seen (visits c.args.level (Some k) (view x))) c.as_str.ensures.value in
    let walks = sym named ∙ c.in_ok-child.ensures.walked in
    let past = places _ _ _ walks in
    let stands = data_stands c.args.level (Some (string_bytes name)) (string_bytes name) (view x) c.in_ok-child.child c.requires.below past c.in_ok-child.ensures.tree (name_is_key c.args.level _ (view x) past)
    (subst IsAllowed c.child.view_is (allowed-node c.child.inside.node c.child.invariant)) in (
      l.invariant.0 ∙ ap (λ es. walked l.seen (member_visits c.args.level (members_view es))) is ∙ walked-goes_on l.seen c.taken.new.seen _ _ (sym walks),
      c.in_ok-child.ensures.bound,
      next_filled _ _ _ l.name-iterator rest name x _ _ is l.invariant.2 c.in_ok-key.ensures c.in_ok-child.ensures.tree stands c.in_ok-push_child.ensures,
      omega (arith, l.invariant.3, ap (λ es. most the_size (values_of es)) is),
    )

pub taken_members-returns-in_err-child-clause-fault : goal.taken_members-returns-in_err-child-clause-fault
taken_members-returns-in_err-child-clause-fault t c =
    let l = c.loop-name in
    let x = c.in-Some.member in
    let gives : c.into_iter-name-iterator.result ≡ c.args.members.entries = c.into_iter-name-iterator.ensures.into_iter_gives.0 in
    let is : l.name-iterator ≡ (c.in-Some.name, x) ∷ c.next.new.self = c.in-Some.ensures.steps in
    passes_on c.from_residual-in_err-child.result c.in_err-child.field-0.0 _ c.from_residual-in_err-child.ensures.1
    (stops_there _ l.seen (visits c.args.level (Some (string_bytes c.in-Some.name)) (view x)) (member_visits c.args.level (members_view c.next.new.self)) _
    (ap (λ es. walked c.args.seen.now (member_visits c.args.level (members_view es))) (sym gives) ∙ l.invariant.0 ∙ ap (λ es. walked l.seen (member_visits c.args.level (members_view es))) is)
    (subst (λ k. (walked l.seen (visits c.args.level (Some k) (view x)) ≡ Err c.in_err-child.field-0.0) ⊎ (c.in_err-child.field-0.0 ≡ NoMemory)) c.as_str.ensures.value c.in_err-child.ensures.fault))

pub taken_members-from_sorted-requires : goal.taken_members-from_sorted-requires
taken_members-from_sorted-requires t c =
    let gives : c.into_iter-name-iterator.result ≡ c.args.members.entries = c.into_iter-name-iterator.ensures.into_iter_gives.0 in
    let sorted : IsStrictlySortedBy string_cmp (keys_of c.into_iter-name-iterator.result) = subst (λ es. IsStrictlySortedBy string_cmp (keys_of es)) (sym gives) c.into_iter-name-iterator.ensures.into_iter_gives.5 in
    row_sorted _ sorted c.loop-name.row.items (subst (λ es. Filling (member_trees (members_view c.into_iter-name-iterator.result)) c.loop-name.row.items (member_trees (members_view es))) c.in-None.ensures.steps.0 c.loop-name.invariant.2)

pub taken_members-object-requires-clause-full : goal.taken_members-object-requires-clause-full
taken_members-object-requires-clause-full t c =
    let gives : c.into_iter-name-iterator.result ≡ c.args.members.entries = c.into_iter-name-iterator.ensures.into_iter_gives.0 in
    let sorted : IsStrictlySortedBy string_cmp (keys_of c.into_iter-name-iterator.result) = subst (λ es. IsStrictlySortedBy string_cmp (keys_of es)) (sym gives) c.into_iter-name-iterator.ensures.into_iter_gives.5 in
    subst AllFull (sym c.in_ok-from_sorted.ensures)
    (row_full _ sorted c.loop-name.row.items (subst (λ es. Filling (member_trees (members_view c.into_iter-name-iterator.result)) c.loop-name.row.items (member_trees (members_view es))) c.in-None.ensures.steps.0 c.loop-name.invariant.2))

pub taken_members-object-requires-clause-allowed : goal.taken_members-object-requires-clause-allowed
taken_members-object-requires-clause-allowed t c = subst (λ es. IsAllowed (object es)) (sym c.in_ok-from_sorted.ensures) (allowed_row c.loop-name.row.items c.loop-name.invariant.2.stand)

pub taken_members-returns-clause-tree : goal.taken_members-returns-clause-tree
taken_members-returns-clause-tree t c =
    let gives : c.into_iter-name-iterator.result ≡ c.args.members.entries = c.into_iter-name-iterator.ensures.into_iter_gives.0 in
    let sorted : IsStrictlySortedBy string_cmp (keys_of c.into_iter-name-iterator.result) = subst (λ es. IsStrictlySortedBy string_cmp (keys_of es)) (sym gives) c.into_iter-name-iterator.ensures.into_iter_gives.5 in
    c.object.ensures ∙ ap object c.in_ok-from_sorted.ensures
    ∙ row_object _ sorted c.loop-name.row.items (subst (λ es. Filling (member_trees (members_view c.into_iter-name-iterator.result)) c.loop-name.row.items (member_trees (members_view es))) c.in-None.ensures.steps.0 c.loop-name.invariant.2)
    ∙ ap (λ es. object (member_trees (members_view es))) gives

pub taken_members-returns-clause-walked : goal.taken_members-returns-clause-walked
taken_members-returns-clause-walked t c =
    let l = c.loop-name in
    let gives : c.into_iter-name-iterator.result ≡ c.args.members.entries = c.into_iter-name-iterator.ensures.into_iter_gives.0 in
    ap (λ es. walked c.args.seen.now (member_visits c.args.level (members_view es))) (sym gives) ∙ l.invariant.0
    ∙ ap (λ es. walked l.seen (member_visits c.args.level (members_view es))) c.in-None.ensures.steps.0
