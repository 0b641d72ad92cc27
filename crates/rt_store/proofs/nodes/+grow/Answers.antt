use Rattle.std.proofs.Common.{rules, ◌≡◌, ◌+◌, ◌≤◌, [], true, false, Some, None, length, map, reverse, sym, ap, subst, ◌∙◌, arith}
use Rattle.std.specs.Map.{keys_of}
use Rattle.std.specs.List.Sorted.{IsStrictlySortedBy}
use Rattle.std.proofs.lemmas.List.{drop_all}
use Rattle.rt_tree.specs.PathTree.{key_cmp, null, is_null, put, of_leaf, leaf_at, object, levels, AllFull}
use Rattle.rt_tree.specs.Children.{is_object, children_of, children_sorted}
use Rattle.rt_nodes.specs.Forest.{row_at}
use Rattle.rt_nodes.proofs.Reached.{row_at-none}
use Rattle.rt_nodes.proofs.Growing.{still_place, still_once, undone}
use Rattle.rt_store.specs.Rows.{in_key_order}
use Rattle.rt_store.specs.inside.Entries.{entries}
use Rattle.rt_store.specs.inside.Growing.{seen}
use Rattle.rt_store.proofs.Falling.{onto, object-in_key_order}
use Rattle.rt_store.proofs.Growing.{put_key, put_whole, put_leaf, no_path, full-children_of, full_row, nothing_grown, node_grown, one_entry, taken_back, next_child, next_made}
use Rattle.rt_store.proofs.nodes.+grow.Goals as goal

pub content-grow-requires : goal.content-grow-requires
content-grow-requires t c = (omega (arith, c.decreases, ap length c.in-Some.ensures.cases.0), c.requires.full)

pub content-returns-in-Some-clause-is : goal.content-returns-in-Some-clause-is
content-returns-in-Some-clause-is t c =
    ap object c.in_ok-index.ensures.is ∙ put_key c.in-Some.key.now c.in-Some.rest.now c.args.tree.now c.requires.full ∙ ap (λ p. put null p c.args.tree.now) (sym c.in-Some.ensures.cases.0)

pub content-returns-in-Some-as_leaf-clause-is : goal.content-returns-in-Some-as_leaf-clause-is
content-returns-in-Some-as_leaf-clause-is t c =
    let is : leaf_at c.args.tree.now [] ≡ Some c.in-Some-as_leaf.leaf.now = search rules in
    ap of_leaf c.in_ok-copy.ensures ∙ put_leaf c.args.rest.now c.args.tree.now c.in-Some-as_leaf.leaf.now c.in_default.ensures.cases is

pub content-grow_row-requires : goal.content-grow_row-requires
content-grow_row-requires t c =
    let T = c.args.tree.now in
    let is : c.in-Some-children.children.now.entries ≡ children_of T = search rules in
    let object_is : is_object T ≡ true = search rules in (
      omega (arith, c.decreases, ap (λ es. levels (object (in_key_order es))) is, ap levels (object-in_key_order T object_is)),
      (
        no_path c.args.rest.now c.in_default.ensures.cases,
        (subst (λ es. IsStrictlySortedBy key_cmp (keys_of es)) (sym is) (children_sorted T), subst AllFull (sym is) (full-children_of T)),
      ),
    )

pub content-returns-in_ok-grow_row-in-Some-children-clause-full : goal.content-returns-in_ok-grow_row-in-Some-children-clause-full
content-returns-in_ok-grow_row-in-Some-children-clause-full t c =
    let T = c.args.tree.now in
    let is : c.in-Some-children.children.now.entries ≡ children_of T = search rules in
    let object_is : is_object T ≡ true = search rules in
    full_row (row_at c.grow_row.new.nodes c.in_ok-grow_row-in-Some-children.field-0)
    (ap is_null (ap object (c.in_ok-grow_row-in-Some-children.ensures.is ∙ ap in_key_order is) ∙ object-in_key_order T object_is) ∙ c.requires.full)

pub content-returns-in_ok-grow_row-in-Some-children-clause-is : goal.content-returns-in_ok-grow_row-in-Some-children-clause-is
content-returns-in_ok-grow_row-in-Some-children-clause-is t c =
    let T = c.args.tree.now in
    let is : c.in-Some-children.children.now.entries ≡ children_of T = search rules in
    let object_is : is_object T ≡ true = search rules in
    ap object (c.in_ok-grow_row-in-Some-children.ensures.is ∙ ap in_key_order is) ∙ object-in_key_order T object_is
    ∙ sym (put_whole null c.args.rest.now T c.in_default.ensures.cases)

pub grow-content-requires : goal.grow-content-requires
grow-content-requires t c = (omega (arith, c.decreases), c.requires.full)

pub grow-returns-in-Ok-clause-grown : goal.grow-returns-in-Ok-clause-grown
grow-returns-in-Ok-clause-grown t c =
    node_grown c.args.nodes.now c.insert.new.self c.in_ok-index.index c.args.key.now c.args.parent c.in_ok-index.ensures.ok
    c.content.new.nodes c.set_content.new.self c.in-Ok.leaf c.in-Ok.first c.in-Ok.ensures.grown c.in-Ok.ensures.full c.set_content.ensures.written c.set_content.ensures.others c.set_content.ensures.len

pub grow-returns-in-Ok-clause-is : goal.grow-returns-in-Ok-clause-is
grow-returns-in-Ok-clause-is t c =
    one_entry c.args.nodes.now c.insert.new.self c.in_ok-index.index c.args.key.now c.args.parent c.in_ok-index.ensures.ok
    c.content.new.nodes c.set_content.new.self c.in-Ok.leaf c.in-Ok.first c.in-Ok.ensures.grown c.in-Ok.ensures.full c.set_content.ensures.written c.set_content.ensures.others c.set_content.ensures.len
    (put null c.args.rest.now c.args.tree.now) c.in-Ok.ensures.is

pub grow-returns-in-Err-clause-err : goal.grow-returns-in-Err-clause-err
grow-returns-in-Err-clause-err t c =
    taken_back c.args.nodes.now c.insert.new.self c.content.new.nodes c.remove.new.self c.in_ok-index.index c.args.key.now c.args.parent None
    c.in_ok-index.ensures.ok c.in-Err.ensures.err c.remove.ensures.updates c.remove.ensures.len

pub grow_row-loop-child-init : goal.grow_row-loop-child-init
grow_row-loop-child-init t c = (
  nothing_grown c.args.nodes.now c.args.parent,
  ap (λ f. onto (map seen c.deref-child-items.result.now) (entries f)) (row_at-none c.args.nodes.now) ∙ ap (λ xs. reverse (map seen xs)) c.deref-child-items.ensures.value ∙ c.in_ok-falling.ensures,
)

pub grow_row-grow-requires : goal.grow_row-grow-requires
grow_row-grow-requires t c =
    let next : (levels c.child-item.result.tree.now + 1 ≤ levels (object (in_key_order c.args.children.now.entries))) × (is_null c.child-item.result.tree.now ≡ false) =
    next_child c.args.nodes.now c.loop-child.nodes c.loop-child.first c.args.parent c.args.children.now.entries c.deref-child-items.result.now c.loop-child.child-index c.child-item.result
    c.loop-child.invariant.0 c.loop-child.invariant.1 c.loop-child-test.true c.child-item.is c.requires.full in
    (omega (arith, c.decreases, next.0, ap length c.requires.end), next.1)

pub grow_row-fell-requires-clause-place : goal.grow_row-fell-requires-clause-place
grow_row-fell-requires-clause-place t c = still_place c.args.nodes.now c.loop-child.nodes c.grow.new.nodes c.loop-child.first c.args.parent c.loop-child.invariant.0.grown c.in-Err.ensures.err

pub grow_row-fell-requires-clause-once : goal.grow_row-fell-requires-clause-once
grow_row-fell-requires-clause-once t c = still_once c.args.nodes.now c.loop-child.nodes c.grow.new.nodes c.loop-child.first c.args.parent c.loop-child.invariant.0.grown c.in-Err.ensures.err

pub grow_row-returns-in-Err-clause-err : goal.grow_row-returns-in-Err-clause-err
grow_row-returns-in-Err-clause-err t c = undone c.args.nodes.now c.loop-child.nodes c.grow.new.nodes c.loop-child.first c.args.parent c.loop-child.invariant.0.grown c.in-Err.ensures.err c.fell.new.self c.fell.ensures

pub grow_row-loop-child-preserved : goal.grow_row-loop-child-preserved
grow_row-loop-child-preserved t c =
    let made = next_made c.args.nodes.now c.loop-child.nodes c.loop-child.first c.args.parent c.args.children.now.entries c.deref-child-items.result.now c.loop-child.child-index c.child-item.result
    c.loop-child.invariant.0 c.loop-child.invariant.1 c.loop-child-test.true c.child-item.is c.grow.new.nodes c.link.new.self c.in-Ok.index c.args.rest.now c.requires.end
    c.in-Ok.ensures.grown c.in-Ok.ensures.is c.link.ensures.each c.link.ensures.len in
    (made.0, made.1)

pub grow_row-returns-clause-is : goal.grow_row-returns-clause-is
grow_row-returns-clause-is t c =
    let xs = c.deref-child-items.result.now in
    let end : length xs ≤ c.loop-child.child-index = omega (arith, c.loop-child-test.false) in
    ap (λ ys. onto (map seen ys) (entries (row_at c.loop-child.nodes c.loop-child.first))) (sym (drop_all c.loop-child.child-index xs end)) ∙ c.loop-child.invariant.1
