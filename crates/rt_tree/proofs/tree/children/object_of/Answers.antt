use Rattle.std.proofs.Common.{◌≡◌, ◌∷◌, ◌∙◌, sym, ap, arith, rules, length}
use Rattle.std.specs.Vec.Iter.{into_iter_items, into_iter_len}
use Rattle.rt_tree.proofs.Children.{placing_begins, placing_goes_on, placing_ends, first_shallow}
use Rattle.rt_tree.proofs.tree.children.object_of.Goals as goal

pub loop-key-init : goal.loop-key-init
loop-key-init c =
    let whole : into_iter_items c.into_iter-key-iterator.result ≡ c.args.children.items = search rules in
    let long : into_iter_len c.into_iter-key-iterator.result ≡ length (into_iter_items c.into_iter-key-iterator.result) = search rules in
    (placing_begins _ _ _ c.in_ok-placed.ensures.empty whole c.requires, long)

pub put_child-requires-clause-shallow : goal.put_child-requires-clause-shallow
put_child-requires-clause-shallow c = first_shallow _ _ _ _ c.in-Some.ensures.steps.0 c.loop-key.invariant.0.shallow

pub put_child-requires-clause-full : goal.put_child-requires-clause-full
put_child-requires-clause-full c = c.loop-key.invariant.0.full

pub put_child-requires-clause-allowed : goal.put_child-requires-clause-allowed
put_child-requires-clause-allowed c = c.loop-key.invariant.0.allowed

pub loop-key-preserved : goal.loop-key-preserved
loop-key-preserved c =
    let is : into_iter_items c.loop-key.key-iterator ≡ (c.in-Some.key, c.in-Some.child) ∷ into_iter_items c.next.new.self = c.in-Some.ensures.steps.0 in (
      placing_goes_on _ _ _ _ _ _ _ is c.loop-key.invariant.0 c.in_ok-put_child.ensures.put c.in_ok-put_child.ensures.full c.in_ok-put_child.ensures.allowed c.in_ok-put_child.ensures.ordered,
      omega (arith, ap length is, c.in-Some.ensures.steps.1, c.loop-key.invariant.1),
    )

pub object-requires-clause-full : goal.object-requires-clause-full
object-requires-clause-full c = c.loop-key.invariant.0.full

pub object-requires-clause-allowed : goal.object-requires-clause-allowed
object-requires-clause-allowed c = c.loop-key.invariant.0.allowed

pub returns : goal.returns
returns c =
    let same = placing_ends _ _ _ (sym c.loop-key.invariant.1 ∙ c.in-None.ensures.steps.0) c.loop-key.invariant.0 in
    c.object.ensures ∙ same
