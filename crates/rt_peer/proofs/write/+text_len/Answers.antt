use Rattle.std.proofs.Common.{◌≡◌, ◌≤◌, ◌+◌, [], Some, None, true, false, arith, ap, subst, sym, ◌∙◌, rules}
use Rattle.std.specs.Map.{values_of}
use denote.Param.Weighed.{most}
use Rattle.rt_tree.specs.PathTree.{leaf_at, leaf_of_root, levels}
use Rattle.rt_tree.specs.Children.{is_object, children_of}
use Rattle.rt_peer.specs.Lengths.{text_length}
use Rattle.rt_peer.specs.inside.Lengths.{entries_length}
use Rattle.rt_peer.proofs.TextLengths.{counting_goes_on, children_below, text_length-children, text_length-none, text_length-of_leaf}
use Rattle.rt_peer.proofs.write.+text_len.Goals as goal

pub returns-in-Some : goal.returns-in-Some
returns-in-Some t c =
    let is : leaf_at c.args.tree.now [] ≡ Some c.in-Some.leaf.now = search rules in
    omega (arith, ap text_length (leaf_of_root c.args.tree.now c.in-Some.leaf.now is), text_length-of_leaf c.in-Some.leaf.now, c.leaf_len.ensures)

pub returns-in_default-children : goal.returns-in_default-children
returns-in_default-children t c =
    let leaf : leaf_at c.args.tree.now [] ≡ None = search rules in
    let none : is_object c.args.tree.now ≡ false = search rules in
    omega (arith, text_length-none c.args.tree.now leaf none)

pub loop-key-init : goal.loop-key-init
loop-key-init t c =
    let tree = c.args.tree.now in
    let some : is_object tree ≡ true = search rules in
    let gives : c.into_iter-key-iterator.result ≡ children_of tree =
    c.into_iter-key-iterator.ensures.into_iter_gives.0 ∙ c.in-Some-children.ensures.children in record {
      all = omega (arith, ap entries_length gives);
      fits = omega arith;
      lower = subst (λ es. most (λ u. levels u + 1) (values_of es) ≤ levels tree) (sym gives) (children_below tree some);
    }

pub text_len-requires : goal.text_len-requires
text_len-requires t c = (
  omega (
    arith,
    c.decreases,
    c.loop-key.invariant.lower,
    ap (λ es. most (λ u. levels u + 1) (values_of es)) c.in-Some-2.ensures.steps,
  ),
  tt,
)

pub loop-key-preserved : goal.loop-key-preserved
loop-key-preserved t c =
    let l = c.loop-key in
    let steps = c.in-Some-2.ensures.steps in
    let now =
    counting_goes_on _ l.key-iterator c.next.new.self c.in-Some-2.key.now c.in-Some-2.child.now l.len c.text_len.result
    c.entry_len.result steps l.invariant.all c.text_len.ensures c.entry_len.ensures in record {
      all = omega (arith, c.saturating_add-len.ensures, now);
      fits = omega (arith, c.saturating_add-len.ensures);
      lower = omega (arith, l.invariant.lower, ap (λ es. most (λ u. levels u + 1) (values_of es)) steps);
    }

pub returns : goal.returns
returns t c =
    let tree = c.args.tree.now in
    let some : is_object tree ≡ true = search rules in
    omega (
      arith,
      c.loop-key.invariant.all,
      c.loop-key.invariant.fits,
      ap entries_length c.in-None.ensures.steps.0,
      text_length-children tree some c.children.ensures.allowed,
    )
