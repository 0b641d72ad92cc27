use Rattle.std.proofs.Common.{◌≡◌, true, false, nat_eq, refl, sym, ap, ◌∙◌}
use Rattle.std.specs.Cmp.Lexicographic.{pointwise}
use Rattle.rt_tree.specs.Trees.{child_of}
use Rattle.rt_tree.proofs.Named.{name_here, name_later}
use Rattle.rt_tree.proofs.tree.names.named_in.Goals as goal

pub loop-key-init : goal.loop-key-init
loop-key-init c = refl

pub returns-then-eq : goal.returns-then-eq
returns-then-eq c =
    let l = c.loop-key in
    let gives = c.into_iter-key-iterator.ensures.into_iter_gives.0 in
    let same : pointwise nat_eq c.in-Some.key.now c.args.name.now ≡ true =
    ap (λ k. pointwise nat_eq k c.args.name.now) (sym c.text.ensures.text) ∙ sym c.eq.ensures ∙ c.if-eq.true in
    name_here l.key-iterator c.next.new.self c.in-Some.key.now c.args.name.now c.in-Some.child.now c.in-Some.ensures.steps same
    ∙ sym l.invariant ∙ ap (λ es. child_of es c.args.name.now) gives

pub loop-key-preserved : goal.loop-key-preserved
loop-key-preserved c =
    let l = c.loop-key in
    let other : pointwise nat_eq c.in-Some.key.now c.args.name.now ≡ false =
    ap (λ k. pointwise nat_eq k c.args.name.now) (sym c.text.ensures.text) ∙ sym c.eq.ensures ∙ c.if-eq.false in
    l.invariant ∙ name_later l.key-iterator c.next.new.self c.in-Some.key.now c.args.name.now c.in-Some.child.now c.in-Some.ensures.steps other

pub returns : goal.returns
returns c =
    let gives = c.into_iter-key-iterator.ensures.into_iter_gives.0 in
    sym (ap (λ es. child_of es c.args.name.now) (sym gives) ∙ c.loop-key.invariant ∙ ap (λ es. child_of es c.args.name.now) c.in-None.ensures.steps.0)
