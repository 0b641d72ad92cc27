use Rattle.std.specs.Prelude.{T}
use Rattle.std.proofs.Common.{◌≡◌, ◌++◌, true, ap, sym, subst, ◌∙◌}
use Rattle.std.specs.FinMap.Entries.{is_sorted}
use Rattle.rt_order.specs.Cuts.{has}
use Rattle.rt_order.specs.Entries.{entry_cmp}
use Rattle.rt_view.specs.inside.ChildChain.{halves_of}
use Rattle.rt_view.specs.inside.Ranged.{OrderedChildren, between, inner}
use Rattle.rt_view.specs.inside.Windows.{before, half_in, known_in}
use Rattle.rt_view.proofs.RangedLaws.{before_inner}
use Rattle.rt_view.proofs.window.OrderedChildren.half_before.Goals as goal

pub returns : goal.returns
returns c is =
    let s = c.self.inside in
    let old = halves_of s.chain in
    let rise : T (is_sorted entry_cmp (old.0 ++ old.1)) = subst (λ (o : OrderedChildren). T (is_sorted entry_cmp (known_in o))) (sym c.self.view_is) c.len.ensures.rises in
    let at : has (between s.from s.to) c.args.position.now ≡ true = ap (λ (o : OrderedChildren). has o.children.range c.args.position.now) c.self.view_is ∙ is in
    c.key_before.ensures s.from c.self.invariant.marks ∙ before_inner s.from s.to old s.low s.high c.self.invariant.spread c.args.half c.args.position.now rise at
    ∙ ap (λ (o : OrderedChildren). before c.args.position.now (half_in c.args.half (inner o.children))) c.self.view_is
