use Rattle.std.proofs.Common.{◌-◌, ℕ, length, ap, arith, ◌∙◌}
use Rattle.rt_view.specs.inside.ChildChain.{halves_of}
use Rattle.rt_view.specs.inside.Ranged.{OrderedChildren, inner}
use Rattle.rt_view.specs.inside.Windows.{half_in}
use Rattle.rt_view.proofs.RangedLaws.{behind_in, front_in}
use Rattle.rt_view.proofs.window.OrderedChildren.len.Goals as goal

pub overflow_sub-result : goal.overflow_sub-result
overflow_sub-result c =
    let s = c.self.inside in
    omega (arith, c.half_len.ensures.len, (front_in s.from s.to (halves_of s.chain) s.low s.high c.self.invariant.spread c.args.half c.in-Front.is).0)

pub overflow_sub-result-in-Behind : goal.overflow_sub-result-in-Behind
overflow_sub-result-in-Behind c =
    let s = c.self.inside in
    omega (arith, c.half_len-in-Behind.ensures.len, (behind_in s.from s.to (halves_of s.chain) s.low s.high c.self.invariant.spread c.args.half c.in-Behind.is).0)

pub returns-in-Front-clause-len : goal.returns-in-Front-clause-len
returns-in-Front-clause-len c =
    let s = c.self.inside in
    ap (λ (n : ℕ). n - s.low) c.half_len.ensures.len ∙ (front_in s.from s.to (halves_of s.chain) s.low s.high c.self.invariant.spread c.args.half c.in-Front.is).1 ∙ ap (λ (o : OrderedChildren). length (half_in c.args.half (inner o.children))) c.self.view_is

pub returns-in-Behind-clause-len : goal.returns-in-Behind-clause-len
returns-in-Behind-clause-len c =
    let s = c.self.inside in
    ap (λ (n : ℕ). n - s.high) c.half_len-in-Behind.ensures.len ∙ (behind_in s.from s.to (halves_of s.chain) s.low s.high c.self.invariant.spread c.args.half c.in-Behind.is).1 ∙ ap (λ (o : OrderedChildren). length (half_in c.args.half (inner o.children))) c.self.view_is
