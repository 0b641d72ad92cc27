use Rattle.std.specs.Prelude.{T}
use Rattle.std.proofs.Common.{◌≡◌, ◌++◌, ap, sym, subst, ◌∙◌, length}
use Rattle.std.specs.FinMap.Entries.{is_sorted}
use Rattle.std.specs.List.{AllByRecursion}
use Rattle.std.proofs.lemmas.Result.{IfOk-weaker}
use Rattle.rt_chain.specs.Chains.{Chain}
use Rattle.rt_order.specs.Entries.{Entry, entry_cmp}
use Rattle.rt_view.specs.declared.window.Child.{Child}
use Rattle.rt_view.specs.inside.ChildChain.{IsMarked, children_in, halves_of}
use Rattle.rt_view.specs.inside.Ranged.{IsSpread, OrderedChildren, inner}
use Rattle.rt_view.specs.inside.Windows.{Goes, half_in, known_in}
use Rattle.rt_view.proofs.KnownLaws.{children-all}
use Rattle.rt_view.proofs.RangedLaws.{either_way, goes_over, inner_of, nothing_goes}
use Rattle.rt_view.proofs.window.OrderedChildren.cross_from.Goals as goal

pub returns-then-len-eq0-clause-crosses : goal.returns-then-len-eq0-clause-crosses
returns-then-len-eq0-clause-crosses c = nothing_goes c.args.half (inner c.args.self.now.children) (sym c.len-len.ensures.len ∙ c.if-len-eq0.true)

pub invariant_of-self : goal.invariant_of-self
invariant_of-self c =
    let s = c.self.inside in
    let old = halves_of s.chain in
    let new = c.go_over.new.chain in
    let marks = c.self.invariant.marks in
    let rise : T (is_sorted entry_cmp (old.0 ++ old.1)) = subst (λ (o : OrderedChildren). T (is_sorted entry_cmp (known_in o))) (sym c.self.view_is) c.len-len.ensures.rises in
    let len : c.len-len.result ≡ length (half_in c.args.half (inner_of s.from s.to old)) = c.len-len.ensures.len ∙ ap (λ (o : OrderedChildren). length (half_in c.args.half (inner o.children))) (sym c.self.view_is) in
    record {
      spread = either_way c.go_over.result _ _ (IsSpread s.from s.to (halves_of new) s.low s.high) c.go_over.ensures.crosses c.go_over.ensures.err
          (λ child g. (goes_over s.from s.to old s.low s.high c.self.invariant.spread c.args.half (halves_of new) child rise (λ none. c.if-len-eq0.false (len ∙ none)) (g s.from marks)).1)
          (λ same. subst (λ (k : Chain Entry Child). IsSpread s.from s.to (halves_of k) s.low s.high) (sym same) c.self.invariant.spread);
      marks = subst (AllByRecursion (IsMarked s.from)) (sym c.go_over.ensures.all) marks;
    }

pub returns-clause-crosses : goal.returns-clause-crosses
returns-clause-crosses c =
    let s = c.self.inside in
    let old = halves_of s.chain in
    let new = c.go_over.new.chain in
    let rise : T (is_sorted entry_cmp (old.0 ++ old.1)) = subst (λ (o : OrderedChildren). T (is_sorted entry_cmp (known_in o))) (sym c.self.view_is) c.len-len.ensures.rises in
    let len : c.len-len.result ≡ length (half_in c.args.half (inner_of s.from s.to old)) = c.len-len.ensures.len ∙ ap (λ (o : OrderedChildren). length (half_in c.args.half (inner o.children))) (sym c.self.view_is) in
    IfOk-weaker c.go_over.result _ _
    (λ child g. subst (λ (o : OrderedChildren). Goes c.args.half child (inner o.children) (inner_of s.from s.to (halves_of new))) c.self.view_is
    (goes_over s.from s.to old s.low s.high c.self.invariant.spread c.args.half (halves_of new) child rise (λ none. c.if-len-eq0.false (len ∙ none)) (g s.from c.self.invariant.marks)).0) c.go_over.ensures.crosses

pub returns-clause-all : goal.returns-clause-all
returns-clause-all c =
    IfOk-weaker c.go_over.result _ _
    (λ child g. sym (children-all c.go_over.new.chain) ∙ ap children_in c.go_over.ensures.all ∙ children-all c.self.inside.chain ∙ ap known_in c.self.view_is) c.go_over.ensures.crosses
