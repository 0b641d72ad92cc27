use Rattle.std.specs.Prelude.{T}
use Rattle.std.proofs.Common.{◌≡◌, ◌-◌, ◌++◌, ◌&&◌, true, false, cond, ap, sym, subst, ◌∙◌, arith, rules, length}
use Rattle.std.specs.FinMap as map_of
use Rattle.std.specs.FinMap.Entries.{is_sorted}
use Rattle.rt_chain.specs.declared.chain.Half.TheVariants.{Behind, Front}
use Rattle.rt_order.specs.Cuts.{has}
use Rattle.rt_order.specs.Entries.{entry_cmp}
use Rattle.rt_view.specs.inside.ChildChain.{halves_of}
use Rattle.rt_view.specs.inside.Ranged.{OrderedChildren, between, inner, inside}
use Rattle.rt_view.specs.inside.Windows.{PutWithin, known_in}
use Rattle.rt_view.proofs.RangedLaws.{beside_put, beside_stays, counts_fit, has-between, mid_full, mid_put, mid_puts, mid_there, mid_whole, on_ok}
use Rattle.rt_view.proofs.window.OrderedChildren.place.Goals as goal

pub returns-in_err-put_child-clause-all : goal.returns-in_err-put_child-clause-all
returns-in_err-put_child-clause-all c =
    on_ok c.from_residual.result _ c.from_residual.ensures.0

pub overflow_sub-self : goal.overflow_sub-self
overflow_sub-self c =
    let s = c.self.inside in
    let old = halves_of s.chain in
    let off : (has s.from c.args.position && has s.to c.args.position) ≡ false = search rules in
    let front : c.len-in_front.result ≡ length (inside (between s.from s.to) old.0) = c.len-in_front.ensures.len ∙ ap (λ (o : OrderedChildren). length (inner o.children).0) (sym c.self.view_is) in
    let behind : c.len-in_behind.result ≡ length (inside (between s.from s.to) old.1) = c.len-in_behind.ensures.len ∙ ap (λ (o : OrderedChildren). length (inner o.children).1) (sym c.self.view_is) in
    omega (arith, front, c.half_len.ensures.len, (counts_fit s.from s.to old s.low s.high c.self.invariant.spread (halves_of c.put_child.new.chain) c.args.position (beside_stays s.from s.to old s.low s.high c.self.invariant.spread (halves_of c.put_child.new.chain) c.args.position c.args.tree c.in_ok-put_child.field-0.0 off c.in_ok-put_child.ensures.puts)).0)

pub overflow_sub-self-then-not-inside : goal.overflow_sub-self-then-not-inside
overflow_sub-self-then-not-inside c =
    let s = c.self.inside in
    let old = halves_of s.chain in
    let off : (has s.from c.args.position && has s.to c.args.position) ≡ false = search rules in
    let front : c.len-in_front.result ≡ length (inside (between s.from s.to) old.0) = c.len-in_front.ensures.len ∙ ap (λ (o : OrderedChildren). length (inner o.children).0) (sym c.self.view_is) in
    let behind : c.len-in_behind.result ≡ length (inside (between s.from s.to) old.1) = c.len-in_behind.ensures.len ∙ ap (λ (o : OrderedChildren). length (inner o.children).1) (sym c.self.view_is) in
    omega (arith, behind, c.half_len-then-not-inside.ensures.len, (counts_fit s.from s.to old s.low s.high c.self.invariant.spread (halves_of c.put_child.new.chain) c.args.position (beside_stays s.from s.to old s.low s.high c.self.invariant.spread (halves_of c.put_child.new.chain) c.args.position c.args.tree c.in_ok-put_child.field-0.0 off c.in_ok-put_child.ensures.puts)).1)

pub invariant_of-self-then-not-inside : goal.invariant_of-self-then-not-inside
invariant_of-self-then-not-inside c =
    let s = c.self.inside in
    let old = halves_of s.chain in
    let off : (has s.from c.args.position && has s.to c.args.position) ≡ false = search rules in
    let front : c.len-in_front.result ≡ length (inside (between s.from s.to) old.0) = c.len-in_front.ensures.len ∙ ap (λ (o : OrderedChildren). length (inner o.children).0) (sym c.self.view_is) in
    let behind : c.len-in_behind.result ≡ length (inside (between s.from s.to) old.1) = c.len-in_behind.ensures.len ∙ ap (λ (o : OrderedChildren). length (inner o.children).1) (sym c.self.view_is) in
    let side : c.side_of.result ≡ cond (has s.from c.args.position) Behind Front = c.side_of.ensures ∙ ap (λ a. cond a Behind Front) c.is_in-above.ensures in
    record {
      spread = beside_put s.from s.to old s.low s.high c.self.invariant.spread (halves_of c.put_child.new.chain) c.args.position c.args.tree c.side_of.result c.in_ok-put_child.field-0.0 (c.half_len.result - c.len-in_front.result) (c.half_len-then-not-inside.result - c.len-in_behind.result) side off c.in_ok-put_child.ensures.half c.in_ok-put_child.ensures.puts
          (λ i. c.half_len.ensures.len i - front i) (λ i. c.half_len-then-not-inside.ensures.len i - behind i);
      marks = c.in_ok-put_child.ensures.marks s.from c.is_in-above.ensures c.self.invariant.marks;
    }

pub returns-then-not-inside-clause-all : goal.returns-then-not-inside-clause-all
returns-then-not-inside-clause-all c =
    c.in_ok-put_child.ensures.whole ∙ ap (λ (o : OrderedChildren). map_of.put entry_cmp c.args.position c.args.tree (known_in o)) c.self.view_is

pub returns-then-not-inside-clause-put : goal.returns-then-not-inside-clause-put
returns-then-not-inside-clause-put c =
    let s = c.self.inside in
    let old = halves_of s.chain in
    let off : (has s.from c.args.position && has s.to c.args.position) ≡ false = search rules in (
      ap (λ (o : OrderedChildren). has o.children.range c.args.position) (sym c.self.view_is) ∙ has-between s.from s.to c.self.invariant.spread.from_only c.self.invariant.spread.to_only c.args.position ∙ off,
      beside_stays s.from s.to old s.low s.high c.self.invariant.spread (halves_of c.put_child.new.chain) c.args.position c.args.tree c.in_ok-put_child.field-0.0 off c.in_ok-put_child.ensures.puts ∙ ap (λ (o : OrderedChildren). inner o.children) c.self.view_is,
    )

pub returns-in_err-put-clause-all : goal.returns-in_err-put-clause-all
returns-in_err-put-clause-all c =
    on_ok c.from_residual-in_err-put.result _ c.from_residual-in_err-put.ensures.0

pub invariant_of-self-2 : goal.invariant_of-self-2
invariant_of-self-2 c =
    let s = c.self.inside in
    let old = halves_of s.chain in
    let at : (has s.from c.args.position && has s.to c.args.position) ≡ true = search rules in
    record { spread = mid_put s.from s.to old s.low s.high c.self.invariant.spread (halves_of c.put_child-2.new.chain) c.args.position c.args.tree c.in_ok-put.put.0 at c.in_ok-put.ensures.puts; marks = c.in_ok-put.ensures.marks s.from c.is_in-above.ensures c.self.invariant.marks }

pub returns-clause-all : goal.returns-clause-all
returns-clause-all c =
    c.in_ok-put.ensures.whole ∙ ap (λ (o : OrderedChildren). map_of.put entry_cmp c.args.position c.args.tree (known_in o)) c.self.view_is

pub returns-clause-put : goal.returns-clause-put
returns-clause-put c =
    let s = c.self.inside in
    let old = halves_of s.chain in
    let new = halves_of c.put_child-2.new.chain in
    let rise : T (is_sorted entry_cmp (old.0 ++ old.1)) = subst (λ (o : OrderedChildren). T (is_sorted entry_cmp (known_in o))) (sym c.self.view_is) c.len-in_front.ensures.rises in
    let at : (has s.from c.args.position && has s.to c.args.position) ≡ true = search rules in
    subst (λ (o : OrderedChildren). PutWithin c.args.position c.args.tree c.args.at_cut c.in_ok-put.put.0 c.in_ok-put.put.1 o
    (record { limit = s.limit; children = record { range = between s.from s.to; halves = new } })) c.self.view_is (record {
      inside = has-between s.from s.to c.self.invariant.spread.from_only c.self.invariant.spread.to_only c.args.position ∙ at;
      puts = mid_puts s.from s.to old s.low s.high c.self.invariant.spread new c.args.position c.args.tree c.in_ok-put.put.0 rise at c.in_ok-put.ensures.puts;
      whole = mid_whole s.from s.to old s.low s.high c.self.invariant.spread new c.args.position c.args.tree rise at c.in_ok-put.ensures.whole;
      full = mid_full s.from s.to old s.low s.high c.self.invariant.spread new c.args.position c.args.at_cut c.in_ok-put.put.0 at c.in_ok-put.ensures.half;
      stood = c.in_ok-put.ensures.was ∙ mid_there s.from s.to old s.low s.high c.self.invariant.spread new c.args.position c.in_ok-put.put.0 at;
    })
