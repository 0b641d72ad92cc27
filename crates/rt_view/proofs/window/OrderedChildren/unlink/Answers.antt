use Rattle.std.proofs.Common.{◌≡◌, ◌-◌, ◌&&◌, true, false, None, ap, sym, subst, ◌∙◌, arith, rules, length}
use Rattle.std.specs.BTreeMap.{is_at}
use Rattle.std.specs.Map.{remove_entry}
use Rattle.rt_order.specs.Cuts.{has}
use Rattle.rt_order.specs.Entries.{entry_cmp}
use Rattle.rt_view.specs.inside.ChildChain.{halves_of}
use Rattle.rt_view.specs.inside.Ranged.{OrderedChildren, between, inner, inside}
use Rattle.rt_view.specs.inside.Windows.{Had, Taken, known_in}
use Rattle.rt_view.proofs.RangedLaws.{beside_had, beside_taken, counts_fit, inner_of, mid_had, mid_taken, taken_inner, taken_stays}
use Rattle.rt_view.proofs.window.OrderedChildren.unlink.Goals as goal

pub invariant_of-self : goal.invariant_of-self
invariant_of-self c =
    let s = c.self.inside in
    let old = halves_of s.chain in
    let at : (has s.from c.args.position.now && has s.to c.args.position.now) ≡ true = search rules in
    record { spread = mid_taken s.from s.to old s.low s.high c.self.invariant.spread (halves_of c.take_child-half.new.chain) c.args.position.now at c.take_child-half.ensures.taken; marks = c.take_child-half.ensures.marks s.from c.self.invariant.marks }

pub overflow_sub-self : goal.overflow_sub-self
overflow_sub-self c =
    let s = c.self.inside in
    let old = halves_of s.chain in
    let off : (has s.from c.args.position.now && has s.to c.args.position.now) ≡ false = search rules in
    let front : c.len-in_front.result ≡ length (inside (between s.from s.to) old.0) = c.len-in_front.ensures.len ∙ ap (λ (o : OrderedChildren). length (inner o.children).0) (sym c.self.view_is) in
    let behind : c.len-in_behind.result ≡ length (inside (between s.from s.to) old.1) = c.len-in_behind.ensures.len ∙ ap (λ (o : OrderedChildren). length (inner o.children).1) (sym c.self.view_is) in
    omega (arith, front, c.half_len.ensures.len, (counts_fit s.from s.to old s.low s.high c.self.invariant.spread (halves_of c.take_child-half.new.chain) c.args.position.now (taken_stays s.from s.to old s.low s.high c.self.invariant.spread (halves_of c.take_child-half.new.chain) c.args.position.now off c.take_child-half.ensures.taken)).0)

pub overflow_sub-self-2 : goal.overflow_sub-self-2
overflow_sub-self-2 c =
    let s = c.self.inside in
    let old = halves_of s.chain in
    let off : (has s.from c.args.position.now && has s.to c.args.position.now) ≡ false = search rules in
    let front : c.len-in_front.result ≡ length (inside (between s.from s.to) old.0) = c.len-in_front.ensures.len ∙ ap (λ (o : OrderedChildren). length (inner o.children).0) (sym c.self.view_is) in
    let behind : c.len-in_behind.result ≡ length (inside (between s.from s.to) old.1) = c.len-in_behind.ensures.len ∙ ap (λ (o : OrderedChildren). length (inner o.children).1) (sym c.self.view_is) in
    omega (arith, behind, c.half_len-2.ensures.len, (counts_fit s.from s.to old s.low s.high c.self.invariant.spread (halves_of c.take_child-half.new.chain) c.args.position.now (taken_stays s.from s.to old s.low s.high c.self.invariant.spread (halves_of c.take_child-half.new.chain) c.args.position.now off c.take_child-half.ensures.taken)).1)

pub invariant_of-self-2 : goal.invariant_of-self-2
invariant_of-self-2 c =
    let s = c.self.inside in
    let old = halves_of s.chain in
    let off : (has s.from c.args.position.now && has s.to c.args.position.now) ≡ false = search rules in
    let front : c.len-in_front.result ≡ length (inside (between s.from s.to) old.0) = c.len-in_front.ensures.len ∙ ap (λ (o : OrderedChildren). length (inner o.children).0) (sym c.self.view_is) in
    let behind : c.len-in_behind.result ≡ length (inside (between s.from s.to) old.1) = c.len-in_behind.ensures.len ∙ ap (λ (o : OrderedChildren). length (inner o.children).1) (sym c.self.view_is) in
    record {
      spread = beside_taken s.from s.to old s.low s.high c.self.invariant.spread (halves_of c.take_child-half.new.chain) c.args.position.now (c.half_len.result - c.len-in_front.result) (c.half_len-2.result - c.len-in_behind.result) off c.take_child-half.ensures.taken (λ i. c.half_len.ensures.len i - front i) (λ i. c.half_len-2.ensures.len i - behind i);
      marks = c.take_child-half.ensures.marks s.from c.self.invariant.marks;
    }

pub returns-then-inside : goal.returns-then-inside
returns-then-inside c =
    let s = c.self.inside in
    let old = halves_of s.chain in
    let new = halves_of c.take_child-half.new.chain in
    let at : (has s.from c.args.position.now && has s.to c.args.position.now) ≡ true = search rules in
    record {
      limit = search rules;
      range = search rules;
      all = c.take_child-half.ensures.whole ∙ ap (λ (o : OrderedChildren). remove_entry (is_at (entry_cmp c.args.position.now)) (known_in o)) c.self.view_is;
      taken = subst (λ (o : OrderedChildren). Taken c.args.position.now (inner o.children) (inner_of s.from s.to new)) c.self.view_is
          (taken_inner s.from s.to old s.low s.high c.self.invariant.spread new c.args.position.now c.take_child-half.ensures.taken);
      had = subst (λ (o : OrderedChildren). Had c.args.position.now c.take_child-half.result (inner o.children)) c.self.view_is
          (mid_had s.from s.to old s.low s.high c.self.invariant.spread new c.args.position.now c.take_child-half.result at c.take_child-half.ensures.had);
    }

pub returns : goal.returns
returns c =
    let s = c.self.inside in
    let old = halves_of s.chain in
    let new = halves_of c.take_child-half.new.chain in
    let off : (has s.from c.args.position.now && has s.to c.args.position.now) ≡ false = search rules in
    record {
      limit = search rules;
      range = search rules;
      all = c.take_child-half.ensures.whole ∙ ap (λ (o : OrderedChildren). remove_entry (is_at (entry_cmp c.args.position.now)) (known_in o)) c.self.view_is;
      taken = subst (λ (o : OrderedChildren). Taken c.args.position.now (inner o.children) (inner_of s.from s.to new)) c.self.view_is
          (taken_inner s.from s.to old s.low s.high c.self.invariant.spread new c.args.position.now c.take_child-half.ensures.taken);
      had = subst (λ (o : OrderedChildren). Had c.args.position.now None (inner o.children)) c.self.view_is
          (beside_had s.from s.to old s.low s.high c.self.invariant.spread new c.args.position.now off);
    }
