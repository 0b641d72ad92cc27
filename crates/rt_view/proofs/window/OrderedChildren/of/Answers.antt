use Rattle.std.proofs.Common.{◌≡◌, None, length, refl, subst, arith, rules}
use Rattle.rt_order.specs.declared.cut.Range.{Range}
use Rattle.rt_view.specs.inside.ChildChain.{halves_of}
use Rattle.rt_view.specs.inside.Ranged.{inside, outside}
use Rattle.rt_view.specs.inside.Windows.{Entries, IsWindow, rest_from, shown_from}
use Rattle.rt_view.proofs.MadeLaws.{made_within, parts_length}
use Rattle.rt_view.proofs.RangedLaws.{inner_of}
use Rattle.rt_view.proofs.window.OrderedChildren.of.Goals as goal

pub overflow_sub-len : goal.overflow_sub-len
overflow_sub-len c =
    let len : c.len.result ≡ length c.args.children.items = search rules in
    let from : Range = record { lower = c.in_ok-range.range.lower; upper = None } in
    let to : Range = record { lower = None; upper = c.in_ok-range.range.upper } in
    let same : c.deref.result.now ≡ c.args.children.items = search rules in
    let low = subst (λ (es : Entries). c.beside-low.result.0 ≡ length (outside from es)) same c.beside-low.ensures.low in
    let high = subst (λ (es : Entries). c.beside-low.result.1 ≡ length (outside to (inside from es))) same c.beside-low.ensures.high in
    omega (arith, low, high, len, parts_length from to refl refl c.args.children.items c.requires)

pub overflow_sub-len-2 : goal.overflow_sub-len-2
overflow_sub-len-2 c =
    let len : c.len.result ≡ length c.args.children.items = search rules in
    let from : Range = record { lower = c.in_ok-range.range.lower; upper = None } in
    let to : Range = record { lower = None; upper = c.in_ok-range.range.upper } in
    let same : c.deref.result.now ≡ c.args.children.items = search rules in
    let low = subst (λ (es : Entries). c.beside-low.result.0 ≡ length (outside from es)) same c.beside-low.ensures.low in
    let high = subst (λ (es : Entries). c.beside-low.result.1 ≡ length (outside to (inside from es))) same c.beside-low.ensures.high in
    omega (arith, low, high, len, parts_length from to refl refl c.args.children.items c.requires)

pub invariant_of-result : goal.invariant_of-result
invariant_of-result c =
    let len : c.len.result ≡ length c.args.children.items = search rules in
    let from : Range = record { lower = c.in_ok-range.range.lower; upper = None } in
    let to : Range = record { lower = None; upper = c.in_ok-range.range.upper } in
    let same : c.deref.result.now ≡ c.args.children.items = search rules in
    let low = subst (λ (es : Entries). c.beside-low.result.0 ≡ length (outside from es)) same c.beside-low.ensures.low in
    let high = subst (λ (es : Entries). c.beside-low.result.1 ≡ length (outside to (inside from es))) same c.beside-low.ensures.high in
    record {
      spread = (made_within from to refl refl c.args.children.items c.requires c.args.limit c.beside-low.result.0 c.beside-low.result.1 c.len.result c.cut_at.result low high len c.cut_at.ensures (halves_of c.in_ok-chain.chain) c.in_ok-chain.ensures.halves).0;
      marks = c.in_ok-chain.ensures.marks;
    }

pub returns-clause-cut : goal.returns-clause-cut
returns-clause-cut c =
    let len : c.len.result ≡ length c.args.children.items = search rules in
    let from : Range = record { lower = c.in_ok-range.range.lower; upper = None } in
    let to : Range = record { lower = None; upper = c.in_ok-range.range.upper } in
    let same : c.deref.result.now ≡ c.args.children.items = search rules in
    let low = subst (λ (es : Entries). c.beside-low.result.0 ≡ length (outside from es)) same c.beside-low.ensures.low in
    let high = subst (λ (es : Entries). c.beside-low.result.1 ≡ length (outside to (inside from es))) same c.beside-low.ensures.high in
    let halves = halves_of c.in_ok-chain.chain in
    let limit = c.args.limit in
    let es = c.args.children.items in
    subst (λ (r : Range). IsWindow limit (shown_from limit (inner_of from to halves)) (rest_from limit (inner_of from to halves)) (inside r es)) c.in_ok-range.ensures
    (made_within from to refl refl es c.requires limit c.beside-low.result.0 c.beside-low.result.1 c.len.result c.cut_at.result low high len c.cut_at.ensures halves c.in_ok-chain.ensures.halves).1
