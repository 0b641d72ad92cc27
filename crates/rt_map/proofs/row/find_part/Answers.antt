use Rattle.std.proofs.Common.{◌≡◌, ◌∙◌, ap, sym, subst, arith, ◌<◌, ◌+◌, ◌-◌, ◌/◌, suc, length, drop, get_or, Less}
use Rattle.rt_map.specs.inside.Joined.{joined}
use Rattle.rt_map.specs.inside.Places.{AllAbove}
use Rattle.rt_map.proofs.Parts.{AllFilled-get_or, below_part, above_part, lt-is, lt-is_not}
use Rattle.rt_map.proofs.row.find_part.Goals as goal

pub first-requires : goal.first-requires
first-requires g c =
    let same : c.deref.result.now ≡ (get_or c.args.parts.now (c.loop-high.low + (c.loop-high.high - c.loop-high.low) / 2) c.index-parts-middle.result).value
    = c.deref.ensures ∙ ap (λ b. b.value) c.index-parts-middle.is in
    subst (λ p. 0 < length p) (sym same) (AllFilled-get_or c.args.parts.now (c.loop-high.low + (c.loop-high.high - c.loop-high.low) / 2) c.index-parts-middle.result (omega arith) c.requires.filled)

pub loop-high-preserved-then-is_lt : goal.loop-high-preserved-then-is_lt
loop-high-preserved-then-is_lt g c =
    let is : c.first.result.now ≡ get_or (get_or c.args.parts.now (c.loop-high.low + (c.loop-high.high - c.loop-high.low) / 2) c.index-parts-middle.result).value 0 c.first.result.now
    = c.first.ensures ∙ ap (λ p. get_or p 0 c.first.result.now) (c.deref.ensures ∙ ap (λ b. b.value) c.index-parts-middle.is) in
    let less : g.K.Ord.cmp c.args.key.now c.first.result.now.0 ≡ Less = sym c.cmp.ensures ∙ lt-is c.cmp.result (sym c.is_lt.ensures ∙ c.if-is_lt.true) in (
      omega arith,
      omega arith,
      c.loop-high.invariant.2,
      above_part g.met.K.Ord.total c.args.key.now c.args.parts.now (c.loop-high.low + (c.loop-high.high - c.loop-high.low) / 2) c.index-parts-middle.result (omega arith) c.requires.filled c.requires.sorted c.first.result.now is less,
    )

pub loop-high-preserved : goal.loop-high-preserved
loop-high-preserved g c =
    let is : c.first.result.now ≡ get_or (get_or c.args.parts.now (c.loop-high.low + (c.loop-high.high - c.loop-high.low) / 2) c.index-parts-middle.result).value 0 c.first.result.now
    = c.first.ensures ∙ ap (λ p. get_or p 0 c.first.result.now) (c.deref.ensures ∙ ap (λ b. b.value) c.index-parts-middle.is) in
    let not_less : g.K.Ord.cmp c.args.key.now c.first.result.now.0 ≡ Less → ⊥ = λ l. lt-is_not c.cmp.result (sym c.is_lt.ensures ∙ c.if-is_lt.false) (c.cmp.ensures ∙ l) in (
      omega arith,
      omega arith,
      below_part g.met.K.Ord.total c.args.key.now c.args.parts.now (c.loop-high.low + (c.loop-high.high - c.loop-high.low) / 2) c.index-parts-middle.result (omega arith) c.requires.filled c.requires.sorted c.first.result.now is not_less,
      c.loop-high.invariant.3,
    )

pub returns : goal.returns
returns g c =
    let last : c.loop-high.high ≡ suc c.loop-high.low = omega arith in
    record { within = omega arith; below = c.loop-high.invariant.2; above = subst (λ n. AllAbove g.K.Ord.cmp c.args.key.now (joined (drop n c.args.parts.now))) last c.loop-high.invariant.3 }
