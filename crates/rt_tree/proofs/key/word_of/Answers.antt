use Rattle.std.proofs.Common.{◌≡◌, ◌∙◌, refl, sym, subst, ℕ, suc, ◌<◌, ◌+◌, ◌*◌, ◌-◌, ◌^◌, List, drop, get_or, arith}
use Rattle.rt_tree.specs.inside.KeyWords.{IsPacked}
use Rattle.rt_tree.proofs.KeyWords.{packed-step, word_grows, word_fits}
use Rattle.rt_tree.proofs.key.word_of.Goals as goal

pub overflow_mul-word : goal.overflow_mul-word
overflow_mul-word c =
    let below : c.loop-at.at < 8 = c.loop-at-test.true in
    let room : c.loop-at.word * 256 + 0 < 18446744073709551616 = word_fits c.loop-at.at c.loop-at.word 0 below c.loop-at.invariant.1 (omega arith) in
    omega (arith, room)

pub overflow_add-word : goal.overflow_add-word
overflow_add-word c =
    let below : c.loop-at.at < 8 = c.loop-at-test.true in
    let byte : c.from.result < 256 = omega (arith, c.from.ensures) in
    omega (arith, word_fits c.loop-at.at c.loop-at.word c.from.result below c.loop-at.invariant.1 byte)

pub loop-at-preserved : goal.loop-at-preserved
loop-at-preserved c =
    let text : List ℕ = c.args.text.now in
    let at : ℕ = c.loop-at.at in
    let word : ℕ = c.loop-at.word in
    let below : at < 8 = c.loop-at-test.true in
    let byte : c.from.result < 256 = omega (arith, c.from.ensures) in
    let is : c.from.result ≡ get_or text at 0 = c.from.ensures ∙ c.byte_at.ensures in
    let next : at + 1 ≡ suc at = omega arith in
    let left : 8 - at ≡ suc (8 - (at + 1)) = omega (arith, below) in (
      omega (arith, below),
      subst (λ k. word * 256 + c.from.result < 256 ^ k) (sym next) (word_grows at word c.from.result c.loop-at.invariant.1 byte),
      λ w p. c.loop-at.invariant.2 w (subst (λ n. IsPacked word n (drop at text) w) (sym left)
          (packed-step text at (8 - (at + 1)) word w (subst (λ b. b < 256) is byte)
          (subst (λ b. IsPacked (word * 256 + b) (8 - (at + 1)) (drop (suc at) text) w) is
          (subst (λ k. IsPacked (word * 256 + c.from.result) (8 - (at + 1)) (drop k text) w) next p)))),
    )

pub returns : goal.returns
returns c =
    let done : c.loop-at.at ≡ 8 = omega (arith, c.loop-at-test.false, c.loop-at.invariant.0) in
    let none : 8 - c.loop-at.at ≡ 0 = omega (arith, done) in
    c.loop-at.invariant.2 c.loop-at.word (subst (λ n. IsPacked c.loop-at.word n (drop c.loop-at.at c.args.text.now) c.loop-at.word) (sym none) refl)

pub loop-at-init : goal.loop-at-init
loop-at-init c = (omega arith, omega arith, λ w p. p)
