use Rattle.std.proofs.Common.{◌≡◌, ◌-◌, ◌+◌, None, Some, arith, rules, subst, ℕ, Option}
use Rattle.rt_view.specs.inside.ChildChain.{Backs}
use Rattle.rt_view.proofs.KnownLaws.{back_begins, back_done, back_more, back_on}
use Rattle.rt_view.proofs.window.slot_back.Goals as goal

pub loop-left-init : goal.loop-left-init
loop-left-init c =
    let none : 0 ≡ c.args.number - c.args.number = omega arith in
    (omega arith, subst (λ (n : ℕ). Backs c.args.chain.now.front n None c.last_front-previous.result) none (back_begins c.args.chain.now.front c.last_front-previous.result c.last_front-previous.ensures))

pub loop-left-preserved : goal.loop-left-preserved
loop-left-preserved c =
    let n = c.args.number - c.loop-left.left in
    let is : c.loop-left.previous ≡ Some c.in-Some.here = search rules in
    let more = back_more c.args.chain.now n c.loop-left.slot c.loop-left.previous c.previous-previous.result c.in-Some.here c.loop-left.invariant.1 is c.previous-previous.ensures.value in
    let next : n + 1 ≡ c.args.number - (c.loop-left.left - 1) = omega (arith, c.loop-left.invariant.0, c.loop-left-test.true) in (
      omega (arith, c.loop-left.invariant.0),
      subst (λ (o : Option ℕ). Backs c.args.chain.now.front (c.args.number - (c.loop-left.left - 1)) o c.previous-previous.result) is
          (subst (λ (m : ℕ). Backs c.args.chain.now.front m c.loop-left.previous c.previous-previous.result) next more),
    )

pub returns : goal.returns
returns c =
    let all : c.args.number - c.loop-left.left ≡ c.args.number = omega (arith, c.loop-left-test.false) in
    back_done c.args.chain.now.front c.args.number c.loop-left.slot c.loop-left.previous (subst (λ (m : ℕ). Backs c.args.chain.now.front m c.loop-left.slot c.loop-left.previous) all c.loop-left.invariant.1)

pub returns-in_default : goal.returns-in_default
returns-in_default c =
    let none : c.loop-left.previous ≡ None = search rules in
    absurd (back_on c.args.chain.now.front (c.args.number - c.loop-left.left) c.loop-left.slot c.loop-left.previous c.loop-left.invariant.1 (omega (arith, c.requires, c.loop-left.invariant.0, c.loop-left-test.true)) none)
