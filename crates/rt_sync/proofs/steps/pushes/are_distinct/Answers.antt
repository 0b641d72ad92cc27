use Rattle.std.proofs.Common.{◌≡◌, ℕ, ◌-◌, ◌<◌, ◌==◌, false, refl, arith}
use Rattle.std.proofs.lemmas.Bool.Decides.{nat_tests}
use Rattle.std.proofs.lemmas.List.Kept.{AllPairs-from_increasing}
use Rattle.std.proofs.lemmas.Map.Keys.{IsDistinct-from_apart, apart_from_distinct}
use Rattle.rt_sync.proofs.steps.pushes.are_distinct.Goals as goal

below_other : (m n : ℕ) → m < n → (m == n) ≡ false
below_other m n h = grind (arith, nat_tests)

pub returns-then-tags-later : goal.returns-then-tags-later
returns-then-tags-later c = (
  λ never. absurd (cc),
  λ h. let differ = apart_from_distinct (λ m n. m == n) c.args.tags.now (c.loop-later.later - 1)
      c.loop-later.later 0 h (omega arith) c.loop-later-test.true in grind (arith, nat_tests),
)

pub returns : goal.returns
returns c = (
  λ _. IsDistinct-from_apart (λ m n. m == n) c.args.tags.now
      (λ i j d lt within. below_other _ _ (AllPairs-from_increasing c.args.tags.now
      (λ k le. c.loop-later.invariant k (omega arith)) i j d lt within)),
  λ _. refl,
)
