use Rattle.std.proofs.Common.{inl, inr, refl, arith}
use Rattle.rt_sync.specs.laws.Counting.{NotThrownAway}
use Rattle.rt_sync.proofs.runs.counting_law.Goals as goal

not_thrown : NotThrownAway
not_thrown v (inl g) = absurd (omega (arith, g.1))
not_thrown v (inr g) = absurd (omega (arith, g.1))

pub returns-clause-one : goal.returns-clause-one
returns-clause-one c = λ v k. inr (refl, refl)

pub returns-clause-anew : goal.returns-clause-anew
returns-clause-anew c = not_thrown
