-- The first refusal of a list, condition by condition.
use Rattle.std.proofs.Common.{◌≡◌, Bool, true, false, List, ◌∷◌, refl, sym, Some}
use mathlib.Core.Bool.{true≢false}
use Rattle.rt_world.specs.declared.error.CoreError.{CoreError}
use Rattle.rt_world.specs.laws.Refused.{first_of}

-- one that holds is the first
pub first_here : (b : Bool) (e : CoreError) (rest : List (Bool × CoreError)) → b ≡ true → Some e ≡ first_of ((b, e) ∷ rest)
first_here true e rest h = refl
first_here false e rest h = absurd (true≢false (sym h))

-- one that does not is passed over
pub first_later : (b : Bool) (e : CoreError) (rest : List (Bool × CoreError)) → b ≡ false → first_of rest ≡ first_of ((b, e) ∷ rest)
first_later true e rest h = absurd (true≢false h)
first_later false e rest h = refl
