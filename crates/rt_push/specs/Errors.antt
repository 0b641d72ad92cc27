-- The number and the name of each refusal.
use Rattle.std.specs.Prelude.{ℕ, List, codes}
use Rattle.rt_push.specs.declared.error.PushError.{PushError}
use Rattle.rt_push.specs.declared.error.PushError.TheVariants.{Exhausted, MomentTooLarge}
use Rattle.rt_push.specs.declared.error.PushError.TheVariants.{RandomOutOfRange}

-- the number of a refusal
abbrev pub code_of : PushError → ℕ
code_of Exhausted = 1
code_of MomentTooLarge = 2
code_of RandomOutOfRange = 3

-- the word that is printed for it
abbrev pub name_of : PushError → List ℕ
name_of Exhausted = codes "Exhausted"
name_of MomentTooLarge = codes "MomentTooLarge"
name_of RandomOutOfRange = codes "RandomOutOfRange"
