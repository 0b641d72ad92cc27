-- The number and the word of each refusal.
use Rattle.std.specs.Prelude.{ℕ, List, codes}
use Rattle.rt_view.specs.declared.view.ViewError.{ViewError}
use Rattle.rt_view.specs.declared.view.ViewError.TheVariants.{Failed, NoMemory}

-- the number of a refusal
abbrev pub code_of : ViewError → ℕ
code_of Failed = 1
code_of NoMemory = 2

-- the word of a refusal
abbrev pub name_of : ViewError → List ℕ
name_of Failed = codes "Failed"
name_of NoMemory = codes "NoMemory"
