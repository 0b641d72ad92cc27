-- The number and the name of each refusal.
use Rattle.std.specs.Prelude.{ℕ, List, codes}
use Rattle.rt_writes.specs.declared.error.WriteError.{WriteError}
use Rattle.rt_writes.specs.declared.error.WriteError.TheVariants.{Overlap, EmptyUpdate, NoMemory}

-- the number of a refusal
abbrev pub code_of : WriteError → ℕ
code_of Overlap = 1
code_of EmptyUpdate = 2
code_of NoMemory = 3

-- the word that is printed for it
abbrev pub name_of : WriteError → List ℕ
name_of Overlap = codes "Overlap"
name_of EmptyUpdate = codes "EmptyUpdate"
name_of NoMemory = codes "NoMemory"
