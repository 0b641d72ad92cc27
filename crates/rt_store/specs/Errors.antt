-- The number and the name of each refusal.
use Rattle.std.specs.Prelude.{ℕ, List, codes}
use Rattle.rt_store.specs.declared.error.StoreError.{StoreError}
use Rattle.rt_store.specs.declared.error.StoreError.TheVariants.{TooDeep, NoMemory}

-- the number of a refusal
abbrev pub code_of : StoreError → ℕ
code_of TooDeep = 1
code_of NoMemory = 2

-- the word that is printed for it
abbrev pub name_of : StoreError → List ℕ
name_of TooDeep = codes "TooDeep"
name_of NoMemory = codes "NoMemory"
