-- The number and the name of each error.
use Rattle.std.specs.Prelude.{ℕ, List, codes}
use Rattle.rt_serve.specs.declared.serve.ServeError.{ServeError}
use Rattle.rt_serve.specs.declared.serve.ServeError.TheVariants.{Failed, NoMemory}

-- the number of an error
abbrev pub code_of : ServeError → ℕ
code_of Failed = 1
code_of NoMemory = 2

-- the word that is printed for it
abbrev pub name_of : ServeError → List ℕ
name_of Failed = codes "Failed"
name_of NoMemory = codes "NoMemory"
