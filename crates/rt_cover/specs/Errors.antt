-- The number and the name of each refusal.
use Rattle.std.specs.Prelude.{ℕ, List, codes}
use Rattle.rt_cover.specs.declared.error.CoverError.{CoverError}
use Rattle.rt_cover.specs.declared.error.CoverError.TheVariants.{UnknownListener, UnknownTag}
use Rattle.rt_cover.specs.declared.error.CoverError.TheVariants.{NoTag, NoMemory}

-- the number of a refusal
abbrev pub code_of : CoverError → ℕ
code_of UnknownListener = 1
code_of UnknownTag = 2
code_of NoTag = 3
code_of NoMemory = 4

-- the word that is printed for it
abbrev pub name_of : CoverError → List ℕ
name_of UnknownListener = codes "UnknownListener"
name_of UnknownTag = codes "UnknownTag"
name_of NoTag = codes "NoTag"
name_of NoMemory = codes "NoMemory"
