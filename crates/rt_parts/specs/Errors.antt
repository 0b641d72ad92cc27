-- The number and the word of each error.
use Rattle.std.specs.Prelude.{ℕ, List, codes}
use Rattle.rt_parts.specs.declared.error.ShownError.{ShownError}
use Rattle.rt_parts.specs.declared.error.ShownError.TheVariants.{NoListener, NoMemory}

-- the number of an error
abbrev pub code_of : ShownError → ℕ
code_of NoListener = 1
code_of NoMemory = 2

-- the word of an error
abbrev pub name_of : ShownError → List ℕ
name_of NoListener = codes "NoListener"
name_of NoMemory = codes "NoMemory"
