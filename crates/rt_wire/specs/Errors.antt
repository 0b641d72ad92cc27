-- The number and the name of each refusal.
use Rattle.std.specs.Prelude.{ℕ, List, codes}
use Rattle.rt_wire.specs.declared.error.WireError.{WireError}
use Rattle.rt_wire.specs.declared.error.WireError.TheVariants.{NotJson, UnknownKind, BadField}
use Rattle.rt_wire.specs.declared.error.WireError.TheVariants.{BadTree, NoMemory}

-- the number of a refusal
abbrev pub code_of : WireError → ℕ
code_of NotJson = 1
code_of UnknownKind = 2
code_of BadField = 3
code_of BadTree = 4
code_of NoMemory = 5

-- the word that is printed for it
abbrev pub name_of : WireError → List ℕ
name_of NotJson = codes "NotJson"
name_of UnknownKind = codes "UnknownKind"
name_of BadField = codes "BadField"
name_of BadTree = codes "BadTree"
name_of NoMemory = codes "NoMemory"
