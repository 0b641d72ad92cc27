-- The number and the name of each error.
use Rattle.std.specs.Prelude.{ℕ, List, codes}
use Rattle.rt_input.specs.declared.fault.ConsoleError.{ConsoleError}
use Rattle.rt_input.specs.declared.fault.ConsoleError.TheVariants.{ReadFault, WriteFault}
use Rattle.rt_input.specs.declared.fault.ConsoleError.TheVariants.{BadWords, NoMemory}

-- the number of an error
abbrev pub code_of : ConsoleError → ℕ
code_of ReadFault = 1
code_of WriteFault = 2
code_of BadWords = 3
code_of NoMemory = 4

-- the name of an error
abbrev pub name_of : ConsoleError → List ℕ
name_of ReadFault = codes "ReadFault"
name_of WriteFault = codes "WriteFault"
name_of BadWords = codes "BadWords"
name_of NoMemory = codes "NoMemory"
