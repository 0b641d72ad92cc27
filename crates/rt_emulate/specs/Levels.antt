-- Which lines an emulator says of itself.
use Rattle.std.specs.Prelude.{ℕ, List, Bool, true, false, if◌then◌else◌, Option, Some, None, codes}
use Rattle.std.specs.Str.{bytes_eq}
use Rattle.rt_emulate.specs.declared.settings.Kind.{Kind}
use Rattle.rt_emulate.specs.declared.settings.Kind.TheVariants as kind
use Rattle.rt_emulate.specs.declared.settings.Level.{Level}
use Rattle.rt_emulate.specs.declared.settings.Level.TheVariants.{All, Connections, Faults, Nothing}

-- the level of a word
abbrev pub level_of : List ℕ → Option Level
level_of word =
    if bytes_eq word (codes "all") then Some All
    else if bytes_eq word (codes "connections") then Some Connections
    else if bytes_eq word (codes "faults") then Some Faults
    else if bytes_eq word (codes "none") then Some Nothing
    else None

-- the word of a line: the least level at which it is said
abbrev pub word_of : Kind → List ℕ
word_of kind.Message = codes "all"
word_of kind.Connection = codes "connections"
word_of kind.Fault = codes "faults"

-- whether a line of that kind is said at a level
abbrev pub says : Level → Kind → Bool
says All kind.Message = true
says All kind.Connection = true
says All kind.Fault = true
says Connections kind.Message = false
says Connections kind.Connection = true
says Connections kind.Fault = true
says Faults kind.Message = false
says Faults kind.Connection = false
says Faults kind.Fault = true
says Nothing k = false
