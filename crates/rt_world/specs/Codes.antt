-- The number and the word of each refusal.
use Rattle.std.specs.Prelude.{ℕ, List, codes}
use Rattle.rt_world.specs.declared.error.CoreError.{CoreError}
use Rattle.rt_world.specs.declared.error.CoreError.TheVariants.{Failed, UnknownListener}
use Rattle.rt_world.specs.declared.error.CoreError.TheVariants.{TooManyListeners, TooManyRequests}
use Rattle.rt_world.specs.declared.error.CoreError.TheVariants.{Overlap, EmptyUpdate, TooDeep}
use Rattle.rt_world.specs.declared.error.CoreError.TheVariants.{BadPush, AlreadyConnected}
use Rattle.rt_world.specs.declared.error.CoreError.TheVariants.{NotConnected, NoMemory}

-- the number of a refusal
abbrev pub code_of : CoreError → ℕ
code_of Failed = 1
code_of UnknownListener = 2
code_of TooManyListeners = 3
code_of TooManyRequests = 4
code_of Overlap = 5
code_of EmptyUpdate = 6
code_of TooDeep = 7
code_of BadPush = 8
code_of AlreadyConnected = 9
code_of NotConnected = 10
code_of NoMemory = 11

-- the word of a refusal
abbrev pub name_of : CoreError → List ℕ
name_of Failed = codes "Failed"
name_of UnknownListener = codes "UnknownListener"
name_of TooManyListeners = codes "TooManyListeners"
name_of TooManyRequests = codes "TooManyRequests"
name_of Overlap = codes "Overlap"
name_of EmptyUpdate = codes "EmptyUpdate"
name_of TooDeep = codes "TooDeep"
name_of BadPush = codes "BadPush"
name_of AlreadyConnected = codes "AlreadyConnected"
name_of NotConnected = codes "NotConnected"
name_of NoMemory = codes "NoMemory"
