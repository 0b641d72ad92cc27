-- The number and the name of each refusal.
use Rattle.std.specs.Prelude.{ℕ, List, codes}
use Rattle.rt_query.specs.declared.error.QueryError.{QueryError}
use Rattle.rt_query.specs.declared.error.QueryError.TheVariants.{OrderTwice, StartTwice, EndTwice}
use Rattle.rt_query.specs.declared.error.QueryError.TheVariants.{LimitTwice, LimitZero, NeedsText}
use Rattle.rt_query.specs.declared.error.QueryError.TheVariants.{KeyNotAllowed, NoOrder}
use Rattle.rt_query.specs.declared.error.QueryError.TheVariants.{BadBoundKey, NoMemory}

-- the number of a refusal
abbrev pub code_of : QueryError → ℕ
code_of OrderTwice = 1
code_of StartTwice = 2
code_of EndTwice = 3
code_of LimitTwice = 4
code_of LimitZero = 5
code_of NeedsText = 6
code_of KeyNotAllowed = 7
code_of NoOrder = 8
code_of BadBoundKey = 9
code_of NoMemory = 10

-- the word that is printed for it
abbrev pub name_of : QueryError → List ℕ
name_of OrderTwice = codes "OrderTwice"
name_of StartTwice = codes "StartTwice"
name_of EndTwice = codes "EndTwice"
name_of LimitTwice = codes "LimitTwice"
name_of LimitZero = codes "LimitZero"
name_of NeedsText = codes "NeedsText"
name_of KeyNotAllowed = codes "KeyNotAllowed"
name_of NoOrder = codes "NoOrder"
name_of BadBoundKey = codes "BadBoundKey"
name_of NoMemory = codes "NoMemory"
