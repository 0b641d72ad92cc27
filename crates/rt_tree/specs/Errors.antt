-- The number and the name of each refusal.
use Rattle.std.specs.Prelude.{ℕ, List, codes}
use Rattle.rt_tree.specs.declared.error.TreeError.{TreeError}
use Rattle.rt_tree.specs.declared.error.TreeError.TheVariants.{BadKey, KeyTooLong, TooDeep}
use Rattle.rt_tree.specs.declared.error.TreeError.TheVariants.{NotWhole, TextTooLong, TooManyNodes}
use Rattle.rt_tree.specs.declared.error.TreeError.TheVariants.{NotJson, NoMemory}

-- the number of a refusal
abbrev pub code_of : TreeError → ℕ
code_of BadKey = 1
code_of KeyTooLong = 2
code_of TooDeep = 3
code_of NotWhole = 4
code_of TextTooLong = 5
code_of TooManyNodes = 6
code_of NotJson = 7
code_of NoMemory = 8

-- the word that is printed for it
abbrev pub name_of : TreeError → List ℕ
name_of BadKey = codes "BadKey"
name_of KeyTooLong = codes "KeyTooLong"
name_of TooDeep = codes "TooDeep"
name_of NotWhole = codes "NotWhole"
name_of TextTooLong = codes "TextTooLong"
name_of TooManyNodes = codes "TooManyNodes"
name_of NotJson = codes "NotJson"
name_of NoMemory = codes "NoMemory"
