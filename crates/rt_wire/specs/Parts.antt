-- Parts of a push, each on its own listen.
use Rattle.std.specs.Prelude.{ℕ, List}
use Rattle.rt_tree.specs.Assignments.{Assignment}

-- a part: the tag of its listen, and the entries
abbrev pub Part : Type 0
Part = ℕ × List Assignment
