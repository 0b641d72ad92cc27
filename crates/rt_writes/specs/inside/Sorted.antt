-- Entries in the order of their paths.
use Rattle.std.specs.Prelude.{◌≡◌, false, List}
use Rattle.std.specs.Borrow.{Bor}
use Rattle.std.specs.Ordering.{is_lt}
use Rattle.std.specs.List.{AllPairs}
use Rattle.rt_tree.specs.Leaves.{path_cmp}
use Rattle.rt_tree.specs.Assignments.{Assignment}

-- no entry's path comes before that of an earlier one
abbrev pub AreInOrder : List (Bor Assignment) → Type 0
AreInOrder es = AllPairs (λ a b. is_lt (path_cmp b.now.0 a.now.0) ≡ false) es
