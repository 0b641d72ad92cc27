-- Keys that paths have in common.
use Rattle.std.specs.Prelude.{ℕ, zero, suc, Bool, true, false, ◌&&◌, [], ◌∷◌}
use Rattle.rt_tree.specs.PathTree.{Path, key_eq}

-- whether both paths have n keys at least, and the first n are the same
abbrev pub do_share : ℕ → Path → Path → Bool
do_share zero p q = true
do_share (suc n) [] q = false
do_share (suc n) (k ∷ p) [] = false
do_share (suc n) (k ∷ p) (j ∷ q) = key_eq k j && do_share n p q
