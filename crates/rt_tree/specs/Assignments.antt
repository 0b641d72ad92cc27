-- Paths at, above and below one another, and trees that are set at paths.
use Rattle.std.specs.Prelude.{Bool, false, ◌||◌, List, [], ◌∷◌, is_some}
use Rattle.std.specs.List.{list_any}
use Rattle.rt_tree.specs.Leaves.{Path, strip}
use Rattle.rt_tree.specs.Trees.{PathTree}

-- whether p is a prefix of q, equal paths included
abbrev pub is_at_or_above : Path → Path → Bool
is_at_or_above p q = is_some (strip p q)

-- whether one of the two is at or above the other
abbrev pub do_overlap : Path → Path → Bool
do_overlap p q = is_at_or_above p q || is_at_or_above q p

-- a tree set at a path: an entry of a write or of a push
abbrev pub Assignment : Type 0
Assignment = Path × PathTree

-- whether of two entries one is at or above the other
abbrev pub have_overlap : List Assignment → Bool
have_overlap [] = false
have_overlap (a ∷ rest) = list_any (λ b. do_overlap a.0 b.0) rest || have_overlap rest
