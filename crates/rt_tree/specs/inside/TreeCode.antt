-- A tree is told by its leaves alone, and so it has a code.
use Rattle.std.specs.Prelude.{◌≡◌}
use lib.Dec.{T, T_prop}
use base.Stored.{Coded, coded_ℕ, coded_list, coded×, coded_via}
use mathlib.Core.HLevel.{Σ_prop_path}
use Rattle.rt_tree.specs.Leaves.{Leaves, is_fine}
use Rattle.rt_tree.specs.Trees.{PathTree}
use Rattle.rt_tree.specs.inside.LeafCode.{leaf_code}

pub same_leaves : (t u : PathTree) → t.leaves ≡ u.leaves → t ≡ u
same_leaves t u e =
    let pairs : ◌≡◌ {A = (m : Leaves) × T (is_fine m)} (t.leaves, t.fine) (
      u.leaves,
      u.fine,
    ) = Σ_prop_path (λ m. T_prop _) e in
    λ i. record { leaves = (pairs i).0; fine = (pairs i).1 }

abbrev pub tree_code : Coded PathTree
tree_code =
    coded_via (coded_list (coded× (coded_list (coded_list coded_ℕ)) leaf_code))
    (λ t. t.leaves) same_leaves
