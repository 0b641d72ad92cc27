-- How the nodes of a store change.
use Rattle.std.specs.Prelude.{◌&&◌, ℕ, Bool, true, false, cond, not, is_some, [], ◌∷◌, Option}
use Rattle.std.specs.Prelude.{None}
use Rattle.std.specs.FinMap.Entries.{by_order}
use Rattle.rt_tree.specs.PathTree.{Key, Path, PathTree, PutsBelow}
use Rattle.rt_order.specs.KeyOrder.{key_cmp}
use Rattle.rt_nodes.specs.Forest.{bare, node, IsRow, row_at}
use Rattle.rt_nodes.specs.Changes.{Changed, Grown}
use Rattle.rt_store.specs.inside.Entries.{Nodes, Trees, entries, Filled}

abbrev pub is_bare : Trees → Bool
is_bare bare = true
is_bare (node n key leaf below behind) = false

-- what is left of a row, where what stands at the path was taken out, and each node that was left
-- without children
abbrev pub cleared : Key → Path → Trees → Trees
cleared k p bare = bare
cleared k [] (node n key leaf below behind) =
    by_order (key_cmp k key) (node n key leaf below behind) behind
    (node n key leaf below (cleared k [] behind))
cleared k (j ∷ p) (node n key leaf below behind) =
    by_order (key_cmp k key) (node n key leaf below behind)
    (cond (not (is_some leaf) && is_bare (cleared j p below)) behind
    (node n key leaf (cleared j p below) behind))
    (node n key leaf below (cleared k (j ∷ p) behind))

-- nodes that were vacant became a row of trees, which nothing else leads to
pub record IsGrown (old new : Nodes) (o parent : Option ℕ) : Type 0 where
  pub grown : Grown old new o parent
  pub filled : Filled (row_at new o)

-- a row became one with a tree put at the path
pub record IsPut (old new : Nodes) (o r parent : Option ℕ) (k : Key) (p : Path)
    (t : PathTree) : Type 0 where
  pub row : IsRow new r parent None (row_at new r)
  pub filled : Filled (row_at new r)
  pub changed : Changed old new (row_at old o) (row_at new r)
  pub puts : PutsBelow (entries (row_at old o)) (entries (row_at new r)) k p t
