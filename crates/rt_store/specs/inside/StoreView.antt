-- The tree and the rows that a store is seen as, and what its nodes keep.
use Rattle.std.specs.Prelude.{◌≡◌, ℕ, ◌+◌, List, [], ◌∷◌, Option, Some, None, is_some, true}
use Rattle.slab.specs.Slab.{get, slab_len}
use Rattle.rt_tree.specs.Leaf.{LeafValue}
use Rattle.rt_tree.specs.Allowed.{IsAllowed}
use Rattle.rt_store.specs.Rows.{Row}
use Rattle.rt_store.specs.Stored.{Stored}
use Rattle.rt_nodes.specs.Forest.{IsRow, row_at, one_if, size, times}
use Rattle.rt_store.specs.inside.Entries.{NodeSlot, Nodes, entries, tree_with, Filled}
use Rattle.rt_store.specs.declared.store.Store.TheInside.{Inside}

-- the row from each node on, from a number on
abbrev pub rows_from : Nodes → ℕ → List (Option NodeSlot) → List Row
rows_from s n [] = []
rows_from s n (o ∷ os) = entries (row_at s (Some n)) ∷ rows_from s (n + 1) os

abbrev pub stored : Inside → Stored
stored a = record {
  tree = tree_with a.leaf (entries (row_at a.nodes a.first));
  rows =
      rows_from a.nodes 0 a.nodes.slots;
}

-- a leaf has no children
abbrev pub IsTop : Option LeafValue → Option ℕ → Type 0
IsTop leaf o = is_some leaf ≡ true → o ≡ None

-- the nodes are a row and what stands below it, each node is reached once, and the tree is one that
-- the database may hold
pub record IsStore (a : Inside) : Type 0 where
  pub row : IsRow a.nodes a.first None None (row_at a.nodes a.first)
  pub filled : Filled (row_at a.nodes a.first)
  pub count : size (row_at a.nodes a.first) ≡ slab_len a.nodes
  pub once : (n : ℕ) → times n (row_at a.nodes a.first) ≡ one_if (is_some (get a.nodes n))
  pub top : IsTop a.leaf a.first
  pub allowed : IsAllowed (stored a).tree
