-- What a tree of forms keeps.
use Rattle.std.specs.Prelude.{◌≡◌, ℕ, List, [], None, is_some}
use Rattle.slab.specs.Slab.{get, slab_len}
use Rattle.rt_tree.specs.PathTree.{Path}
use Rattle.rt_nodes.specs.Forest.{IsRow, row_at, one_if, size, times}
use Rattle.rt_forms.specs.Forms.{Forms}
use Rattle.rt_forms.specs.inside.Trees.{Good, IsStanding, all_at}

-- the nodes are a row and what stands below it, each node is reached once, and each keeps its count
pub record IsForms (a : Forms) : Type 0 where
  pub row : IsRow a.nodes a.first None None (row_at a.nodes a.first)
  pub nodes : size (row_at a.nodes a.first) ≡ slab_len a.nodes
  pub once : (n : ℕ) → times n (row_at a.nodes a.first) ≡ one_if (is_some (get a.nodes n))
  pub top : IsStanding [] a.top (row_at a.nodes a.first)
  pub good : Good [] (row_at a.nodes a.first)

-- the numbers of all listeners at and under a path
abbrev pub all_under : Forms → Path → List ℕ
all_under a p = all_at p a.top (row_at a.nodes a.first)
