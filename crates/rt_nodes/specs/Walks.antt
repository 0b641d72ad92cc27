-- Where keys and paths lead from a row.
use Rattle.std.specs.Prelude.{[], ◌∷◌, ℕ, Option, Some, None}
use Rattle.std.specs.FinMap.Entries.{by_order}
use Rattle.slab.specs.Slab.{Slab}
use Rattle.rt_tree.specs.PathTree.{Key, Path}
use Rattle.rt_order.specs.KeyOrder.{key_cmp}
use Rattle.rt_nodes.specs.Forest.{Forest, bare, node, IsRow, row_at}
use Rattle.rt_nodes.specs.declared.nodes.Slot.{Slot}
use Rattle.rt_nodes.specs.declared.nodes.SeekResult.{SeekResult}
use Rattle.rt_nodes.specs.declared.nodes.SeekResult.TheVariants.{Here, Gap}

module _ {X : Type 0} where
  -- there is a row from this node on
  abbrev pub IsPlace : Slab (Slot X) → Option ℕ → Type 0
  IsPlace s o = (parent : Option ℕ) × (previous : Option ℕ) × IsRow s o parent previous (row_at s o)

  -- where a key stands in a row, behind this sibling, or between which two it would
  abbrev pub spot_in : Key → Option ℕ → Forest X → SeekResult
  spot_in k previous bare = Gap previous None
  spot_in k previous (node n key value below behind) = by_order (key_cmp k key) (Gap previous (Some n))
      (Here n) (spot_in k (Some n) behind)

  -- the node of a key in a row
  abbrev pub index_in : Key → Forest X → Option ℕ
  index_in k bare = None
  index_in k (node n key value below behind) = by_order (key_cmp k key) None (Some n) (index_in k behind)

  -- the node at a path below a row
  abbrev pub place_in : Key → Path → Forest X → Option ℕ
  place_in k p bare = None
  place_in k [] (node n key value below behind) =
      by_order (key_cmp k key) None (Some n) (place_in k [] behind)
  place_in k (j ∷ p) (node n key value below behind) =
      by_order (key_cmp k key) None (place_in j p below) (place_in k (j ∷ p) behind)
