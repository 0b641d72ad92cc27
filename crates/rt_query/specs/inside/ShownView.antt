-- What a view keeps.
use Rattle.std.specs.Prelude.{◌≡◌, List, [], Option, OnSome}
use Rattle.rt_tree.specs.Leaf.{LeafValue}
use Rattle.rt_tree.specs.PathTree.{PathTree}
use Rattle.rt_query.specs.declared.row.Row.{Row}
use Rattle.rt_query.specs.Rows.{HasDistinctKeys, HasNoNull}
use Rattle.rt_query.specs.Select.{tree_by}

-- each key once and no null; no rows beside a leaf; and the tree that it is
pub record IsShown (leaf : Option LeafValue) (rows : List Row) (tree : PathTree) : Type 0 where
  pub distinct : HasDistinctKeys rows
  pub full : HasNoNull rows
  pub alone : OnSome leaf (rows ≡ [])
  pub whole : tree ≡ tree_by leaf rows
