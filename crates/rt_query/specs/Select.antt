-- What a query shows of a tree.
use Rattle.std.specs.Prelude.{◌-◌, if◌then◌else◌, List, [], ◌∷◌, map, length, take, drop, Option}
use Rattle.std.specs.Prelude.{Some, None}
use Rattle.std.specs.List.{filter}
use Rattle.std.specs.FinMap as map_of
use Rattle.rt_tree.specs.Leaf.{LeafValue}
use Rattle.rt_tree.specs.PathTree.{Key, PathTree, of_leaf, leaf_of, object}
use Rattle.rt_tree.specs.Children.{children_of}
use Rattle.rt_order.specs.declared.index.Index.{Index}
use Rattle.rt_order.specs.Entries.{Entry, entry, entry_cmp}
use Rattle.rt_order.specs.Cuts.{has}
use Rattle.rt_query.specs.declared.query.Limit.{Limit}
use Rattle.rt_query.specs.declared.query.Limit.TheVariants.{First, Last}
use Rattle.rt_query.specs.declared.row.Row.{Row}
use Rattle.rt_query.specs.Queries.{Query, is_filtered}

-- a leaf, or rows in order
pub record Shown : Type 0 where
  pub leaf : Option LeafValue
  pub rows : List Row

-- the children by their entries, which rise
abbrev pub sorted_by : Index → List (Key × PathTree) → List (Entry × PathTree)
sorted_by index [] = []
sorted_by index (c ∷ cs) = map_of.put entry_cmp (entry index c) c.1 (sorted_by index cs)

-- the first n, or the last n
abbrev pub limited : {X : Type 0} → Option Limit → List X → List X
limited None xs = xs
limited (Some (First n)) xs = take n xs
limited (Some (Last n)) xs = drop (length xs - n) xs

-- a child as a row
abbrev pub row_of : Entry × PathTree → Row
row_of e = record { key = e.0.1; value = e.1 }

-- the children in the range, in order, and of these the first or the last
abbrev pub rows_of : Query → List (Key × PathTree) → List Row
rows_of q cs = map row_of (limited q.limit (filter (λ e. has q.range e.0) (sorted_by q.index cs)))

-- what the query shows of a tree: of a leaf no rows, and the leaf itself only if it is unfiltered
abbrev pub select : Query → PathTree → Shown
select q t = record {
  leaf = if is_filtered q then None else leaf_of t;
  rows = rows_of q (children_of t);
}

-- the rows as children
abbrev pub as_children : List Row → List (Key × PathTree)
as_children rows = map (λ r. (r.key, r.value)) rows

-- what is shown, as a tree
abbrev pub tree_by : Option LeafValue → List Row → PathTree
tree_by (Some l) rows = of_leaf l
tree_by None rows = object (as_children rows)

-- the leaf, or the object of the rows
abbrev pub tree_of : Shown → PathTree
tree_of shown = tree_by shown.leaf shown.rows
