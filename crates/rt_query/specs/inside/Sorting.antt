-- The children in a range, and how they are seen.
use Rattle.std.specs.Prelude.{List, map}
use Rattle.std.specs.List.{filter}
use Rattle.std.specs.declared.cmp.Ordering.{Ordering}
use Rattle.rt_tree.specs.PathTree.{Key, PathTree}
use Rattle.rt_order.specs.declared.index.Index.{Index}
use Rattle.rt_order.specs.Entries.{Entry, entry, entry_cmp}
use Rattle.rt_order.specs.Cuts.{has}
use Rattle.rt_order.specs.SortRef.{value_of}
use Rattle.rt_query.specs.declared.row.Child.{Child}
use Rattle.rt_query.specs.declared.row.Row.{Row}
use Rattle.rt_query.specs.Queries.{Query}

-- a child as a row
abbrev pub child_row : Key × PathTree → Row
child_row c = record { key = c.0; value = c.1 }

-- a child by its entry
abbrev pub by_entry : Index → Key × PathTree → Entry × PathTree
by_entry index c = (entry index c, c.1)

-- the children in the query's range, by their entries, in the order that they have
abbrev pub in_range : Query → List (Key × PathTree) → List (Entry × PathTree)
in_range q cs = map (by_entry q.index) (filter (λ c. has q.range (entry q.index c)) cs)

-- a borrowed child by its entry
abbrev pub seen : Child → Entry × PathTree
seen c = ((value_of c.rank, c.key), c.tree.now)

-- by their entries
unfoldable pub child_cmp : Child → Child → Ordering
child_cmp a b = entry_cmp ((seen a).0) ((seen b).0)
