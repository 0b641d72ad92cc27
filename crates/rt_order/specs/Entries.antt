-- What a child is sorted by, and the order of entries.
use Rattle.std.specs.Prelude.{◌≡◌, if◌then◌else◌}
use Rattle.std.specs.declared.cmp.Ordering.{Ordering}
use Rattle.std.specs.Option.{option_map_or}
use Rattle.std.specs.Ordering.{ordering_then}
use Rattle.rt_tree.specs.PathTree.{PathTree, leaf_of, is_null, sub}
use Rattle.rt_tree.specs.PathTree as tree
use Rattle.rt_order.specs.declared.index.Index.{Index}
use Rattle.rt_order.specs.declared.index.Index.TheVariants.{Key, Child, Value}
use Rattle.rt_order.specs.KeyOrder.{key_cmp}
use Rattle.rt_order.specs.Values.{SortValue, Null, Plain, Object, value_cmp}

-- the sort value of a whole tree
abbrev pub own_sort_value : PathTree → SortValue
own_sort_value t = option_map_or Plain (leaf_of t) (if is_null t then Null else Object)

-- the sort value of a child: null in key order, its own in value order, that of its part at the
-- path in child order
abbrev pub sort_value : Index → PathTree → SortValue
sort_value Key t = Null
sort_value (Child p) t = own_sort_value (sub t p)
sort_value Value t = own_sort_value t

-- an entry is a sort value and a key
abbrev pub Entry : Type 0
Entry = SortValue × tree.Key

-- the entry of a child
abbrev pub entry : Index → tree.Key × PathTree → Entry
entry index c = (sort_value index c.1, c.0)

-- by sort value, then by key
abbrev pub entry_cmp : Entry → Entry → Ordering
entry_cmp d e = ordering_then (value_cmp d.0 e.0) (key_cmp d.1 e.1)
