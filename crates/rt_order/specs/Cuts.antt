-- Places between entries, and the entries between two of them.
use Rattle.std.specs.Prelude.{◌≡◌, Bool, true, false, ◌&&◌, not}
use Rattle.std.specs.declared.cmp.Ordering.{Ordering}
use Rattle.std.specs.declared.cmp.Ordering.TheVariants.{Less, Equal, Greater}
use Rattle.std.specs.Option.{option_map_or}
use Rattle.std.specs.Ordering.{is_lt, is_le}
use Rattle.rt_tree.specs.PathTree.{Key}
use Rattle.rt_order.specs.declared.cut.Mark.{Mark}
use Rattle.rt_order.specs.declared.cut.Mark.TheVariants as mark
use Rattle.rt_order.specs.declared.cut.Place.{Place}
use Rattle.rt_order.specs.declared.cut.Place.TheVariants.{Min, Before, After, Max}
use Rattle.rt_order.specs.declared.cut.Cut.{Cut}
use Rattle.rt_order.specs.declared.cut.Range.{Range}
use Rattle.rt_order.specs.KeyOrder.{key_cmp}
use Rattle.rt_order.specs.Values.{SortValue, Null, Plain, value_cmp}
use Rattle.rt_order.specs.Entries.{Entry, entry_cmp}

-- the sort value of a cut
abbrev pub mark_value : Mark → SortValue
mark_value mark.Null = Null
mark_value (mark.Leaf l) = Plain l

-- whether a key lies after the place
abbrev pub is_past : Place → Key → Bool
is_past Min k = true
is_past (Before j) k = is_le (key_cmp j k)
is_past (After j) k = is_lt (key_cmp j k)
is_past Max k = false

-- whether an entry lies after the cut, by how the cut's value compares to the entry's
abbrev pub is_after_by : Ordering → Place → Key → Bool
is_after_by Less place k = true
is_after_by Equal place k = is_past place k
is_after_by Greater place k = false

-- whether an entry lies after the cut
abbrev pub is_after : Cut → Entry → Bool
is_after cut e = is_after_by (value_cmp (mark_value cut.value) e.0) cut.place e.1

-- whether an entry lies after the lower and before the upper cut; an absent cut bounds nothing
abbrev pub has : Range → Entry → Bool
has range e =
    option_map_or (λ cut. is_after cut e) range.lower true
    && option_map_or (λ cut. not (is_after cut e)) range.upper true
