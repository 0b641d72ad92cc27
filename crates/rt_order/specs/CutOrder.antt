-- The order of cuts: which of two bounds leaves out more of the entries.
use Rattle.std.specs.Prelude.{ℕ}
use Rattle.std.specs.declared.cmp.Ordering.{Ordering}
use Rattle.std.specs.declared.cmp.Ordering.TheVariants.{Less, Equal, Greater}
use Rattle.std.specs.Ordering.{ordering_then, nat_cmp}
use Rattle.rt_order.specs.declared.cut.Place.{Place}
use Rattle.rt_order.specs.declared.cut.Place.TheVariants.{Min, Before, After, Max}
use Rattle.rt_order.specs.declared.cut.Cut.{Cut}
use Rattle.rt_order.specs.KeyOrder.{key_cmp}
use Rattle.rt_order.specs.Values.{value_cmp}
use Rattle.rt_order.specs.Cuts.{mark_value}

-- before all keys, at a key, after all keys
abbrev pub place_rank : Place → ℕ
place_rank Min = 0
place_rank (Before k) = 1
place_rank (After k) = 1
place_rank Max = 2

-- places at keys go by key, and before a key comes before after it
abbrev pub at_key_cmp : Place → Place → Ordering
at_key_cmp (Before j) (Before k) = key_cmp j k
at_key_cmp (Before j) (After k) = ordering_then (key_cmp j k) Less
at_key_cmp (After j) (Before k) = ordering_then (key_cmp j k) Greater
at_key_cmp (After j) (After k) = key_cmp j k
at_key_cmp _ _ = Equal

-- the order of places among the entries of one value
abbrev pub place_cmp : Place → Place → Ordering
place_cmp p q = ordering_then (nat_cmp (place_rank p) (place_rank q)) (at_key_cmp p q)

-- the order of cuts: by value, then by place
abbrev pub cut_cmp : Cut → Cut → Ordering
cut_cmp c d =
    ordering_then (value_cmp (mark_value c.value) (mark_value d.value)) (place_cmp c.place d.place)
