-- The tests of equality of indexes, cuts and ranges.
use Rattle.std.specs.Prelude.{Bool, true, false, ◌&&◌}
use Rattle.std.specs.Option.{option_eq}
use Rattle.rt_tree.specs.PathTree.{key_eq, path_eq}
use Rattle.rt_tree.specs.TreeEq.{leaf_eq}
use Rattle.rt_order.specs.declared.index.Index.{Index}
use Rattle.rt_order.specs.declared.index.Index.TheVariants.{Key, Child, Value}
use Rattle.rt_order.specs.declared.cut.Mark.{Mark}
use Rattle.rt_order.specs.declared.cut.Mark.TheVariants.{Null, Leaf}
use Rattle.rt_order.specs.declared.cut.Place.{Place}
use Rattle.rt_order.specs.declared.cut.Place.TheVariants.{Min, Before, After, Max}
use Rattle.rt_order.specs.declared.cut.Cut.{Cut}
use Rattle.rt_order.specs.declared.cut.Range.{Range}

-- whether two indexes are equal
abbrev pub index_eq : Index → Index → Bool
index_eq Key Key = true
index_eq (Child p) (Child q) = path_eq p q
index_eq Value Value = true
index_eq _ _ = false

-- whether two marks are equal
abbrev pub mark_eq : Mark → Mark → Bool
mark_eq Null Null = true
mark_eq (Leaf l) (Leaf n) = leaf_eq l n
mark_eq _ _ = false

-- whether two places are equal
abbrev pub place_eq : Place → Place → Bool
place_eq Min Min = true
place_eq (Before j) (Before k) = key_eq j k
place_eq (After j) (After k) = key_eq j k
place_eq Max Max = true
place_eq _ _ = false

-- whether two cuts are equal
abbrev pub cut_eq : Cut → Cut → Bool
cut_eq c d = mark_eq c.value d.value && place_eq c.place d.place

-- whether two ranges are equal
abbrev pub range_eq : Range → Range → Bool
range_eq r s = option_eq cut_eq r.lower s.lower && option_eq cut_eq r.upper s.upper
