-- Outside examples, which the prover computes.
use Rattle.std.specs.Prelude.{◌≡◌, Bool, true, false, ◌&&◌, List, [], ◌∷◌, map, pos, negsuc, Option}
use Rattle.std.specs.Prelude.{Some, None, codes}
use Rattle.std.specs.declared.cmp.Ordering.{Ordering}
use Rattle.std.specs.Ordering.{is_lt}
use Rattle.std.specs.List.{filter}
use Rattle.rt_tree.specs.Leaf.{truth, number, text}
use Rattle.rt_tree.specs.PathTree.{PathTree, null, of_leaf, object}
use Rattle.rt_tree.specs.PathTree as tree
use Rattle.rt_order.specs.declared.index.Index.TheVariants.{Child}
use Rattle.rt_order.specs.declared.cut.Mark.{Mark}
use Rattle.rt_order.specs.declared.cut.Mark.TheVariants as mark
use Rattle.rt_order.specs.declared.cut.Place.{Place}
use Rattle.rt_order.specs.declared.cut.Place.TheVariants.{Min, Before, After, Max}
use Rattle.rt_order.specs.declared.cut.Cut.{Cut}
use Rattle.rt_order.specs.KeyOrder.{integer_of, key_cmp}
use Rattle.rt_order.specs.Values.{SortValue, Null, Plain, Object, value_cmp}
use Rattle.rt_order.specs.Entries.{sort_value}
use Rattle.rt_order.specs.Cuts.{has}
use Rattle.rt_order.specs.CutOrder.{cut_cmp}

-- whether each is below the next
abbrev pub rises : {A : Type 0} → (A → A → Ordering) → List A → Bool
rises cmp [] = true
rises cmp (a ∷ []) = true
rises cmp (a ∷ b ∷ rest) = is_lt (cmp a b) && rises cmp (b ∷ rest)

-- ---- keys

abbrev pub IntegerKeys : Type 0
IntegerKeys =
    map integer_of (codes "-0" ∷ codes "00" ∷ codes "2147483647" ∷ codes "2147483648" ∷ codes
    "-2147483648" ∷ codes "-2147483649" ∷ [])
    ≡ Some (pos 0) ∷ Some (pos 0) ∷ Some (pos 2147483647) ∷ None ∷ Some (negsuc 2147483647) ∷ None ∷ []

abbrev pub OtherKeys : Type 0
OtherKeys = map integer_of (codes "-" ∷ codes "+1" ∷ codes "--1" ∷ codes "1e2" ∷ codes " 1" ∷ [])
    ≡ None ∷ None ∷ None ∷ None ∷ None ∷ []

abbrev pub KeysRise : Type 0
KeysRise = rises key_cmp
    (codes "-5" ∷ codes "0" ∷ codes "-0" ∷ codes "00" ∷ codes "7" ∷ codes "2147483647" ∷ codes
    "2147483648" ∷ codes "a" ∷ []) ≡ true

-- ---- values

-- {"v": t}
abbrev pub with_v : PathTree → PathTree
with_v t = object ((codes "v", t) ∷ [])

-- the sort values by the child "v"
abbrev pub ranks_by_v : List SortValue
ranks_by_v = map (sort_value (Child (codes "v" ∷ []))) (
    of_leaf (number (pos 1)) ∷ with_v (of_leaf (truth false)) ∷ with_v
    (of_leaf (truth true)) ∷ with_v (of_leaf (number (negsuc 2)))
    ∷ with_v (of_leaf (number (pos 10))) ∷ with_v (of_leaf (text (codes "9"))) ∷ with_v
    (object ((codes "z", of_leaf (number (pos 1))) ∷ [])) ∷ [])

abbrev pub ValuesByChild : Type 0
ValuesByChild = ranks_by_v ≡ Null ∷ Plain (truth false) ∷ Plain (truth true) ∷ Plain
    (number (negsuc 2)) ∷ Plain (number (pos 10)) ∷ Plain (text (codes "9")) ∷ Object ∷ []

abbrev pub ValuesRise : Type 0
ValuesRise = rises value_cmp ranks_by_v ≡ true

-- ---- cuts

-- a cut of the number 5
abbrev pub at_five : Place → Option Cut
at_five place = Some (record { value = mark.Leaf (number (pos 5)); place = place })

-- which of the keys j, k, l, m of the number 5 a range has
abbrev pub among_fives : Option Cut → Option Cut → List tree.Key
among_fives lower upper =
    filter (λ k. has (record { lower = lower; upper = upper }) (Plain (number (pos 5)), k))
    (codes "j" ∷ codes "k" ∷ codes "l" ∷ codes "m" ∷ [])

abbrev pub FromFive : Type 0
FromFive = among_fives (at_five Min) None ≡ codes "j" ∷ codes "k" ∷ codes "l" ∷ codes "m" ∷ []

abbrev pub PastFive : Type 0
PastFive = among_fives (at_five Max) None ≡ []

abbrev pub FromK : Type 0
FromK = among_fives (at_five (Before (codes "k"))) None ≡ codes "k" ∷ codes "l" ∷ codes "m" ∷ []

abbrev pub PastK : Type 0
PastK = among_fives (at_five (After (codes "k"))) None ≡ codes "l" ∷ codes "m" ∷ []

abbrev pub ToK : Type 0
ToK = among_fives None (at_five (After (codes "k"))) ≡ codes "j" ∷ codes "k" ∷ []

abbrev pub BelowK : Type 0
BelowK = among_fives None (at_five (Before (codes "k"))) ≡ codes "j" ∷ []

abbrev pub OnlyK : Type 0
OnlyK = among_fives (at_five (Before (codes "k"))) (at_five (After (codes "k"))) ≡ codes "k" ∷ []

-- a cut of a value
abbrev pub cut_of : Mark → Place → Cut
cut_of value place = record { value = value; place = place }

-- cuts of null, of the number 5 and of a text, the keys 7 and a among them
abbrev pub CutsRise : Type 0
CutsRise = rises cut_cmp
    (cut_of mark.Null Min ∷ cut_of mark.Null (After (codes "a")) ∷ cut_of mark.Null Max
    ∷ cut_of (mark.Leaf (number (pos 5))) Min
    ∷ cut_of (mark.Leaf (number (pos 5))) (Before (codes "7"))
    ∷ cut_of (mark.Leaf (number (pos 5))) (After (codes "7"))
    ∷ cut_of (mark.Leaf (number (pos 5))) (Before (codes "a"))
    ∷ cut_of (mark.Leaf (number (pos 5))) Max
    ∷ cut_of (mark.Leaf (text (codes "x"))) Min ∷ []) ≡ true
