-- The tests of equality tell exactly the equal indexes, cuts and ranges.
use Rattle.std.proofs.Common.{◌≡◌, Bool, true, refl, ap, Option, Some, None}
use Rattle.std.specs.Option.{option_eq}
use Rattle.rt_tree.specs.PathTree.{key_eq-is, key_eq-same, path_eq-is, path_eq-same}
use Rattle.rt_tree.specs.TreeEq.{Tells, tells, leaf_eq_tells, both, both_first, both_second}
use Rattle.rt_order.specs.declared.index.Index.{Index}
use Rattle.rt_order.specs.declared.index.Index.TheVariants.{Key, Child, Value}
use Rattle.rt_order.specs.declared.cut.Mark.{Mark}
use Rattle.rt_order.specs.declared.cut.Mark.TheVariants.{Null, Leaf}
use Rattle.rt_order.specs.declared.cut.Place.{Place}
use Rattle.rt_order.specs.declared.cut.Place.TheVariants.{Min, Before, After, Max}
use Rattle.rt_order.specs.Equality.{index_eq, mark_eq, place_eq, cut_eq, range_eq}

same_index : (i j : Index) → index_eq i j ≡ true → i ≡ j
same_index Key Key e = refl
same_index Key (Child q) e = cc
same_index Key Value e = cc
same_index (Child p) Key e = cc
same_index (Child p) (Child q) e = ap Child (path_eq-is p q e)
same_index (Child p) Value e = cc
same_index Value Key e = cc
same_index Value (Child q) e = cc
same_index Value Value e = refl

own_index : (i : Index) → index_eq i i ≡ true
own_index Key = refl
own_index (Child p) = path_eq-same p
own_index Value = refl

pub index_eq_tells : Tells index_eq
index_eq_tells = tells same_index own_index

same_mark : (m n : Mark) → mark_eq m n ≡ true → m ≡ n
same_mark Null Null e = refl
same_mark Null (Leaf l) e = cc
same_mark (Leaf l) Null e = cc
same_mark (Leaf l) (Leaf n) e = ap Leaf ((leaf_eq_tells l n).0 e)

own_mark : (m : Mark) → mark_eq m m ≡ true
own_mark Null = refl
own_mark (Leaf l) = (leaf_eq_tells l l).1 refl

pub mark_eq_tells : Tells mark_eq
mark_eq_tells = tells same_mark own_mark

same_place : (p q : Place) → place_eq p q ≡ true → p ≡ q
same_place Min Min e = refl
same_place Min (Before k) e = cc
same_place Min (After k) e = cc
same_place Min Max e = cc
same_place (Before j) Min e = cc
same_place (Before j) (Before k) e = ap Before (key_eq-is j k e)
same_place (Before j) (After k) e = cc
same_place (Before j) Max e = cc
same_place (After j) Min e = cc
same_place (After j) (Before k) e = cc
same_place (After j) (After k) e = ap After (key_eq-is j k e)
same_place (After j) Max e = cc
same_place Max Min e = cc
same_place Max (Before k) e = cc
same_place Max (After k) e = cc
same_place Max Max e = refl

own_place : (p : Place) → place_eq p p ≡ true
own_place Min = refl
own_place (Before k) = key_eq-same k
own_place (After k) = key_eq-same k
own_place Max = refl

pub place_eq_tells : Tells place_eq
place_eq_tells = tells same_place own_place

pub cut_eq_tells : Tells cut_eq
cut_eq_tells = tells
    (λ c d e i. record {
      value = (mark_eq_tells c.value d.value).0 (both_first _ _ e) i;
      place = (place_eq_tells c.place d.place).0 (both_second (mark_eq c.value d.value) _ e) i;
    })
    (λ c. both _ _ (own_mark c.value) (own_place c.place))

-- of options, where the test tells of what they hold
module _ {X : Type 0} {E : X → X → Bool} (h : Tells E) where
  same_option : (x y : Option X) → option_eq E x y ≡ true → x ≡ y
  same_option None None e = refl
  same_option None (Some y) e = cc
  same_option (Some x) None e = cc
  same_option (Some x) (Some y) e = ap Some ((h x y).0 e)

  own_option : (x : Option X) → option_eq E x x ≡ true
  own_option None = refl
  own_option (Some x) = (h x x).1 refl

  pub option_eq_tells : Tells (option_eq E)
  option_eq_tells = tells same_option own_option

pub range_eq_tells : Tells range_eq
range_eq_tells = tells
    (λ r s e i. record {
      lower = (option_eq_tells cut_eq_tells r.lower s.lower).0 (both_first _ _ e) i;
      upper = (option_eq_tells cut_eq_tells r.upper s.upper).0
          (both_second (option_eq cut_eq r.lower s.lower) _ e) i;
    })
    (λ r. both _ _ (own_option cut_eq_tells r.lower) (own_option cut_eq_tells r.upper))
