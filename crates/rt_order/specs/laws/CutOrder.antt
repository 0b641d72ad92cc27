-- The order of cuts is total, and ties only equal cuts; the later of two has the fewer entries
-- after it.
use Rattle.std.proofs.Common.{◌≡◌, ℕ, Bool, true, false, [], refl, sym, ap, ◌∙◌}
use mathlib.Core.Bool.{true≢false}
use Rattle.std.specs.declared.cmp.Ordering.{Ordering}
use Rattle.std.specs.declared.cmp.Ordering.TheVariants.{Less, Equal, Greater}
use Rattle.std.specs.Ordering.{ordering_then, nat_cmp, is_le, is_lt, is_gt, on, then_cmp}
use Rattle.std.specs.Cmp.{IsTotalOrder, nat_cmp_total, on_total, then_total, upto}
use Rattle.std.specs.FinMap.{IsAntisymmetric}
use Rattle.rt_tree.specs.PathTree.{Key}
use Rattle.rt_order.specs.declared.cut.Mark.{Mark}
use Rattle.rt_order.specs.declared.cut.Mark.TheVariants as mark
use Rattle.rt_order.specs.declared.cut.Place.{Place}
use Rattle.rt_order.specs.declared.cut.Place.TheVariants.{Min, Before, After, Max}
use Rattle.rt_order.specs.declared.cut.Cut.{Cut}
use Rattle.rt_order.specs.KeyOrder.{key_cmp}
use Rattle.rt_order.specs.Values.{SortValue, Null, Plain, Object, value_cmp}
use Rattle.rt_order.specs.Entries.{Entry}
use Rattle.rt_order.specs.Cuts.{mark_value, is_after, is_after_by, is_past}
use Rattle.rt_order.specs.CutOrder.{place_rank, at_key_cmp, place_cmp, cut_cmp}
use Rattle.rt_order.specs.laws.KeyOrder.{total_as, first_tied, second_tied, key_cmp_total}
use Rattle.rt_order.specs.laws.KeyOrder.{key_cmp-IsAntisymmetric}
use Rattle.rt_order.specs.laws.EntryOrder.{value_cmp_total, value_cmp-IsAntisymmetric}

-- what lies after a cut lies after each that isn't behind it
abbrev pub EarlierCutsHaveMore : Type 0
EarlierCutsHaveMore = (c d : Cut) (e : Entry) → is_le (cut_cmp c d) ≡ true → is_after d e ≡ true
    → is_after c e ≡ true

-- ---- total

then_equal : (o : Ordering) → ordering_then o Equal ≡ o
then_equal Less = refl
then_equal Equal = refl
then_equal Greater = refl

key_in : Place → Key
key_in Min = []
key_in (Before k) = k
key_in (After k) = k
key_in Max = []

side : Place → ℕ
side Min = 0
side (Before k) = 0
side (After k) = 1
side Max = 0

place_parts : Place → Place → Ordering
place_parts = then_cmp (on place_rank nat_cmp) (then_cmp (on key_in key_cmp) (on side nat_cmp))

place_cmp-parts : (p q : Place) → place_cmp p q ≡ place_parts p q
unfolding place_parts key_in side
place_cmp-parts Min Min = refl
place_cmp-parts Min (Before k) = refl
place_cmp-parts Min (After k) = refl
place_cmp-parts Min Max = refl
place_cmp-parts (Before j) Min = refl
place_cmp-parts (Before j) (Before k) = sym (then_equal (key_cmp j k))
place_cmp-parts (Before j) (After k) = refl
place_cmp-parts (Before j) Max = refl
place_cmp-parts (After j) Min = refl
place_cmp-parts (After j) (Before k) = refl
place_cmp-parts (After j) (After k) = sym (then_equal (key_cmp j k))
place_cmp-parts (After j) Max = refl
place_cmp-parts Max Min = refl
place_cmp-parts Max (Before k) = refl
place_cmp-parts Max (After k) = refl
place_cmp-parts Max Max = refl

pub place_cmp_total : IsTotalOrder place_cmp
unfolding place_parts
place_cmp_total = total_as place_cmp-parts (then_total (on_total place_rank nat_cmp_total)
    (then_total (on_total key_in key_cmp_total) (on_total side nat_cmp_total)))

pub cut_cmp_total : IsTotalOrder cut_cmp
cut_cmp_total = then_total (on_total (λ (c : Cut). mark_value c.value) value_cmp_total)
    (on_total (λ (c : Cut). c.place) place_cmp_total)

-- ---- exact

before_after : (o : Ordering) → ordering_then o Less ≡ Equal → ⊥
before_after Less e = cc
before_after Equal e = cc
before_after Greater e = cc

after_before : (o : Ordering) → ordering_then o Greater ≡ Equal → ⊥
after_before Less e = cc
after_before Equal e = cc
after_before Greater e = cc

place_cmp-IsAntisymmetric : IsAntisymmetric place_cmp
place_cmp-IsAntisymmetric Min Min e = refl
place_cmp-IsAntisymmetric Min (Before k) e = cc
place_cmp-IsAntisymmetric Min (After k) e = cc
place_cmp-IsAntisymmetric Min Max e = cc
place_cmp-IsAntisymmetric (Before j) Min e = cc
place_cmp-IsAntisymmetric (Before j) (Before k) e = ap Before (key_cmp-IsAntisymmetric j k e)
place_cmp-IsAntisymmetric (Before j) (After k) e = absurd (before_after (key_cmp j k) e)
place_cmp-IsAntisymmetric (Before j) Max e = cc
place_cmp-IsAntisymmetric (After j) Min e = cc
place_cmp-IsAntisymmetric (After j) (Before k) e = absurd (after_before (key_cmp j k) e)
place_cmp-IsAntisymmetric (After j) (After k) e = ap After (key_cmp-IsAntisymmetric j k e)
place_cmp-IsAntisymmetric (After j) Max e = cc
place_cmp-IsAntisymmetric Max Min e = cc
place_cmp-IsAntisymmetric Max (Before k) e = cc
place_cmp-IsAntisymmetric Max (After k) e = cc
place_cmp-IsAntisymmetric Max Max e = refl

mark_of : SortValue → Mark
mark_of Null = mark.Null
mark_of (Plain l) = mark.Leaf l
mark_of Object = mark.Null

mark_of-value : (m : Mark) → mark_of (mark_value m) ≡ m
unfolding mark_of
mark_of-value mark.Null = refl
mark_of-value (mark.Leaf l) = refl

same_mark : (m n : Mark) → mark_value m ≡ mark_value n → m ≡ n
same_mark m n e = sym (mark_of-value m) ∙ ap mark_of e ∙ mark_of-value n

pub cut_cmp-IsAntisymmetric : IsAntisymmetric cut_cmp
cut_cmp-IsAntisymmetric c d e =
    let values = value_cmp (mark_value c.value) (mark_value d.value) in
    let places = place_cmp c.place d.place in
    let same_value = value_cmp-IsAntisymmetric (mark_value c.value) (mark_value d.value)
    (first_tied values places e) in
    λ i. record {
      value = same_mark c.value d.value same_value i;
      place = place_cmp-IsAntisymmetric c.place d.place (second_tied values places e) i;
    }

-- ---- entries after a cut

-- a place among all values, those of objects too
abbrev Spot : Type 0
Spot = SortValue × Place

spot_cmp : Spot → Spot → Ordering
spot_cmp x y = ordering_then (value_cmp x.0 y.0) (place_cmp x.1 y.1)

spot_cmp_total : IsTotalOrder spot_cmp
unfolding spot_cmp
spot_cmp_total = then_total (on_total (λ (x : Spot). x.0) value_cmp_total)
    (on_total (λ (x : Spot). x.1) place_cmp_total)

spot_of : Cut → Spot
spot_of c = (mark_value c.value, c.place)

-- the spot just before an entry
before_it : Entry → Spot
before_it e = (e.0, Before e.1)

past-place : (p : Place) (k : Key) → is_past p k ≡ is_le (place_cmp p (Before k))
past-place Min k = refl
past-place (Before j) k = refl
past-place (After j) k = at (key_cmp j k)
  where
    at : (o : Ordering) → is_lt o ≡ is_le (ordering_then o Greater)
    at Less = refl
    at Equal = refl
    at Greater = refl
past-place Max k = refl

-- an entry lies after a cut where the cut is at most the spot just before it
after-spot : (c : Cut) (e : Entry) → is_after c e ≡ is_le (spot_cmp (spot_of c) (before_it e))
unfolding spot_cmp spot_of before_it
after-spot c e = at (value_cmp (mark_value c.value) e.0)
  where
    at : (o : Ordering)
        → is_after_by o c.place e.1 ≡ is_le (ordering_then o (place_cmp c.place (Before e.1)))
    at Less = refl
    at Equal = past-place c.place e.1
    at Greater = refl

not_greater : (o : Ordering) → is_le o ≡ true → is_gt o ≡ false
not_greater Less e = refl
not_greater Equal e = refl
not_greater Greater e = absurd (true≢false (sym e))

at_most : (o : Ordering) → is_gt o ≡ false → is_le o ≡ true
at_most Less e = refl
at_most Equal e = refl
at_most Greater e = absurd (true≢false e)

pub earlier_cuts_have_more : EarlierCutsHaveMore
unfolding spot_cmp spot_of
earlier_cuts_have_more c d e p q = after-spot c e ∙ at_most _ (upto spot_cmp_total (spot_of c)
    (spot_of d) (before_it e) (not_greater _ p) (not_greater _ (sym (after-spot d e) ∙ q)))

-- of three cuts
pub cut_le-trans : (b c d : Cut) → is_le (cut_cmp b c) ≡ true → is_le (cut_cmp c d) ≡ true
    → is_le (cut_cmp b d) ≡ true
cut_le-trans b c d p q =
    at_most _ (upto cut_cmp_total b c d (not_greater _ p) (not_greater _ q))
