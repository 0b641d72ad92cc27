-- Where cuts stand among the entries.
use Rattle.std.proofs.Common.{◌≡◌, Bool, true, false, refl, sym, ap, ◌∙◌, Option, Some, None, inl, inr}
use Rattle.std.specs.Prelude.{◌⊎◌, ◌&&◌, not}
use Rattle.std.specs.Option.{option_map_or}
use Rattle.std.specs.declared.cmp.Ordering.{Ordering}
use Rattle.std.specs.declared.cmp.Ordering.TheVariants.{Less, Equal, Greater}
use Rattle.std.specs.Ordering.{ordering_then, is_lt, is_le}
use Rattle.rt_tree.specs.PathTree.{Key}
use Rattle.rt_tree.specs.TreeEq.{both_first, both_second}
use Rattle.rt_order.specs.declared.cut.Place.TheVariants.{Min, Before, After, Max}
use Rattle.rt_order.specs.KeyOrder.{key_cmp}
use Rattle.rt_order.specs.Values.{SortValue, value_cmp}
use Rattle.rt_order.specs.Entries.{Entry, entry_cmp}
use Rattle.rt_order.specs.Cuts.{mark_value, is_after, is_after_by}
use Rattle.rt_order.specs.laws.Cuts.{BeforeIsNextTo, AfterIsNextTo, AboveStaysAfter, RangesAreRuns}
use Rattle.rt_order.specs.laws.EntryOrder.{value_cmp_total, value_cmp-IsAntisymmetric, entry_cmp_total}
use Rattle.rt_order.specs.declared.cut.Mark.{Mark}
use Rattle.rt_order.specs.declared.cut.Cut.{Cut}
use Rattle.rt_order.specs.declared.cut.Place.{Place}
use Rattle.std.specs.BTreeMap.Comparable.{le_lt_trans}

before_by : (o : Ordering) (j k : Key) → is_after_by o (Before j) k ≡ is_le (ordering_then o (key_cmp j k))
before_by Less j k = refl
before_by Equal j k = refl
before_by Greater j k = refl

after_by : (o : Ordering) (j k : Key) → is_after_by o (After j) k ≡ is_lt (ordering_then o (key_cmp j k))
after_by Less j k = refl
after_by Equal j k = refl
after_by Greater j k = refl

pub before_is_next_to : BeforeIsNextTo
before_is_next_to value k e = before_by (value_cmp (mark_value value) e.0) k e.1

pub after_is_next_to : AfterIsNextTo
after_is_next_to value k e = after_by (value_cmp (mark_value value) e.0) k e.1

-- ---- above an entry after a cut

by_value : (o s : Ordering) → ordering_then o s ≡ Less → (o ≡ Less) ⊎ (o ≡ Equal)
by_value Less s e = inl refl
by_value Equal s e = inr refl
by_value Greater s e = cc

less_of : (o : Ordering) → is_lt o ≡ true → o ≡ Less
less_of Less e = refl
less_of Equal e = cc
less_of Greater e = cc

-- a value above one at or above v, and above one above v
le_step : (v x y : SortValue) → (value_cmp x y ≡ Less) ⊎ (value_cmp x y ≡ Equal) → is_le (value_cmp v x) ≡ true → is_le (value_cmp v y) ≡ true
le_step v x y (inl less) e = ap is_le (le_lt_trans value_cmp_total v x y e less)
le_step v x y (inr same) e = ap (λ z. is_le (value_cmp v z)) (sym (value_cmp-IsAntisymmetric x y same)) ∙ e

lt_step : (v x y : SortValue) → (value_cmp x y ≡ Less) ⊎ (value_cmp x y ≡ Equal) → is_lt (value_cmp v x) ≡ true → is_lt (value_cmp v y) ≡ true
lt_step v x y (inl less) e = ap is_lt (value_cmp_total.trans v x y (less_of _ e) less)
lt_step v x y (inr same) e = ap (λ z. is_lt (value_cmp v z)) (sym (value_cmp-IsAntisymmetric x y same)) ∙ e

at_min : (o : Ordering) (k : Key) → is_after_by o Min k ≡ is_le o
at_min Less k = refl
at_min Equal k = refl
at_min Greater k = refl

at_max : (o : Ordering) (k : Key) → is_after_by o Max k ≡ is_lt o
at_max Less k = refl
at_max Equal k = refl
at_max Greater k = refl

after_at : (m : Mark) (place : Place) (d e : Entry) → entry_cmp d e ≡ Less → is_after (record { value = m; place = place }) d ≡ true → is_after (record { value = m; place = place }) e ≡ true
after_at m Min d e less h =
    at_min _ e.1 ∙ le_step (mark_value m) d.0 e.0 (by_value _ _ less) (sym (at_min _ d.1) ∙ h)
after_at m (Before k) d e less h =
    before_is_next_to m k e ∙ ap is_le (le_lt_trans entry_cmp_total (mark_value m, k) d e (sym (before_is_next_to m k d) ∙ h) less)
after_at m (After k) d e less h =
    after_is_next_to m k e ∙ ap is_lt (entry_cmp_total.trans (mark_value m, k) d e (less_of _ (sym (after_is_next_to m k d) ∙ h)) less)
after_at m Max d e less h =
    at_max _ e.1 ∙ lt_step (mark_value m) d.0 e.0 (by_value _ _ less) (sym (at_max _ d.1) ∙ h)

pub above_stays_after : AboveStaysAfter
above_stays_after cut d e less h = after_at cut.value cut.place d e less h

-- ---- runs

above_lower : (lower : Option Cut) (d e : Entry) → entry_cmp d e ≡ Less → option_map_or (λ cut. is_after cut d) lower true ≡ true → option_map_or (λ cut. is_after cut e) lower true ≡ true
above_lower None d e less h = refl
above_lower (Some cut) d e less h = above_stays_after cut d e less h

-- what is not after a cut has nothing after it below
not_after : (s t : Bool) → (s ≡ true → t ≡ true) → not t ≡ true → not s ≡ true
not_after true t f h = ap not (sym (f refl)) ∙ h
not_after false t f h = refl

below_upper : (upper : Option Cut) (e f : Entry) → entry_cmp e f ≡ Less → option_map_or (λ cut. not (is_after cut f)) upper true ≡ true → option_map_or (λ cut. not (is_after cut e)) upper true ≡ true
below_upper None e f less h = refl
below_upper (Some cut) e f less h = not_after _ _ (above_stays_after cut e f less) h

pub ranges_are_runs : RangesAreRuns
ranges_are_runs range d e f below above at_d at_f = λ i.
    above_lower range.lower d e below (both_first _ _ at_d) i
    && below_upper range.upper e f above (both_second (option_map_or (λ cut. is_after cut f) range.lower true) _ at_f) i
