-- What bounds keep of a range.
use Rattle.std.proofs.Common.{◌≡◌, Bool, true, false, List, ℕ, refl, sym, ap, ◌∙◌, Option, Some, None}
use Rattle.std.specs.Prelude.{◌&&◌, not}
use Rattle.std.specs.declared.cmp.Ordering.{Ordering}
use Rattle.std.specs.declared.cmp.Ordering.TheVariants.{Less, Equal, Greater}
use Rattle.std.specs.Option.{option_map_or}
use Rattle.std.specs.Ordering.{ordering_then, is_lt, is_le, is_eq, is_ge, is_gt}
use Rattle.rt_order.specs.declared.cut.Cut.{Cut}
use Rattle.rt_order.specs.KeyOrder.{key_cmp}
use Rattle.rt_order.specs.Values.{value_cmp}
use Rattle.rt_order.specs.Entries.{Entry}
use Rattle.rt_order.specs.Cuts.{is_after, is_after_by, mark_value}
use Rattle.rt_query.specs.declared.draft.Named.{Named}
use Rattle.rt_query.specs.Bounds.{Below, Above, cut_of, place_of}
use Rattle.rt_query.specs.laws.Bounding.{compared, StartsAt, StartsAfter, EndsAt, EndsBefore, Equals, ComparesKeys}

-- how what is named compares, by how its value does
abbrev by : Ordering → Option (List ℕ) → List ℕ → Ordering
by o key k = option_map_or (λ j. ordering_then o (key_cmp j k)) key o

below_by : (o : Ordering) (key : Option (List ℕ)) (k : List ℕ) → is_after_by o (place_of Below key) k ≡ is_le (by o key k)
below_by Less None k = refl
below_by Less (Some j) k = refl
below_by Equal None k = refl
below_by Equal (Some j) k = refl
below_by Greater None k = refl
below_by Greater (Some j) k = refl

above_by : (o : Ordering) (key : Option (List ℕ)) (k : List ℕ) → is_after_by o (place_of Above key) k ≡ is_lt (by o key k)
above_by Less None k = refl
above_by Less (Some j) k = refl
above_by Equal None k = refl
above_by Equal (Some j) k = refl
above_by Greater None k = refl
above_by Greater (Some j) k = refl

-- an entry lies after the cut below what is named where it is not below that
after_below : (n : Named) (e : Entry) → is_after (cut_of n Below) e ≡ is_le (compared n e)
after_below n e = below_by (value_cmp (mark_value n.value) e.0) n.key e.1

-- and after the cut above where it is above it
after_above : (n : Named) (e : Entry) → is_after (cut_of n Above) e ≡ is_lt (compared n e)
after_above n e = above_by (value_cmp (mark_value n.value) e.0) n.key e.1

not_le : (o : Ordering) → not (is_le o) ≡ is_gt o
not_le Less = refl
not_le Equal = refl
not_le Greater = refl

not_lt : (o : Ordering) → not (is_lt o) ≡ is_ge o
not_lt Less = refl
not_lt Equal = refl
not_lt Greater = refl

le_and_ge : (o : Ordering) → (is_le o && is_ge o) ≡ is_eq o
le_and_ge Less = refl
le_and_ge Equal = refl
le_and_ge Greater = refl

and_comm : (a b : Bool) → (a && b) ≡ (true && b && a)
and_comm true true = refl
and_comm true false = refl
and_comm false true = refl
and_comm false false = refl

and_true : (a b : Bool) → (a && b) ≡ (a && true && b)
and_true true b = refl
and_true false b = refl

-- whether an entry lies below an upper cut, if there is one
abbrev is_under : Option Cut → Entry → Bool
is_under upper e = option_map_or (λ cut. not (is_after cut e)) upper true

abbrev is_over : Option Cut → Entry → Bool
is_over lower e = option_map_or (λ cut. is_after cut e) lower true

pub starts_at : StartsAt
starts_at n r e free =
    ap (λ b. b && is_under r.upper e) (after_below n e)
    ∙ and_comm (is_le (compared n e)) (is_under r.upper e)
    ∙ ap (λ lower. is_over lower e && is_under r.upper e && is_le (compared n e)) (sym free)

pub starts_after : StartsAfter
starts_after n r e free =
    ap (λ b. b && is_under r.upper e) (after_above n e)
    ∙ and_comm (is_lt (compared n e)) (is_under r.upper e)
    ∙ ap (λ lower. is_over lower e && is_under r.upper e && is_lt (compared n e)) (sym free)

pub ends_at : EndsAt
ends_at n r e free =
    ap (λ b. is_over r.lower e && b) (ap not (after_above n e) ∙ not_lt (compared n e))
    ∙ and_true (is_over r.lower e) (is_ge (compared n e))
    ∙ ap (λ upper. is_over r.lower e && is_under upper e && is_ge (compared n e)) (sym free)

pub ends_before : EndsBefore
ends_before n r e free =
    ap (λ b. is_over r.lower e && b) (ap not (after_below n e) ∙ not_le (compared n e))
    ∙ and_true (is_over r.lower e) (is_gt (compared n e))
    ∙ ap (λ upper. is_over r.lower e && is_under upper e && is_gt (compared n e)) (sym free)

pub equals : Equals
equals n r e low up =
    (λ i. after_below n e i && (ap not (after_above n e) ∙ not_lt (compared n e)) i) ∙ le_and_ge (compared n e)

pub compares_keys : ComparesKeys
compares_keys bytes k t key = refl
