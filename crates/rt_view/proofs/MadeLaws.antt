-- Children in two halves round a range, made of a list that rises.
use Rattle.std.specs.Prelude.{T, ◌&&◌, min}
use Rattle.std.proofs.Common.{◌≡◌, ℕ, ◌+◌, ◌-◌, ◌≤◌, Bool, true, false, cond, not, [], ◌∷◌, ◌++◌, List, map, length, take, drop, refl, sym, ap, subst, ◌∙◌, arith, append-nil, length-append, Option, Some, None}
use Rattle.std.specs.declared.cmp.Ordering.TheVariants.{Less}
use Rattle.std.specs.Ordering.{is_lt}
use Rattle.std.specs.List.{AllByRecursion}
use Rattle.std.specs.List.Sorted.{IsStrictlySortedBy}
use Rattle.std.specs.Map.{keys_of}
use Rattle.std.specs.FinMap.Entries.{below_all, is_sorted, is_sorted-where_key}
use Rattle.std.proofs.lemmas.List.{drop-append-le, drop-map, take-append-drop, take-append-le, take-map, take_all, take_min}
use Rattle.std.proofs.Math.Seq.{drop-append-add, take-append-add}
use Rattle.rt_chain.specs.Chains.{Chain, entries_of}
use Rattle.rt_tree.specs.PathTree.{PathTree, first, second}
use Rattle.rt_order.specs.declared.cut.Range.{Range}
use Rattle.rt_order.specs.Cuts.{has}
use Rattle.rt_order.specs.Entries.{Entry, entry_cmp}
use Rattle.rt_query.specs.declared.query.Limit.{Limit}
use Rattle.rt_query.specs.declared.query.Limit.TheVariants.{First, Last}
use Rattle.rt_view.specs.declared.window.Child.{Child}
use Rattle.rt_view.specs.inside.Ranged.{Halved, IsSpread, between, cut_at, inside, outside}
use Rattle.rt_view.specs.inside.ChildChain.{IsMarked, Linked, children_in, halves_of, marked}
use Rattle.rt_view.specs.inside.Windows.{Entries, IsWindow, rest_from, shown_from}
use Rattle.rt_view.proofs.InsideLaws.{inside-append, passed, sorted_more}
use Rattle.rt_view.proofs.RangedLaws.{Falls, Rises, all_append, all_left, all_passed, all_right, from_rises, head_below, inner_of, is_between, none_passed, not_above, not_below, to_falls}
use Rattle.rt_view.proofs.WindowLaws.{below_of}
use Rattle.std.proofs.lemmas.List.Elements.{filter-append}

-- ---- as they are linked

keys_below : (from : Range) (e : Entry) (es : Entries) → T (below_all entry_cmp e es) → AllByRecursion (λ k. entry_cmp e k ≡ Less) (keys_of (marked from es))
keys_below from e [] h = tt
keys_below from e (x ∷ es) h = (below_of e x.0 (first _ _ h), keys_below from e es (second (is_lt (entry_cmp e x.0)) _ h))

pub keys_rise : (from : Range) (es : Entries) → T (is_sorted entry_cmp es) → IsStrictlySortedBy entry_cmp (keys_of (marked from es))
unfolding IsStrictlySortedBy
keys_rise from [] h = tt
keys_rise from (x ∷ es) h = (keys_below from x.0 es (head_below x es h), keys_rise from es (sorted_more x es h))

abbrev MarkedOne : Range → Entry × Child → Type 0
MarkedOne from x = (x.1.key ≡ x.0.1) × (x.1.above ≡ has from x.0)

all_marked : (from : Range) (es : Entries) → AllByRecursion (MarkedOne from) (marked from es)
all_marked from [] = tt
all_marked from (x ∷ es) = ((refl, refl), all_marked from es)

linked_marked : (from : Range) (es : Linked) → AllByRecursion (MarkedOne from) (entries_of es) → AllByRecursion (IsMarked from) es
linked_marked from [] h = tt
linked_marked from (x ∷ es) h = (h.0, linked_marked from es h.1)

pub made_marks : (from : Range) (es : Linked) (ds : Entries) → entries_of es ≡ marked from ds → AllByRecursion (IsMarked from) es
made_marks from es ds same = linked_marked from es (subst (AllByRecursion (MarkedOne from)) (sym same) (all_marked from ds))

abbrev unmarked : List (Entry × Child) → Entries
unmarked xs = map (λ x. (x.0, x.1.value)) xs

linked_children : (es : Linked) → children_in es ≡ unmarked (entries_of es)
linked_children [] = refl
linked_children (x ∷ es) = ap (λ (xs : Entries). (x.0, x.1.1.value) ∷ xs) (linked_children es)

unmarked-marked : (from : Range) (es : Entries) → unmarked (marked from es) ≡ es
unmarked-marked from [] = refl
unmarked-marked from (x ∷ es) = ap (λ (xs : Entries). x ∷ xs) (unmarked-marked from es)

pub made_halves : (from : Range) (n : ℕ) (c : Chain Entry Child) (es : Entries) → entries_of c.front ≡ take n (marked from es) → entries_of c.behind ≡ drop n (marked from es) → halves_of c ≡ (take n es, drop n es)
made_halves from n c es front behind =
    let in_front : children_in c.front ≡ take n es =
    linked_children c.front ∙ ap unmarked front ∙ sym (take-map (λ (x : Entry × Child). (x.0, x.1.value)) n (marked from es)) ∙ ap (take n) (unmarked-marked from es) in
    let in_behind : children_in c.behind ≡ drop n es =
    linked_children c.behind ∙ ap unmarked behind ∙ sym (drop-map (λ (x : Entry × Child). (x.0, x.1.value)) n (marked from es)) ∙ ap (drop n) (unmarked-marked from es) in
    λ i. (in_front i, in_behind i)

-- ---- all that pass, and all others

abbrev Each : (Entry → Bool) → Bool → Entries → Type 0
Each p b es = AllByRecursion (λ x. p x.0 ≡ b) es

abbrev others : (Entry → Bool) → Entries → Entries
others p es = passed (λ e. not (p e)) es

each_passed : (p : Entry → Bool) (es : Entries) → Each p true (passed p es)
each_passed p [] = tt
each_passed p (x ∷ es) =
    elim (p x.0) as (λ b. p x.0 ≡ b → Each p true (cond b (x ∷ passed p es) (passed p es))) [
      | true ↦ λ t. (t, each_passed p es)
      | false ↦ λ t. each_passed p es
    ] refl

each_other : (p : Entry → Bool) (es : Entries) → Each p false (others p es)
each_other p [] = tt
each_other p (x ∷ es) =
    elim (p x.0) as (λ b. p x.0 ≡ b → Each p false (cond (not b) (x ∷ others p es) (others p es))) [
      | true ↦ λ t. each_other p es
      | false ↦ λ t. (t, each_other p es)
    ] refl

each_still : (p q : Entry → Bool) (b : Bool) (es : Entries) → Each p b es → Each p b (passed q es)
each_still p q b [] h = tt
each_still p q b (x ∷ es) h =
    elim (q x.0) as (λ c. Each p b (cond c (x ∷ passed q es) (passed q es))) [
      | true ↦ (h.0, each_still p q b es h.1)
      | false ↦ each_still p q b es h.1
    ]

each_alone : (p q : Entry → Bool) (b c : Bool) → ((e : Entry) → p e ≡ b → q e ≡ c) → (es : Entries) → Each p b es → Each q c es
each_alone p q b c so [] h = tt
each_alone p q b c so (x ∷ es) h = (so x.0 h.0, each_alone p q b c so es h.1)

each_both : (p q s : Entry → Bool) (a b c : Bool) → ((e : Entry) → p e ≡ a → q e ≡ b → s e ≡ c) → (es : Entries) → Each p a es → Each q b es → Each s c es
each_both p q s a b c so [] h g = tt
each_both p q s a b c so (x ∷ es) h g = (so x.0 h.0 g.0, each_both p q s a b c so es h.1 g.1)

passes_all : (p : Entry → Bool) (es : Entries) → Each p true es → passed p es ≡ es
passes_all p [] h = refl
passes_all p (x ∷ es) h = ap (λ b. cond b (x ∷ passed p es) (passed p es)) h.0 ∙ ap (λ (xs : Entries). x ∷ xs) (passes_all p es h.1)

passes_none : (p : Entry → Bool) (es : Entries) → Each p false es → passed p es ≡ []
passes_none p [] h = refl
passes_none p (x ∷ es) h = ap (λ b. cond b (x ∷ passed p es) (passed p es)) h.0 ∙ passes_none p es h.1

others_all : (p : Entry → Bool) (es : Entries) → Each p false es → others p es ≡ es
others_all p es h = passes_all (λ e. not (p e)) es (each_alone p (λ e. not (p e)) false true (λ e is. ap not is) es h)

others_none : (p : Entry → Bool) (es : Entries) → Each p true es → others p es ≡ []
others_none p es h = passes_none (λ e. not (p e)) es (each_alone p (λ e. not (p e)) true false (λ e is. ap not is) es h)

parts_up : (p : Entry → Bool) → Rises p → (es : Entries) → T (is_sorted entry_cmp es) → es ≡ others p es ++ passed p es
parts_up p up [] h = refl
parts_up p up (x ∷ es) h =
    elim (p x.0) as (λ b. p x.0 ≡ b → x ∷ es ≡ cond (not b) (x ∷ others p es) (others p es) ++ cond b (x ∷ passed p es) (passed p es)) [
      | true ↦ λ t.
          let all : passed p es ≡ es = all_passed p up x.0 t es (head_below x es h) in
          let none : others p es ≡ [] = others_none p es (subst (Each p true) all (each_passed p es)) in
          sym (λ i. none i ++ x ∷ all i)
      | false ↦ λ t. ap (λ (xs : Entries). x ∷ xs) (parts_up p up es (sorted_more x es h))
    ] refl

parts_down : (p : Entry → Bool) → Falls p → (es : Entries) → T (is_sorted entry_cmp es) → es ≡ passed p es ++ others p es
parts_down p down [] h = refl
parts_down p down (x ∷ es) h =
    elim (p x.0) as (λ b. p x.0 ≡ b → x ∷ es ≡ cond b (x ∷ passed p es) (passed p es) ++ cond (not b) (x ∷ others p es) (others p es)) [
      | true ↦ λ t. ap (λ (xs : Entries). x ∷ xs) (parts_down p down es (sorted_more x es h))
      | false ↦ λ t.
          let none : passed p es ≡ [] = none_passed p down x.0 t es (head_below x es h) in
          ap (λ (xs : Entries). x ∷ xs) (parts_down p down es (sorted_more x es h) ∙ ap (λ (xs : Entries). xs ++ others p es) none) ∙ sym (ap (λ (xs : Entries). xs ++ x ∷ others p es) none)
    ] refl

-- ---- within a limit

cut_fits : (limit : Option Limit) (n : ℕ) → cut_at limit n ≤ n
cut_fits None n = omega arith
cut_fits (Some (First k)) n = omega arith
cut_fits (Some (Last k)) n = omega arith

window_cut : (limit : Option Limit) (es : Entries) → T (is_sorted entry_cmp es)
    → IsWindow limit (shown_from limit (take (cut_at limit (length es)) es, drop (cut_at limit (length es)) es)) (rest_from limit (take (cut_at limit (length es)) es, drop (cut_at limit (length es)) es)) es
window_cut None es rise = record { rises = rise; whole = take-append-drop (length es) es; cut = sym (take_all (length es) es (omega arith)) }
window_cut (Some (First k)) es rise = record { rises = rise; whole = take-append-drop (min k (length es)) es; cut = sym (take_min k es) }
window_cut (Some (Last k)) es rise =
    let same : length es - k ≡ length es - min k (length es) = omega arith in
    record { rises = rise; whole = take-append-drop (length es - min k (length es)) es; cut = ap (λ n. drop n es) same }

-- ---- round a range

module _ (from to : Range) (f : from.upper ≡ None) (t : to.lower ≡ None) (es : Entries) (rise : T (is_sorted entry_cmp es)) where
  abbrev lows : Entries
  lows = outside from es

  abbrev mids : Entries
  mids = inside to (inside from es)

  abbrev highs : Entries
  highs = outside to (inside from es)

  in_parts : es ≡ lows ++ (mids ++ highs)
  in_parts = parts_up (has from) (from_rises from f) es rise ∙ ap (λ (xs : Entries). lows ++ xs) (parts_down (has to) (to_falls to t) (inside from es) (is_sorted-where_key entry_cmp (has from) es rise))

  pub parts_length : length es ≡ length lows + length mids + length highs
  parts_length = omega (arith, ap (λ (xs : Entries). length xs) in_parts, length-append lows (mids ++ highs), length-append mids highs)

  lows_from : Each (has from) false lows
  lows_from = each_other (has from) es

  mids_from : Each (has from) true mids
  mids_from = each_still (has from) (has to) true (inside from es) (each_passed (has from) es)

  highs_from : Each (has from) true highs
  highs_from = each_still (has from) (λ e. not (has to e)) true (inside from es) (each_passed (has from) es)

  lows_beside : Each (has (between from to)) false lows
  lows_beside = each_alone (has from) (has (between from to)) false false (not_above from to f t) lows lows_from

  mids_between : (ms : Entries) → Each (has from) true ms → Each (has to) true ms → Each (has (between from to)) true ms
  mids_between = each_both (has from) (has to) (has (between from to)) true true true (is_between from to f t)

  highs_beside : Each (has (between from to)) false highs
  highs_beside = each_both (has from) (has to) (has (between from to)) true false false (not_below from to f t) highs highs_from (each_other (has to) (inside from es))

  inside_mids : inside (between from to) es ≡ mids
  inside_mids =
      let r : Range = between from to in
      let mid : inside r mids ≡ mids = passes_all (has r) mids (mids_between mids mids_from (each_passed (has to) (inside from es))) in
      let low : inside r lows ≡ [] = passes_none (has r) lows lows_beside in
      let high : inside r highs ≡ [] = passes_none (has r) highs highs_beside in
      ap (inside r) in_parts ∙ inside-append r lows (mids ++ highs) ∙ ap (λ (xs : Entries). xs ++ inside r (mids ++ highs)) low ∙ inside-append r mids highs ∙ (λ i. mid i ++ high i) ∙ append-nil mids

  -- cut at one of those between
  module _ (m : ℕ) (fit : m ≤ length mids) where
    taken : take (length lows + m) es ≡ lows ++ take m mids
    taken = ap (take (length lows + m)) in_parts ∙ take-append-add lows (mids ++ highs) m ∙ ap (λ (xs : Entries). lows ++ xs) (take-append-le m mids highs fit)

    dropped : drop (length lows + m) es ≡ drop m mids ++ highs
    dropped = ap (drop (length lows + m)) in_parts ∙ drop-append-add lows (mids ++ highs) m ∙ drop-append-le m mids highs fit

    abbrev made : Halved
    made = (lows ++ take m mids, drop m mids ++ highs)

    front_from : Each (has from) true (take m mids)
    front_from = all_left (λ x. has from x ≡ true) (take m mids) (drop m mids) (subst (Each (has from) true) (sym (take-append-drop m mids)) mids_from)

    behind_from : Each (has from) true (drop m mids)
    behind_from = all_right (λ x. has from x ≡ true) (take m mids) (drop m mids) (subst (Each (has from) true) (sym (take-append-drop m mids)) mids_from)

    front_to : Each (has to) true (take m mids)
    front_to = all_left (λ x. has to x ≡ true) (take m mids) (drop m mids) (subst (Each (has to) true) (sym (take-append-drop m mids)) (each_passed (has to) (inside from es)))

    behind_to : Each (has to) true (drop m mids)
    behind_to = all_right (λ x. has to x ≡ true) (take m mids) (drop m mids) (subst (Each (has to) true) (sym (take-append-drop m mids)) (each_passed (has to) (inside from es)))

    made_inner : inner_of from to made ≡ (take m mids, drop m mids)
    made_inner =
        let r : Range = between from to in
        let front : inside r (lows ++ take m mids) ≡ take m mids = inside-append r lows (take m mids)
        ∙ (λ i. passes_none (has r) lows lows_beside i ++ passes_all (has r) (take m mids) (mids_between (take m mids) front_from front_to) i) in
        let behind : inside r (drop m mids ++ highs) ≡ drop m mids = inside-append r (drop m mids) highs
        ∙ (λ i. passes_all (has r) (drop m mids) (mids_between (drop m mids) behind_from behind_to) i ++ passes_none (has r) highs highs_beside i) ∙ append-nil (drop m mids) in
        λ i. (front i, behind i)

    made_spread : IsSpread from to made (length lows) (length highs)
    made_spread =
        let r : Range = between from to in
        let low : outside r (lows ++ take m mids) ≡ lows = filter-append (λ (e : Entry × PathTree). not (has r e.0)) lows (take m mids)
        ∙ (λ i. others_all (has r) lows lows_beside i ++ others_none (has r) (take m mids) (mids_between (take m mids) front_from front_to) i) ∙ append-nil lows in
        let high : outside r (drop m mids ++ highs) ≡ highs = filter-append (λ (e : Entry × PathTree). not (has r e.0)) (drop m mids) highs
        ∙ (λ i. others_none (has r) (drop m mids) (mids_between (drop m mids) behind_from behind_to) i ++ others_all (has r) highs highs_beside i) in
        let above : Entry → Bool = λ e. has from e && not (has to e) in
        record {
          from_only = f;
          to_only = t;
          front = all_append (λ x. above x ≡ false) lows (take m mids) (each_alone (has from) above false false (λ e off. ap (λ b. b && not (has to e)) off) lows lows_from)
              (each_both (has from) (has to) above true true false (λ e on under i. on i && not (under i)) (take m mids) front_from front_to);
          behind = all_append (λ x. has from x ≡ true) (drop m mids) highs behind_from highs_from;
          lows = ap (λ (xs : Entries). length xs) (sym low);
          highs = ap (λ (xs : Entries). length xs) (sym high);
        }

  abbrev pub IsMadeOf : Option Limit → Halved → ℕ → ℕ → Type 0
  IsMadeOf limit c low high = IsSpread from to c low high × IsWindow limit (shown_from limit (inner_of from to c)) (rest_from limit (inner_of from to c)) (inside (between from to) es)

  pub made_within : (limit : Option Limit) (low high len cut : ℕ) → low ≡ length lows → high ≡ length highs → len ≡ length es → cut ≡ cut_at limit (len - low - high)
      → (c : Halved) → c ≡ (take (low + cut) es, drop (low + cut) es) → IsMadeOf limit c low high
  made_within limit low high len cut is_low is_high is_len is_cut c is =
      let m : ℕ = cut_at limit (length mids) in
      let fit : m ≤ length mids = cut_fits limit (length mids) in
      let number : len - low - high ≡ length mids = omega (arith, is_low, is_high, is_len, parts_length) in
      let at : cut ≡ m = is_cut ∙ ap (cut_at limit) number in
      let halves : c ≡ made m fit = is ∙ (λ i. (take (is_low i + at i) es, drop (is_low i + at i) es)) ∙ (λ i. (taken m fit i, dropped m fit i)) in
      let inner : inner_of from to c ≡ (take m mids, drop m mids) = ap (inner_of from to) halves ∙ made_inner m fit in
      let rises : T (is_sorted entry_cmp mids) = is_sorted-where_key entry_cmp (has to) (inside from es) (is_sorted-where_key entry_cmp (has from) es rise) in (
        subst (λ (d : Halved). IsSpread from to d low high) (sym halves) (subst (λ n. IsSpread from to (made m fit) n high) (sym is_low) (subst (λ n. IsSpread from to (made m fit) (length lows) n) (sym is_high) (made_spread m fit))),
        subst (λ (d : Halved). IsWindow limit (shown_from limit d) (rest_from limit d) (inside (between from to) es)) (sym inner)
            (subst (λ (xs : Entries). IsWindow limit (shown_from limit (take m mids, drop m mids)) (rest_from limit (take m mids, drop m mids)) xs) (sym inside_mids) (window_cut limit mids rises)),
      )
