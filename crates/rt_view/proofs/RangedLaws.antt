-- Children in two halves round a range: none above it stands in front of the cut, and none below it behind.
use Rattle.std.specs.Prelude.{T, IfOk, OnErr, OnOk, is_err, ◌&&◌}
use Rattle.std.proofs.Common.{◌≡◌, ℕ, suc, ◌-◌, ◌≤◌, Bool, true, false, cond, not, [], ◌∷◌, ◌++◌, length, take, drop, refl, sym, ap, subst, ◌∙◌, arith, append-nil, Option, Some, None, ◌⊎◌, inl, inr, Result, Ok, Err}
use Rattle.std.specs.declared.cmp.Ordering.{Ordering}
use Rattle.std.specs.declared.cmp.Ordering.TheVariants.{Less, Equal, Greater}
use Rattle.std.specs.Ordering.{is_lt, is_eq, is_le, ordering_reverse}
use Rattle.std.specs.List.{AllByRecursion, filter}
use Rattle.std.specs.Option.{option_map_or}
use Rattle.std.specs.FinMap as map_of
use Rattle.std.specs.FinMap.Entries.{by_order, is_sorted, is_sorted-where_key, below_all}
use Rattle.std.proofs.lemmas.List.Elements.{filter-append}
use Rattle.rt_chain.specs.Chains.{half_between, is_half}
use Rattle.rt_chain.specs.declared.chain.Half.{Half}
use Rattle.rt_chain.specs.declared.chain.Half.TheVariants.{Front, Behind}
use Rattle.rt_tree.specs.PathTree.{Key, PathTree, first, second}
use Rattle.rt_order.specs.declared.cut.Cut.{Cut}
use Rattle.rt_order.specs.declared.cut.Range.{Range}
use Rattle.rt_order.specs.Cuts.{has, is_after}
use Rattle.rt_order.specs.Entries.{Entry, entry_cmp}
use Rattle.rt_order.specs.laws.EntryOrder.{entry_cmp_total, entry_cmp-IsAntisymmetric}
use Rattle.rt_order.proofs.CutLaws.{above_stays_after}
use Rattle.rt_view.specs.inside.Ranged.{Halved, IsSpread, between, inside, outside}
use Rattle.rt_view.specs.inside.ChildChain.{key_above, last_below, last_child, near_cut}
use Rattle.rt_view.specs.inside.Windows.{Entries, Goes, GoesAhead, GoesBack, Had, Puts, Taken, before, half_at, half_in, is_from_first, is_there, is_to_last, last_key}
use Rattle.rt_view.proofs.InsideLaws.{inside-append, inside-outside, inside-puts, inside-puts-beside, inside-removes, inside-removes-beside, inside-there, inside-there-beside, outside-puts-beside, outside-removes-beside, passed, removed, sorted_more}
use Rattle.rt_view.proofs.WindowLaws.{below_of, sorted-left, sorted-right}

abbrev puts : Entry → PathTree → Entries → Entries
puts e v es = map_of.put entry_cmp e v es

-- ---- tests that hold from an entry on, or up to one

abbrev pub Rises : (Entry → Bool) → Type 0
Rises p = (d e : Entry) → entry_cmp d e ≡ Less → p d ≡ true → p e ≡ true

abbrev pub Falls : (Entry → Bool) → Type 0
Falls p = (d e : Entry) → entry_cmp d e ≡ Less → p e ≡ true → p d ≡ true

and_true : (b : Bool) → (b && true) ≡ b
and_true true = refl
and_true false = refl

above_lower : (lower : Option Cut) (d e : Entry) → entry_cmp d e ≡ Less → option_map_or (λ cut. is_after cut d) lower true ≡ true → option_map_or (λ cut. is_after cut e) lower true ≡ true
above_lower None d e less h = refl
above_lower (Some cut) d e less h = above_stays_after cut d e less h

not_after : (s t : Bool) → (s ≡ true → t ≡ true) → not t ≡ true → not s ≡ true
not_after true t f h = ap not (sym (f refl)) ∙ h
not_after false t f h = refl

below_upper : (upper : Option Cut) (d e : Entry) → entry_cmp d e ≡ Less → option_map_or (λ cut. not (is_after cut e)) upper true ≡ true → option_map_or (λ cut. not (is_after cut d)) upper true ≡ true
below_upper None d e less h = refl
below_upper (Some cut) d e less h = not_after _ _ (above_stays_after cut d e less) h

has_from : (r : Range) → r.upper ≡ None → (e : Entry) → has r e ≡ option_map_or (λ cut. is_after cut e) r.lower true
has_from r none e = ap (λ u. option_map_or (λ cut. is_after cut e) r.lower true && option_map_or (λ cut. not (is_after cut e)) u true) none ∙ and_true _

has_to : (r : Range) → r.lower ≡ None → (e : Entry) → has r e ≡ option_map_or (λ cut. not (is_after cut e)) r.upper true
has_to r none e = ap (λ l. option_map_or (λ cut. is_after cut e) l true && option_map_or (λ cut. not (is_after cut e)) r.upper true) none

pub from_rises : (r : Range) → r.upper ≡ None → Rises (has r)
from_rises r none d e less h = has_from r none e ∙ above_lower r.lower d e less (sym (has_from r none d) ∙ h)

pub to_falls : (r : Range) → r.lower ≡ None → Falls (has r)
to_falls r none d e less h = has_to r none d ∙ below_upper r.upper d e less (sym (has_to r none e) ∙ h)

-- a range is what lies above its lower cut and below its upper one
pub has-between : (from to : Range) → from.upper ≡ None → to.lower ≡ None → (e : Entry) → has (between from to) e ≡ (has from e && has to e)
has-between from to f t e = sym (λ i. has_from from f e i && has_to to t e i)

pub not_above : (from to : Range) → from.upper ≡ None → to.lower ≡ None → (e : Entry) → has from e ≡ false → has (between from to) e ≡ false
not_above from to f t e low = has-between from to f t e ∙ ap (λ a. a && has to e) low

pub not_below : (from to : Range) → from.upper ≡ None → to.lower ≡ None → (e : Entry) → has from e ≡ true → has to e ≡ false → has (between from to) e ≡ false
not_below from to f t e above high = has-between from to f t e ∙ (λ i. above i && high i)

pub is_between : (from to : Range) → from.upper ≡ None → to.lower ≡ None → (e : Entry) → has from e ≡ true → has to e ≡ true → has (between from to) e ≡ true
is_between from to f t e above under = has-between from to f t e ∙ (λ i. above i && under i)

-- ---- at or below, at or above

le_cases : (o : Ordering) → is_le o ≡ true → (o ≡ Less) ⊎ (o ≡ Equal)
le_cases Less e = inl refl
le_cases Equal e = inr refl
le_cases Greater e = cc

rises_le : (p : Entry → Bool) → Rises p → (d e : Entry) → is_le (entry_cmp d e) ≡ true → p d ≡ true → p e ≡ true
rises_le p up d e le h = elim (le_cases (entry_cmp d e) le) [
  | inl less ↦ up d e less h
  | inr same ↦ ap p (sym (entry_cmp-IsAntisymmetric d e same)) ∙ h
]

falls_le : (p : Entry → Bool) → Falls p → (d e : Entry) → is_le (entry_cmp d e) ≡ true → p e ≡ true → p d ≡ true
falls_le p down d e le h = elim (le_cases (entry_cmp d e) le) [
  | inl less ↦ down d e less h
  | inr same ↦ ap p (entry_cmp-IsAntisymmetric d e same) ∙ h
]

-- an entry with the test isn't at or below one without
not_under : (p : Entry → Bool) → Rises p → (d e : Entry) → p d ≡ true → p e ≡ false → is_le (entry_cmp d e) ≡ false
not_under p up d e at off =
    elim (is_le (entry_cmp d e)) as (λ b. is_le (entry_cmp d e) ≡ b → b ≡ false) [
      | true ↦ λ t. let no : true ≡ false = sym (rises_le p up d e t at) ∙ off in cc
      | false ↦ λ t. refl
    ] refl

head_less : (x y : Entry × PathTree) (es : Entries) → T (is_sorted entry_cmp (x ∷ y ∷ es)) → entry_cmp x.0 y.0 ≡ Less
head_less x y es h = below_of x.0 y.0 (first _ _ (first (below_all entry_cmp x.0 (y ∷ es)) _ h))

pub head_below : (x : Entry × PathTree) (es : Entries) → T (is_sorted entry_cmp (x ∷ es)) → T (below_all entry_cmp x.0 es)
head_below x es h = first (below_all entry_cmp x.0 es) _ h

-- nothing above one without the test has it
pub none_passed : (p : Entry → Bool) → Falls p → (x : Entry) → p x ≡ false → (es : Entries) → T (below_all entry_cmp x es) → passed p es ≡ []
none_passed p down x off [] h = refl
none_passed p down x off (y ∷ es) h =
    elim (p y.0) as (λ b. p y.0 ≡ b → cond b (y ∷ passed p es) (passed p es) ≡ []) [
      | true ↦ λ t. let no : true ≡ false = sym (down x y.0 (below_of x y.0 (first _ _ h)) t) ∙ off in cc
      | false ↦ λ t. none_passed p down x off es (second (is_lt (entry_cmp x y.0)) _ h)
    ] refl

-- and all above one with it
pub all_passed : (p : Entry → Bool) → Rises p → (x : Entry) → p x ≡ true → (es : Entries) → T (below_all entry_cmp x es) → passed p es ≡ es
all_passed p up x at [] h = refl
all_passed p up x at (y ∷ es) h =
    ap (λ b. cond b (y ∷ passed p es) (passed p es)) (up x y.0 (below_of x y.0 (first _ _ h)) at)
    ∙ ap (λ (xs : Entries). y ∷ xs) (all_passed p up x at es (second (is_lt (entry_cmp x y.0)) _ h))

-- ---- in each half one cut decides

abbrev pub IsFront : Range → Range → Entries → Type 0
IsFront from to es = AllByRecursion (λ e. (has from e.0 && not (has to e.0)) ≡ false) es

abbrev pub IsBehind : Range → Entries → Type 0
IsBehind from es = AllByRecursion (λ e. has from e.0 ≡ true) es

by_first : (a b : Bool) → (a && not b) ≡ false → (a && b) ≡ a
by_first true true h = refl
by_first true false h = cc
by_first false b h = refl

pub front_inside : (from to : Range) → from.upper ≡ None → to.lower ≡ None → (es : Entries) → IsFront from to es → inside (between from to) es ≡ passed (has from) es
front_inside from to f t [] h = refl
front_inside from to f t (x ∷ es) h =
    let same : has (between from to) x.0 ≡ has from x.0 = has-between from to f t x.0 ∙ by_first (has from x.0) (has to x.0) h.0 in
    λ i. cond (same i) (x ∷ front_inside from to f t es h.1 i) (front_inside from to f t es h.1 i)

pub behind_inside : (from to : Range) → from.upper ≡ None → to.lower ≡ None → (es : Entries) → IsBehind from es → inside (between from to) es ≡ passed (has to) es
behind_inside from to f t [] h = refl
behind_inside from to f t (x ∷ es) h =
    let same : has (between from to) x.0 ≡ has to x.0 = has-between from to f t x.0 ∙ ap (λ a. a && has to x.0) h.0 in
    λ i. cond (same i) (x ∷ behind_inside from to f t es h.1 i) (behind_inside from to f t es h.1 i)

-- ---- where an entry comes to stand

-- a low child lies below all that stand behind
low_first : (p : Entry → Bool) → Rises p → (e : Entry) → p e ≡ false → (es : Entries) → AllByRecursion (λ x. p x.0 ≡ true) es → is_from_first es e ≡ false
low_first p up e off [] h = refl
low_first p up e off (x ∷ es) h = not_under p up x.0 e h.0 off

under_of : (a b : Bool) → (a && not b) ≡ false → a ≡ true → b ≡ true
under_of true true h is = refl
under_of true false h is = cc
under_of false b h is = cc

-- and a high one above all that stand in front
high_last : (p q : Entry → Bool) → Rises p → Falls q → (e : Entry) → p e ≡ true → q e ≡ false → (es : Entries) → AllByRecursion (λ x. (p x.0 && not (q x.0)) ≡ false) es → is_to_last es e ≡ false
high_last p q up down e is off [] h = refl
high_last p q up down e is off (x ∷ []) h =
    elim (is_le (entry_cmp e x.0)) as (λ b. is_le (entry_cmp e x.0) ≡ b → b ≡ false) [
      | true ↦ λ t.
          let under : q x.0 ≡ true = under_of (p x.0) (q x.0) h.0 (rises_le p up e x.0 t is) in
          let no : true ≡ false = sym (falls_le q down e x.0 t under) ∙ off in cc
      | false ↦ λ t. refl
    ] refl
high_last p q up down e is off (x ∷ y ∷ es) h = high_last p q up down e is off (y ∷ es) h.1

goes_front : (a b : Bool) → b ≡ false → half_between a b Front ≡ Front
goes_front true b h = refl
goes_front false true h = cc
goes_front false false h = refl

goes_behind : (a b : Bool) → a ≡ false → half_between a b Behind ≡ Behind
goes_behind true b h = cc
goes_behind false true h = refl
goes_behind false false h = refl

behind_first : (a b : Bool) → Behind ≡ half_between a b Front → b ≡ true
behind_first true b e = cc
behind_first false true e = refl
behind_first false false e = cc

front_last : (a b : Bool) → Front ≡ half_between a b Behind → a ≡ true
front_last true b e = refl
front_last false true e = cc
front_last false false e = cc

-- ---- all children of a half, when one is put or taken out

pub all-puts : (P : Entry → Type 0) (e : Entry) (v : PathTree) (es : Entries) → P e → AllByRecursion (λ x. P x.0) es → AllByRecursion (λ x. P x.0) (puts e v es)
all-puts P e v [] is h = (is, tt)
all-puts P e v (x ∷ es) is h =
    elim (entry_cmp e x.0) as (λ o. AllByRecursion (λ y. P y.0) (by_order o ((e, v) ∷ x ∷ es) ((x.0, v) ∷ es) (x ∷ puts e v es))) [
      | Less ↦ (is, h)
      | Equal ↦ h
      | Greater ↦ (h.0, all-puts P e v es is h.1)
    ]

pub all-removes : (P : Entry → Type 0) (e : Entry) (es : Entries) → AllByRecursion (λ x. P x.0) es → AllByRecursion (λ x. P x.0) (removed e es)
all-removes P e [] h = tt
all-removes P e (x ∷ es) h =
    elim (is_eq (entry_cmp e x.0)) as (λ b. AllByRecursion (λ y. P y.0) (cond b es (x ∷ removed e es))) [
      | true ↦ h.1
      | false ↦ (h.0, all-removes P e es h.1)
    ]

pub all_left : (P : Entry → Type 0) (es ds : Entries) → AllByRecursion (λ x. P x.0) (es ++ ds) → AllByRecursion (λ x. P x.0) es
all_left P [] ds h = tt
all_left P (x ∷ es) ds h = (h.0, all_left P es ds h.1)

pub all_right : (P : Entry → Type 0) (es ds : Entries) → AllByRecursion (λ x. P x.0) (es ++ ds) → AllByRecursion (λ x. P x.0) ds
all_right P [] ds h = h
all_right P (x ∷ es) ds h = all_right P es ds h.1

pub all_append : (P : Entry → Type 0) (es ds : Entries) → AllByRecursion (λ x. P x.0) es → AllByRecursion (λ x. P x.0) ds → AllByRecursion (λ x. P x.0) (es ++ ds)
all_append P [] ds h g = g
all_append P (x ∷ es) ds h g = (h.0, all_append P es ds h.1 g)

-- ---- the last child below an entry

below_passed : (e : Entry) (p : Entry → Bool) (es : Entries) → filter (λ (x : Entry × PathTree). not (is_le (entry_cmp e x.0))) (passed p es) ≡ passed p (filter (λ (x : Entry × PathTree). not (is_le (entry_cmp e x.0))) es)
below_passed e p [] = refl
below_passed e p (x ∷ es) =
    let low = λ (xs : Entries). filter (λ (y : Entry × PathTree). not (is_le (entry_cmp e y.0))) xs in
    elim (p x.0) as (λ b. p x.0 ≡ b → low (cond b (x ∷ passed p es) (passed p es)) ≡ passed p (cond (not (is_le (entry_cmp e x.0))) (x ∷ low es) (low es))) [
      | true ↦ λ t. elim (not (is_le (entry_cmp e x.0))) as (λ c. cond c (x ∷ low (passed p es)) (low (passed p es)) ≡ passed p (cond c (x ∷ low es) (low es))) [
        | true ↦ ap (λ (xs : Entries). x ∷ xs) (below_passed e p es) ∙ sym (ap (λ b. cond b (x ∷ passed p (low es)) (passed p (low es))) t)
        | false ↦ below_passed e p es
      ]
      | false ↦ λ t. elim (not (is_le (entry_cmp e x.0))) as (λ c. low (passed p es) ≡ passed p (cond c (x ∷ low es) (low es))) [
        | true ↦ below_passed e p es ∙ sym (ap (λ b. cond b (x ∷ passed p (low es)) (passed p (low es))) t)
        | false ↦ below_passed e p es
      ]
    ] refl

-- the last one with the test, where it holds above each entry where it holds
last_above : (r : Range) → Rises (has r) → (es : Entries) → T (is_sorted entry_cmp es) → last_key (passed (has r) es) ≡ key_above r (last_child es)
last_above r up [] h = refl
last_above r up (x ∷ []) h =
    elim (has r x.0) as (λ b. last_key (cond b (x ∷ []) []) ≡ cond b (Some x.0.1) None) [
      | true ↦ refl
      | false ↦ refl
    ]
last_above r up (x ∷ y ∷ es) h =
    let rest = last_above r up (y ∷ es) (sorted_more x (y ∷ es) h) in
    elim (has r x.0) as (λ b. has r x.0 ≡ b → last_key (cond b (x ∷ passed (has r) (y ∷ es)) (passed (has r) (y ∷ es))) ≡ key_above r (last_child (y ∷ es))) [
      | true ↦ λ t.
          let next : has r y.0 ≡ true = up x.0 y.0 (head_less x y es h) t in
          let here : passed (has r) (y ∷ es) ≡ y ∷ passed (has r) es = ap (λ b. cond b (y ∷ passed (has r) es) (passed (has r) es)) next in
          ap (λ (xs : Entries). last_key (x ∷ xs)) here ∙ ap last_key (sym here) ∙ rest
      | false ↦ λ t. rest
    ] refl

-- below an entry with the test all have it
all_below : (p : Entry → Bool) → Falls p → (e : Entry) → p e ≡ true → (es : Entries)
    → passed p (filter (λ (x : Entry × PathTree). not (is_le (entry_cmp e x.0))) es) ≡ filter (λ (x : Entry × PathTree). not (is_le (entry_cmp e x.0))) es
all_below p down e is [] = refl
all_below p down e is (x ∷ es) =
    let low = filter (λ (y : Entry × PathTree). not (is_le (entry_cmp e y.0))) es in
    elim (is_le (entry_cmp e x.0)) as (λ b. is_le (entry_cmp e x.0) ≡ b → passed p (cond (not b) (x ∷ low) low) ≡ cond (not b) (x ∷ low) low) [
      | true ↦ λ t. all_below p down e is es
      | false ↦ λ t.
          let less : entry_cmp x.0 e ≡ Less = entry_cmp_total.antisymm x.0 e ∙ ap ordering_reverse (not_le (entry_cmp e x.0) t) in
          ap (λ b. cond b (x ∷ passed p low) (passed p low)) (down x.0 e less is) ∙ ap (λ (xs : Entries). x ∷ xs) (all_below p down e is es)
    ] refl
  where
    not_le : (o : Ordering) → is_le o ≡ false → o ≡ Greater
    not_le Less h = cc
    not_le Equal h = cc
    not_le Greater h = refl

-- all of these lie above the lower cut
last_all : (r : Range) (e : Entry) (es : Entries) → AllByRecursion (λ x. has r x.0 ≡ true) es → key_above r (last_below e es) ≡ before e es
last_all r e es h = at (filter (λ (x : Entry × PathTree). not (is_le (entry_cmp e x.0))) es) (some es h)
  where
    at : (ds : Entries) → AllByRecursion (λ x. has r x.0 ≡ true) ds → key_above r (last_child ds) ≡ last_key ds
    at [] g = refl
    at (x ∷ []) g = ap (λ b. cond b (Some x.0.1) None) g.0
    at (x ∷ y ∷ ds) g = at (y ∷ ds) g.1

    some : (ds : Entries) → AllByRecursion (λ x. has r x.0 ≡ true) ds → AllByRecursion (λ x. has r x.0 ≡ true) (filter (λ (x : Entry × PathTree). not (is_le (entry_cmp e x.0))) ds)
    some [] g = tt
    some (x ∷ ds) g =
        let low = filter (λ (y : Entry × PathTree). not (is_le (entry_cmp e y.0))) ds in
        elim (not (is_le (entry_cmp e x.0))) as (λ b. AllByRecursion (λ y. has r y.0 ≡ true) (cond b (x ∷ low) low)) [
          | true ↦ (g.0, some ds g.1)
          | false ↦ some ds g.1
        ]

-- ---- next to the cut

drop_more : (x : Entry × PathTree) (es : Entries) (n : ℕ) → n ≤ length es → drop (length (x ∷ es) - n) (x ∷ es) ≡ drop (length es - n) es
drop_more x es n many = ap (λ m. drop m (x ∷ es)) (more (length es) n many)
  where
    more : (m n : ℕ) → n ≤ m → suc m - n ≡ suc (m - n)
    more m n h = omega (arith, h)

short : (p : Entry → Bool) (es : Entries) → length (passed p es) ≤ length es
short p [] = omega arith
short p (x ∷ es) =
    elim (p x.0) as (λ b. length (cond b (x ∷ passed p es) (passed p es)) ≤ length (x ∷ es)) [
      | true ↦ omega (arith, short p es)
      | false ↦ omega (arith, short p es)
    ]

near_front : (p : Entry → Bool) → Rises p → (es : Entries) → T (is_sorted entry_cmp es) → near_cut Front (length (passed p es)) es ≡ passed p es
near_front p up [] h = refl
near_front p up (x ∷ es) h =
    elim (p x.0) as (λ b. p x.0 ≡ b → drop (length (x ∷ es) - length (cond b (x ∷ passed p es) (passed p es))) (x ∷ es) ≡ cond b (x ∷ passed p es) (passed p es)) [
      | true ↦ λ t.
          let all : passed p es ≡ es = all_passed p up x.0 t es (head_below x es h) in
          ap (λ (xs : Entries). drop (length (x ∷ es) - length (x ∷ xs)) (x ∷ es)) all ∙ ap (λ m. drop m (x ∷ es)) (none (length (x ∷ es))) ∙ ap (λ (xs : Entries). x ∷ xs) (sym all)
      | false ↦ λ t. drop_more x es (length (passed p es)) (short p es) ∙ near_front p up es (sorted_more x es h)
    ] refl
  where
    none : (n : ℕ) → n - n ≡ 0
    none n = omega arith

near_behind : (p : Entry → Bool) → Falls p → (es : Entries) → T (is_sorted entry_cmp es) → near_cut Behind (length (passed p es)) es ≡ passed p es
near_behind p down [] h = refl
near_behind p down (x ∷ es) h =
    elim (p x.0) as (λ b. p x.0 ≡ b → take (length (cond b (x ∷ passed p es) (passed p es))) (x ∷ es) ≡ cond b (x ∷ passed p es) (passed p es)) [
      | true ↦ λ t. ap (λ (xs : Entries). x ∷ xs) (near_behind p down es (sorted_more x es h))
      | false ↦ λ t.
          let none : passed p es ≡ [] = none_passed p down x.0 t es (head_below x es h) in
          ap (λ (xs : Entries). take (length xs) (x ∷ es)) none ∙ sym none
    ] refl

-- ---- two halves round a range

abbrev pub inner_of : Range → Range → Halved → Halved
inner_of from to c = (inside (between from to) c.0, inside (between from to) c.1)

pub inside_fits : (r : Range) (es : Entries) → length (inside r es) ≤ length es
inside_fits r es = omega (arith, inside-outside r es)

both_of : (a b : Bool) → (a && b) ≡ true → (a ≡ true) × (b ≡ true)
both_of true b h = (refl, h)
both_of false b h = cc

-- with the last one below the cut, all are
ends_low : (p : Entry → Bool) → Rises p → (es : Entries) (x : Entry × PathTree) → T (is_sorted entry_cmp (es ++ x ∷ [])) → p x.0 ≡ false → passed p (es ++ x ∷ []) ≡ []
ends_low p up [] x h off = ap (λ b. cond b (x ∷ []) []) off
ends_low p up (y ∷ es) x h off =
    let less : entry_cmp y.0 x.0 ≡ Less = last_less es (head_below y (es ++ x ∷ []) h) in
    elim (p y.0) as (λ b. p y.0 ≡ b → cond b (y ∷ passed p (es ++ x ∷ [])) (passed p (es ++ x ∷ [])) ≡ []) [
      | true ↦ λ t. let no : true ≡ false = sym (up y.0 x.0 less t) ∙ off in cc
      | false ↦ λ t. ends_low p up es x (sorted_more y (es ++ x ∷ []) h) off
    ] refl
  where
    last_less : (ds : Entries) → T (below_all entry_cmp y.0 (ds ++ x ∷ [])) → entry_cmp y.0 x.0 ≡ Less
    last_less [] g = below_of y.0 x.0 (first _ _ g)
    last_less (d ∷ ds) g = last_less ds (second (is_lt (entry_cmp y.0 d.0)) _ g)

module _ (from to : Range) (c : Halved) (low high : ℕ) (s : IsSpread from to c low high) where
  pub front_fits : (low ≤ length c.0) × (length c.0 - low ≡ length (inside (between from to) c.0))
  front_fits = (omega (arith, inside-outside (between from to) c.0, s.lows), omega (arith, inside-outside (between from to) c.0, s.lows))

  pub behind_fits : (high ≤ length c.1) × (length c.1 - high ≡ length (inside (between from to) c.1))
  behind_fits = (omega (arith, inside-outside (between from to) c.1, s.highs), omega (arith, inside-outside (between from to) c.1, s.highs))

  pub front_in : (h : Half) → h ≡ Front → (low ≤ length (half_in h c)) × (length (half_in h c) - low ≡ length (half_in h (inner_of from to c)))
  front_in h is = subst (λ (k : Half). (low ≤ length (half_in k c)) × (length (half_in k c) - low ≡ length (half_in k (inner_of from to c)))) (sym is) front_fits

  pub behind_in : (h : Half) → h ≡ Behind → (high ≤ length (half_in h c)) × (length (half_in h c) - high ≡ length (half_in h (inner_of from to c)))
  behind_in h is = subst (λ (k : Half). (high ≤ length (half_in k c)) × (length (half_in k c) - high ≡ length (half_in k (inner_of from to c)))) (sym is) behind_fits

  in_front : inside (between from to) c.0 ≡ passed (has from) c.0
  in_front = front_inside from to s.from_only s.to_only c.0 s.front

  in_behind : inside (between from to) c.1 ≡ passed (has to) c.1
  in_behind = behind_inside from to s.from_only s.to_only c.1 s.behind

  up : Rises (has from)
  up = from_rises from s.from_only

  down : Falls (has to)
  down = to_falls to s.to_only

  -- the children of the range in a half stand next to the cut
  pub near_inner : (h : Half) → T (is_sorted entry_cmp (c.0 ++ c.1)) → near_cut h (length (half_in h (inner_of from to c))) (half_in h c) ≡ half_in h (inner_of from to c)
  near_inner Front rise = ap (λ (xs : Entries). near_cut Front (length xs) c.0) in_front ∙ near_front (has from) up c.0 (sorted-left c.0 c.1 rise) ∙ sym in_front
  near_inner Behind rise = ap (λ (xs : Entries). near_cut Behind (length xs) c.1) in_behind ∙ near_behind (has to) down c.1 (sorted-right c.0 c.1 rise) ∙ sym in_behind

  pub near_fits : (h : Half) → length (half_in h (inner_of from to c)) ≤ length (half_in h c)
  near_fits Front = inside_fits (between from to) c.0
  near_fits Behind = inside_fits (between from to) c.1

  -- the child of the range before an entry of it
  pub before_inner : (h : Half) (e : Entry) → T (is_sorted entry_cmp (c.0 ++ c.1)) → has (between from to) e ≡ true → key_above from (last_below e (half_in h c)) ≡ before e (half_in h (inner_of from to c))
  before_inner Front e rise is =
      let low_ones = filter (λ (x : Entry × PathTree). not (is_le (entry_cmp e x.0))) c.0 in
      sym (ap (before e) in_front ∙ ap last_key (below_passed e (has from) c.0)
      ∙ last_above from up low_ones (is_sorted-where_key entry_cmp (λ x. not (is_le (entry_cmp e x))) c.0 (sorted-left c.0 c.1 rise)))
  before_inner Behind e rise is =
      let parts = both_of (has from e) (has to e) (sym (has-between from to s.from_only s.to_only e) ∙ is) in
      last_all from e c.1 s.behind ∙ sym (ap (before e) in_behind ∙ ap last_key (below_passed e (has to) c.1 ∙ all_below (has to) down e parts.1 c.1))

  module _ (d : Halved) (e : Entry) where
    -- whether it lies in the range
    is_in : (b : Bool) → (has from e && has to e) ≡ b → has (between from to) e ≡ b
    is_in b at = has-between from to s.from_only s.to_only e ∙ at

    -- ---- counted anew, where the children of the range are those that they were

    same_length : inner_of from to d ≡ inner_of from to c → (length (inside (between from to) d.0) ≡ length (inside (between from to) c.0)) × (length (inside (between from to) d.1) ≡ length (inside (between from to) c.1))
    same_length same = (ap (λ (x : Halved). length x.0) same, ap (λ (x : Halved). length x.1) same)

    pub counts_fit : inner_of from to d ≡ inner_of from to c → (length (inside (between from to) c.0) ≤ length d.0) × (length (inside (between from to) c.1) ≤ length d.1)
    counts_fit same =
        let l = same_length same in
        (omega (arith, inside_fits (between from to) d.0, l.0), omega (arith, inside_fits (between from to) d.1, l.1))

    counted : (n m : ℕ) → inner_of from to d ≡ inner_of from to c → IsFront from to d.0 × IsBehind from d.1 → n ≡ length d.0 - length (inside (between from to) c.0) → m ≡ length d.1 - length (inside (between from to) c.1) → IsSpread from to d n m
    counted n m same at low_is high_is =
        let l = same_length same in
        record {
          from_only = s.from_only;
          to_only = s.to_only;
          front = at.0;
          behind = at.1;
          lows = omega (arith, low_is, inside-outside (between from to) d.0, l.0);
          highs = omega (arith, high_is, inside-outside (between from to) d.1, l.1);
        }

    -- where those beside it are
    uncounted : (outside (between from to) d.0 ≡ outside (between from to) c.0) × (outside (between from to) d.1 ≡ outside (between from to) c.1) → IsFront from to d.0 × IsBehind from d.1 → IsSpread from to d low high
    uncounted same at = record {
      from_only = s.from_only;
      to_only = s.to_only;
      front = at.0;
      behind = at.1;
      lows = s.lows ∙ ap (λ (es : Entries). length es) (sym same.0);
      highs = s.highs ∙ ap (λ (es : Entries). length es) (sym same.1);
    }

    -- ---- a child is put

    -- a half in which it may stand
    abbrev Fits : Half → Type 0
    Fits Front = (has from e && not (has to e)) ≡ false
    Fits Behind = has from e ≡ true

    lands : (v : PathTree) (h : Half) → Fits h → Puts h e v c d → IsFront from to d.0 × IsBehind from d.1
    lands v Front at q = (subst (IsFront from to) (sym q.0) (all-puts (λ x. (has from x && not (has to x)) ≡ false) e v c.0 at s.front), subst (IsBehind from) (sym q.1) s.behind)
    lands v Behind at q = (subst (IsFront from to) (sym q.0) s.front, subst (IsBehind from) (sym q.1) (all-puts (λ x. has from x ≡ true) e v c.1 at s.behind))

    -- beside the range, where the cut lies: below it in front, above it behind
    beside_fits : (side h : Half) → side ≡ cond (has from e) Behind Front → (has from e && has to e) ≡ false → h ≡ half_at e side c → Fits h
    beside_fits side h is off at =
        elim (has from e) as (λ b. has from e ≡ b → side ≡ cond b Behind Front → (b && has to e) ≡ false → Fits h) [
          | true ↦ λ t f o. subst Fits (sym (at ∙ ap (λ x. half_at e x c) f ∙ goes_behind (is_to_last c.0 e) (is_from_first c.1 e) (high_last (has from) (has to) up down e t o c.0 s.front))) t
          | false ↦ λ t f o. subst Fits (sym (at ∙ ap (λ x. half_at e x c) f ∙ goes_front (is_to_last c.0 e) (is_from_first c.1 e) (low_first (has from) up e t c.1 s.behind))) (ap (λ a. a && not (has to e)) t)
        ] refl is off

    pub beside_stays : (v : PathTree) (h : Half) → (has from e && has to e) ≡ false → Puts h e v c d → inner_of from to d ≡ inner_of from to c
    beside_stays v Front off q = λ i. ((ap (inside (between from to)) q.0 ∙ inside-puts-beside (between from to) e v c.0 (is_in false off)) i, inside (between from to) (q.1 i))
    beside_stays v Behind off q = λ i. (inside (between from to) (q.0 i), (ap (inside (between from to)) q.1 ∙ inside-puts-beside (between from to) e v c.1 (is_in false off)) i)

    pub beside_put : (v : PathTree) (side h : Half) (n m : ℕ) → side ≡ cond (has from e) Behind Front → (has from e && has to e) ≡ false → h ≡ half_at e side c → Puts h e v c d
        → n ≡ length d.0 - length (inside (between from to) c.0) → m ≡ length d.1 - length (inside (between from to) c.1) → IsSpread from to d n m
    beside_put v side h n m is off at q low_is high_is = counted n m (beside_stays v h off q) (lands v h (beside_fits side h is off at) q) low_is high_is

    within : (has from e && has to e) ≡ true → (h : Half) → Fits h
    within at Front = let both = both_of (has from e) (has to e) at in λ i. both.0 i && not (both.1 i)
    within at Behind = (both_of (has from e) (has to e) at).0

    others_stay : (v : PathTree) (h : Half) → (has from e && has to e) ≡ true → Puts h e v c d → (outside (between from to) d.0 ≡ outside (between from to) c.0) × (outside (between from to) d.1 ≡ outside (between from to) c.1)
    others_stay v Front at q = (ap (outside (between from to)) q.0 ∙ outside-puts-beside (between from to) e v c.0 (is_in true at), ap (outside (between from to)) q.1)
    others_stay v Behind at q = (ap (outside (between from to)) q.0, ap (outside (between from to)) q.1 ∙ outside-puts-beside (between from to) e v c.1 (is_in true at))

    pub mid_put : (v : PathTree) (h : Half) → (has from e && has to e) ≡ true → Puts h e v c d → IsSpread from to d low high
    mid_put v h at q = uncounted (others_stay v h at q) (lands v h (within at h) q)

    pub mid_puts : (v : PathTree) (h : Half) → T (is_sorted entry_cmp (c.0 ++ c.1)) → (has from e && has to e) ≡ true → Puts h e v c d → Puts h e v (inner_of from to c) (inner_of from to d)
    mid_puts v Front rise at q = (ap (inside (between from to)) q.0 ∙ inside-puts (between from to) e v c.0 (sorted-left c.0 c.1 rise) (is_in true at), ap (inside (between from to)) q.1)
    mid_puts v Behind rise at q = (ap (inside (between from to)) q.0, ap (inside (between from to)) q.1 ∙ inside-puts (between from to) e v c.1 (sorted-right c.0 c.1 rise) (is_in true at))

    -- a child that lands in another half than the one that is named finds one of the range there
    some_behind : (es : Entries) → IsBehind from es → has to e ≡ true → is_from_first es e ≡ true → 1 ≤ length (inside (between from to) es)
    some_behind [] h at f = cc
    some_behind (x ∷ es) h at f =
        let is : has (between from to) x.0 ≡ true = is_between from to s.from_only s.to_only x.0 h.0 (falls_le (has to) down x.0 e f at) in
        subst (λ b. 1 ≤ length (cond b (x ∷ inside (between from to) es) (inside (between from to) es))) (sym is) (omega arith)

    some_front : (es : Entries) → IsFront from to es → has from e ≡ true → is_to_last es e ≡ true → 1 ≤ length (inside (between from to) es)
    some_front [] h at f = cc
    some_front (x ∷ []) h at f =
        let above : has from x.0 ≡ true = rises_le (has from) up e x.0 f at in
        let is : has (between from to) x.0 ≡ true = is_between from to s.from_only s.to_only x.0 above (under_of (has from x.0) (has to x.0) h.0 above) in
        subst (λ b. 1 ≤ length (cond b (x ∷ []) (inside (between from to) []))) (sym is) (omega arith)
    some_front (x ∷ y ∷ es) h at f =
        elim (has (between from to) x.0) as (λ b. 1 ≤ length (cond b (x ∷ inside (between from to) (y ∷ es)) (inside (between from to) (y ∷ es)))) [
          | true ↦ omega arith
          | false ↦ some_front (y ∷ es) h.1 at f
        ]

    pub mid_full : (at_cut h : Half) → (has from e && has to e) ≡ true → h ≡ half_at e at_cut c → is_half at_cut (Some h) ≡ false → 1 ≤ length (half_in h (inner_of from to c))
    mid_full Front Front at is off = cc
    mid_full Front Behind at is off = some_behind c.1 s.behind (both_of (has from e) (has to e) at).1 (behind_first (is_to_last c.0 e) (is_from_first c.1 e) is)
    mid_full Behind Front at is off = some_front c.0 s.front (both_of (has from e) (has to e) at).0 (front_last (is_to_last c.0 e) (is_from_first c.1 e) is)
    mid_full Behind Behind at is off = cc

    -- all of the range, with it
    pub mid_whole : (v : PathTree) → T (is_sorted entry_cmp (c.0 ++ c.1)) → (has from e && has to e) ≡ true → d.0 ++ d.1 ≡ puts e v (c.0 ++ c.1)
        → inside (between from to) d.0 ++ inside (between from to) d.1 ≡ puts e v (inside (between from to) c.0 ++ inside (between from to) c.1)
    mid_whole v rise at whole =
        sym (inside-append (between from to) d.0 d.1) ∙ ap (inside (between from to)) whole ∙ inside-puts (between from to) e v (c.0 ++ c.1) rise (is_in true at) ∙ ap (puts e v) (inside-append (between from to) c.0 c.1)

    pub mid_there : (h : Half) → (has from e && has to e) ≡ true → is_there e (half_in h c) ≡ is_there e (half_in h (inner_of from to c))
    mid_there Front at = sym (inside-there (between from to) e c.0 (is_in true at))
    mid_there Behind at = sym (inside-there (between from to) e c.1 (is_in true at))

    beside_there : (h : Half) → (has from e && has to e) ≡ false → false ≡ is_there e (half_in h (inner_of from to c))
    beside_there Front off = sym (inside-there-beside (between from to) e c.0 (is_in false off))
    beside_there Behind off = sym (inside-there-beside (between from to) e c.1 (is_in false off))

    -- ---- a child is taken out

    left : Taken e c d → IsFront from to d.0 × IsBehind from d.1
    left t = (subst (IsFront from to) (sym t.0) (all-removes (λ x. (has from x && not (has to x)) ≡ false) e c.0 s.front), subst (IsBehind from) (sym t.1) (all-removes (λ x. has from x ≡ true) e c.1 s.behind))

    pub taken_stays : (has from e && has to e) ≡ false → Taken e c d → inner_of from to d ≡ inner_of from to c
    taken_stays off t = λ i. (
      (ap (inside (between from to)) t.0 ∙ inside-removes-beside (between from to) e c.0 (is_in false off)) i,
      (ap (inside (between from to)) t.1 ∙ inside-removes-beside (between from to) e c.1 (is_in false off)) i,
    )

    pub beside_taken : (n m : ℕ) → (has from e && has to e) ≡ false → Taken e c d → n ≡ length d.0 - length (inside (between from to) c.0) → m ≡ length d.1 - length (inside (between from to) c.1) → IsSpread from to d n m
    beside_taken n m off t low_is high_is = counted n m (taken_stays off t) (left t) low_is high_is

    pub mid_taken : (has from e && has to e) ≡ true → Taken e c d → IsSpread from to d low high
    mid_taken at t = uncounted (
      ap (outside (between from to)) t.0 ∙ outside-removes-beside (between from to) e c.0 (is_in true at),
      ap (outside (between from to)) t.1 ∙ outside-removes-beside (between from to) e c.1 (is_in true at),
    ) (left t)

    pub taken_inner : Taken e c d → Taken e (inner_of from to c) (inner_of from to d)
    taken_inner t = (ap (inside (between from to)) t.0 ∙ inside-removes (between from to) e c.0, ap (inside (between from to)) t.1 ∙ inside-removes (between from to) e c.1)

    pub mid_had : (answer : Option Half) → (has from e && has to e) ≡ true → Had e answer c → Had e answer (inner_of from to c)
    mid_had answer at h = (h.0 ∙ mid_there Front at, h.1 ∙ mid_there Behind at)

    pub beside_had : (has from e && has to e) ≡ false → Had e None (inner_of from to c)
    beside_had off = (beside_there Front off, beside_there Behind off)

  -- ---- a child crosses the cut

  abbrev pub Crossed : (Halved → Halved → Type 0) → Halved → Type 0
  Crossed Goes d = Goes (inner_of from to c) (inner_of from to d) × IsSpread from to d low high

  goes_back : (d : Halved) (child : Option (Key × PathTree)) → T (is_sorted entry_cmp (c.0 ++ c.1)) → (length (inside (between from to) c.0) ≡ 0 → ⊥) → GoesBack child c d → Crossed (GoesBack child) d
  goes_back d None rise some g = absurd (some (ap (λ (es : Entries). length (inside (between from to) es)) g.0))
  goes_back d (Some k) rise some g = at (has from g.0) refl
    where
      at : (b : Bool) → has from g.0 ≡ b → Crossed (GoesBack (Some k)) d
      at false off =
          let p : Entry × PathTree = (g.0, k.1) in
          let up_to : T (is_sorted entry_cmp (d.0 ++ p ∷ [])) = subst (λ (es : Entries). T (is_sorted entry_cmp es)) g.2 (sorted-left c.0 c.1 rise) in
          absurd (some (ap (λ (es : Entries). length es) (in_front ∙ ap (passed (has from)) g.2 ∙ ends_low (has from) up d.0 p up_to off)))
      at true on =
          let p : Entry × PathTree = (g.0, k.1) in
          let last : (has from p.0 && not (has to p.0)) ≡ false = (all_right (λ x. (has from x && not (has to x)) ≡ false) d.0 (p ∷ []) (subst (IsFront from to) g.2 s.front)).0 in
          let under : has to p.0 ≡ true = under_of (has from p.0) (has to p.0) last on in
          let is : has (between from to) p.0 ≡ true = is_between from to s.from_only s.to_only p.0 on under in
          let front : inside (between from to) c.0 ≡ inside (between from to) d.0 ++ p ∷ [] = ap (inside (between from to)) g.2 ∙ inside-append (between from to) d.0 (p ∷ [])
          ∙ ap (λ b. inside (between from to) d.0 ++ cond b (p ∷ []) []) is in
          let behind : inside (between from to) d.1 ≡ p ∷ inside (between from to) c.1 = ap (inside (between from to)) g.3 ∙ ap (λ b. cond b (p ∷ inside (between from to) c.1) (inside (between from to) c.1)) is in
          let others : outside (between from to) c.0 ≡ outside (between from to) d.0 = ap (outside (between from to)) g.2 ∙ filter-append (λ (e : Entry × PathTree). not (has (between from to) e.0)) d.0 (p ∷ [])
          ∙ ap (λ b. outside (between from to) d.0 ++ cond (not b) (p ∷ []) []) is ∙ append-nil (outside (between from to) d.0) in
          let others_behind : outside (between from to) d.1 ≡ outside (between from to) c.1 = ap (outside (between from to)) g.3 ∙ ap (λ b. cond (not b) (p ∷ outside (between from to) c.1) (outside (between from to) c.1)) is in (
            (p.0, g.1, front, behind),
            record {
              from_only = s.from_only;
              to_only = s.to_only;
              front = all_left (λ x. (has from x && not (has to x)) ≡ false) d.0 (p ∷ []) (subst (IsFront from to) g.2 s.front);
              behind = subst (IsBehind from) (sym g.3) (on, s.behind);
              lows = s.lows ∙ ap (λ (es : Entries). length es) others;
              highs = s.highs ∙ ap (λ (es : Entries). length es) (sym others_behind);
            },
          )

  goes_ahead : (d : Halved) (child : Option (Key × PathTree)) → T (is_sorted entry_cmp (c.0 ++ c.1)) → (length (inside (between from to) c.1) ≡ 0 → ⊥) → GoesAhead child c d → Crossed (GoesAhead child) d
  goes_ahead d None rise some g = absurd (some (ap (λ (es : Entries). length (inside (between from to) es)) g.0))
  goes_ahead d (Some k) rise some g = at (has to g.0) refl
    where
      at : (b : Bool) → has to g.0 ≡ b → Crossed (GoesAhead (Some k)) d
      at false off =
          let p : Entry × PathTree = (g.0, k.1) in
          let from_it : T (is_sorted entry_cmp (p ∷ d.1)) = subst (λ (es : Entries). T (is_sorted entry_cmp es)) g.2 (sorted-right c.0 c.1 rise) in
          absurd (some (ap (λ (es : Entries). length es) (in_behind ∙ ap (passed (has to)) g.2 ∙ ap (λ b. cond b (p ∷ passed (has to) d.1) (passed (has to) d.1)) off ∙ none_passed (has to) down p.0 off d.1 (head_below p d.1 from_it))))
      at true under =
          let p : Entry × PathTree = (g.0, k.1) in
          let all : IsBehind from (p ∷ d.1) = subst (IsBehind from) g.2 s.behind in
          let is : has (between from to) p.0 ≡ true = is_between from to s.from_only s.to_only p.0 all.0 under in
          let behind : inside (between from to) c.1 ≡ p ∷ inside (between from to) d.1 = ap (inside (between from to)) g.2 ∙ ap (λ b. cond b (p ∷ inside (between from to) d.1) (inside (between from to) d.1)) is in
          let front : inside (between from to) d.0 ≡ inside (between from to) c.0 ++ p ∷ [] = ap (inside (between from to)) g.3 ∙ inside-append (between from to) c.0 (p ∷ [])
          ∙ ap (λ b. inside (between from to) c.0 ++ cond b (p ∷ []) []) is in
          let others : outside (between from to) d.0 ≡ outside (between from to) c.0 = ap (outside (between from to)) g.3 ∙ filter-append (λ (e : Entry × PathTree). not (has (between from to) e.0)) c.0 (p ∷ [])
          ∙ ap (λ b. outside (between from to) c.0 ++ cond (not b) (p ∷ []) []) is ∙ append-nil (outside (between from to) c.0) in
          let others_behind : outside (between from to) c.1 ≡ outside (between from to) d.1 = ap (outside (between from to)) g.2 ∙ ap (λ b. cond (not b) (p ∷ outside (between from to) d.1) (outside (between from to) d.1)) is in (
            (p.0, g.1, behind, front),
            record {
              from_only = s.from_only;
              to_only = s.to_only;
              front = subst (IsFront from to) (sym g.3) (all_append (λ x. (has from x && not (has to x)) ≡ false) c.0 (p ∷ []) s.front ((λ i. all.0 i && not (under i)), tt));
              behind = all.1;
              lows = s.lows ∙ ap (λ (es : Entries). length es) (sym others);
              highs = s.highs ∙ ap (λ (es : Entries). length es) others_behind;
            },
          )

  pub goes_over : (h : Half) (d : Halved) (child : Option (Key × PathTree)) → T (is_sorted entry_cmp (c.0 ++ c.1)) → (length (half_in h (inner_of from to c)) ≡ 0 → ⊥) → Goes h child c d → Crossed (Goes h child) d
  goes_over Front d child rise some g = goes_back d child rise some g
  goes_over Behind d child rise some g = goes_ahead d child rise some g

no_length : (es : Entries) → length es ≡ 0 → es ≡ []
no_length [] h = refl
no_length (x ∷ es) h = absurd (omega (arith, h))

pub nothing_goes : (h : Half) (c : Halved) → length (half_in h c) ≡ 0 → Goes h None c c
nothing_goes Front c none = (no_length c.0 none, refl)
nothing_goes Behind c none = (no_length c.1 none, refl)

-- ---- as a result has it

pub on_ok : {A E : Type 0} (r : Result A E) (P : Type 0) → is_err r ≡ true → OnOk r P
on_ok (Ok x) P h = cc
on_ok (Err e) P h = tt

pub either_way : {A E : Type 0} (r : Result A E) (P : A → Type 0) (Q R : Type 0) → IfOk r P → OnErr r Q → ((a : A) → P a → R) → (Q → R) → R
either_way (Ok x) P Q R ok err f g = f x ok
either_way (Err e) P Q R ok err f g = g err
