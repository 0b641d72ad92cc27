-- An action that came last is put behind those of its number; and the first of a connection's.
use Rattle.std.proofs.Common.{◌≡◌, ℕ, ◌+◌, ◌<◌, ◌==◌, nat_lt, Bool, true, false, cond, not, ◌||◌, ◌&&◌, List, [], ◌∷◌, ◌++◌, length, Option, Some, None, is_some, refl, sym, ap, subst, ◌∙◌, arith, if◌then◌else◌}
use mathlib.Core.Bool.{true≢false}
use Rattle.std.specs.List.{All, filter, slice_get}
use Rattle.std.specs.List.Sorted.{IsStrictlySortedBy}
use Rattle.std.specs.Map.{keys_of, lookup, remove_entry}
use Rattle.std.specs.BTreeMap.{insert_entry, is_at as key_is}
use Rattle.std.specs.Cmp.{nat_cmp_total, tied_itself}
use Rattle.std.specs.Option.{option_map}
use Rattle.std.specs.Ordering.{nat_cmp, is_eq, is_le, is_lt, ordering_then, match_ordering}
use Rattle.std.specs.declared.cmp.Ordering.{Ordering}
use Rattle.std.specs.declared.cmp.Ordering.TheVariants.{Less, Equal, Greater}
use Rattle.std.proofs.lemmas.Bool.Decides.{nat_tests}
use Rattle.std.proofs.lemmas.List.Elements.{All-cons, All-head, All-tail, filter_passes}
use Rattle.std.proofs.lemmas.List.{length-map}
use Rattle.std.proofs.lemmas.List.Kept.{IsStrictlySortedBy-filter}
use Rattle.std.proofs.lemmas.Map.Keys.{sorted_tail}
use Rattle.std.proofs.lemmas.Map.Views.{All-after_first}
use Rattle.rt_tree.specs.Assignments.{Assignment}
use Rattle.rt_peer.specs.Peers.{Deferred, in_place, runs_before}
use Rattle.rt_peer.specs.Turns.{without_first}
use Rattle.rt_peer.specs.declared.actions.ActionKey.{ActionKey}
use Rattle.rt_peer.specs.inside.Counts.{count_of, AreCountedBy}
use Rattle.rt_peer.specs.inside.Placed.{deferred_of, deferreds_of, first_own, is_of, place_cmp, places_total, whose}
use Rattle.rt_peer.specs.inside.Placed.{AreByPlace, PlacedActions}
use Rattle.rt_peer.proofs.CountLaws.{one_if}
use Rattle.rt_peer.proofs.PlacedLaws.{less_all, list_is, place_exact}
use Rattle.rt_peer.proofs.SpotLaws.{le_then, zero_first}

abbrev Entry : Type 0
Entry = ActionKey × List Assignment

abbrev Came : ℕ → Entry → Type 0
Came n e = e.0.arrival < n

-- ---- orders

not_less : (m n : ℕ) → m < n → nat_lt n m ≡ false
not_less m n h = grind (arith, nat_tests)

not_same : (m n : ℕ) → m < n → (n == m) ≡ false
not_same m n h = grind (arith, nat_tests)

-- where it is less than one that came before, it is so by connection and number
runs_less : (p q : ActionKey) (v w : List Assignment) → q.arrival < p.arrival → place_cmp p q ≡ Less
    → runs_before (deferred_of (p, v)) (deferred_of (q, w)) ≡ true
runs_less p q v w later e =
    by_parts (nat_lt p.connection q.connection) (p.connection == q.connection) (nat_lt p.id q.id) (p.id == q.id)
    (nat_lt p.arrival q.arrival) (p.arrival == q.arrival) (not_less q.arrival p.arrival later) (not_same q.arrival p.arrival later) e
  where
    by_parts : (a b c d f g : Bool) → f ≡ false → g ≡ false
        → ordering_then (cond a Less (cond b Equal Greater)) (ordering_then (cond c Less (cond d Equal Greater)) (cond f Less (cond g Equal Greater))) ≡ Less
        → (a || b && c) ≡ true
    by_parts true b c d f g i j e = refl
    by_parts false true true d f g i j e = refl
    by_parts false true false true true g i j e = absurd (true≢false i)
    by_parts false true false true false true i j e = absurd (true≢false j)
    by_parts false true false true false false i j e = absurd (true≢false (sym (ap is_lt e)))
    by_parts false true false false f g i j e = absurd (true≢false (sym (ap is_lt e)))
    by_parts false false c d f g i j e = absurd (true≢false (sym (ap is_lt e)))

runs_greater : (p q : ActionKey) (v w : List Assignment) → place_cmp p q ≡ Greater
    → runs_before (deferred_of (p, v)) (deferred_of (q, w)) ≡ false
runs_greater p q v w e =
    by_parts (nat_lt p.connection q.connection) (p.connection == q.connection) (nat_lt p.id q.id) (p.id == q.id) (nat_cmp p.arrival q.arrival) e
  where
    by_parts : (a b c d : Bool) (o : Ordering)
        → ordering_then (cond a Less (cond b Equal Greater)) (ordering_then (cond c Less (cond d Equal Greater)) o) ≡ Greater
        → (a || b && c) ≡ false
    by_parts true b c d o e = absurd (true≢false (ap is_lt e))
    by_parts false true true d o e = absurd (true≢false (ap is_lt e))
    by_parts false true false d o e = refl
    by_parts false false c d o e = refl

-- one that came later is at no place of before
other_place : (p q : ActionKey) → q.arrival < p.arrival → place_cmp p q ≡ Equal → ⊥
other_place p q later e =
    let same : p.arrival ≡ q.arrival = ap (λ (r : ActionKey). r.arrival) (place_exact p q (ap is_eq e)) in
    omega (arith, later, same)

-- ---- put behind those of its number

filter_all : (t : Deferred → Bool) (xs : List Deferred) → All (λ x. t x ≡ true) xs → filter t xs ≡ xs
filter_all t [] h = refl
filter_all t (x ∷ xs) h =
    ap (λ b. cond b (x ∷ filter t xs) (filter t xs)) (All-head (λ y. t y ≡ true) x xs h)
    ∙ ap (λ ys. x ∷ ys) (filter_all t xs (All-tail (λ y. t y ≡ true) x xs h))

filter_none : (t : Deferred → Bool) (xs : List Deferred) → All (λ x. t x ≡ false) xs → filter t xs ≡ []
filter_none t [] h = refl
filter_none t (x ∷ xs) h =
    ap (λ b. cond b (x ∷ filter t xs) (filter t xs)) (All-head (λ y. t y ≡ false) x xs h)
    ∙ filter_none t xs (All-tail (λ y. t y ≡ false) x xs h)

first_in : (x : Deferred) (xs : List Deferred) → All (λ m. runs_before x m ≡ true) xs → in_place runs_before x xs ≡ x ∷ xs
first_in x xs h =
    (λ i. filter_none (λ y. not (runs_before x y)) xs (λ k d lt j. not (h k d lt j)) i ++ x ∷ filter_all (runs_before x) xs h i)

all_behind : (p : ActionKey) (v : List Assignment) (es : PlacedActions) → All (Came p.arrival) es → All (λ r. place_cmp p r ≡ Less) (keys_of es)
    → All (λ m. runs_before (deferred_of (p, v)) m ≡ true) (deferreds_of es)
all_behind p v [] came h = λ k d lt. absurd (omega (arith, lt))
all_behind p v (e ∷ es) came h =
    All-cons (λ m. runs_before (deferred_of (p, v)) m ≡ true) (deferred_of e) (deferreds_of es)
    (runs_less p e.0 v e.1 (All-head (Came p.arrival) e es came) (All-head (λ r. place_cmp p r ≡ Less) e.0 (keys_of es) h))
    (all_behind p v es (All-tail (Came p.arrival) e es came) (All-tail (λ r. place_cmp p r ≡ Less) e.0 (keys_of es) h))

pub put_behind : (p : ActionKey) (v : List Assignment) (es : PlacedActions) → AreByPlace es → All (Came p.arrival) es
    → deferreds_of (insert_entry place_cmp es p v) ≡ in_place runs_before (deferred_of (p, v)) (deferreds_of es)
put_behind p v [] s came = refl
put_behind p v (e ∷ es) s came =
    let x = deferred_of (p, v) in
    elim (place_cmp p e.0) as (λ r. place_cmp p e.0 ≡ r → deferreds_of (match_ordering r ((p, v) ∷ e ∷ es) ((e.0, v) ∷ es) (e ∷ insert_entry place_cmp es p v))
    ≡ in_place runs_before x (deferreds_of (e ∷ es))) [
      | Less ↦ λ f. sym (first_in x (deferreds_of (e ∷ es)) (all_behind p v (e ∷ es) came (less_all p e.0 (keys_of es) f s)))
      | Equal ↦ λ f. absurd (other_place p e.0 (All-head (Came p.arrival) e es came) f)
      | Greater ↦ λ f.
          ap (λ ds. deferred_of e ∷ ds) (put_behind p v es (sorted_tail place_cmp e.0 (keys_of es) s) (All-tail (Came p.arrival) e es came))
          ∙ sym (ap (λ b. cond (not b) (deferred_of e ∷ filter (λ y. not (runs_before x y)) (deferreds_of es)) (filter (λ y. not (runs_before x y)) (deferreds_of es))
          ++ x ∷ cond b (deferred_of e ∷ filter (runs_before x) (deferreds_of es)) (filter (runs_before x) (deferreds_of es))) (runs_greater p e.0 v e.1 f))
    ] refl

-- what holds of all, and of the one that is put
pub all_put : (P : Entry → Type 0) (p : ActionKey) (v : List Assignment) (es : PlacedActions) → All (Came p.arrival) es → All P es → P (p, v)
    → All P (insert_entry place_cmp es p v)
all_put P p v [] came h here = All-cons P (p, v) [] here h
all_put P p v (e ∷ es) came h here =
    elim (place_cmp p e.0) as (λ r. place_cmp p e.0 ≡ r → All P (match_ordering r ((p, v) ∷ e ∷ es) ((e.0, v) ∷ es) (e ∷ insert_entry place_cmp es p v))) [
      | Less ↦ λ f. All-cons P (p, v) (e ∷ es) here h
      | Equal ↦ λ f. absurd (other_place p e.0 (All-head (Came p.arrival) e es came) f)
      | Greater ↦ λ f. All-cons P e (insert_entry place_cmp es p v) (All-head P e es h)
          (all_put P p v es (All-tail (Came p.arrival) e es came) (All-tail P e es h) here)
    ] refl

one_more : (b : Bool) (e : Entry) (xs : PlacedActions) → length (cond b (e ∷ xs) xs) ≡ length xs + (if b then 1 else 0)
one_more true e xs = omega arith
one_more false e xs = omega arith

put_count : (p : ActionKey) (v : List Assignment) (n : ℕ) (es : PlacedActions) → All (Came p.arrival) es
    → length (filter (is_of n) (insert_entry place_cmp es p v)) ≡ length (filter (is_of n) es) + one_if p.connection n
put_count p v n [] came = one_more (p.connection == n) (p, v) []
put_count p v n (e ∷ es) came =
    elim (place_cmp p e.0) as (λ r. place_cmp p e.0 ≡ r
    → length (filter (is_of n) (match_ordering r ((p, v) ∷ e ∷ es) ((e.0, v) ∷ es) (e ∷ insert_entry place_cmp es p v)))
    ≡ length (filter (is_of n) (e ∷ es)) + one_if p.connection n) [
      | Less ↦ λ f. one_more (p.connection == n) (p, v) (filter (is_of n) (e ∷ es))
      | Equal ↦ λ f. absurd (other_place p e.0 (All-head (Came p.arrival) e es came) f)
      | Greater ↦ λ f. with_one (e.0.connection == n) e (filter (is_of n) (insert_entry place_cmp es p v)) (filter (is_of n) es) (one_if p.connection n)
          (put_count p v n es (All-tail (Came p.arrival) e es came))
    ] refl
  where
    with_one : (b : Bool) (e : Entry) (xs ys : PlacedActions) (m : ℕ) → length xs ≡ length ys + m
        → length (cond b (e ∷ xs) xs) ≡ length (cond b (e ∷ ys) ys) + m
    with_one true e xs ys m h = omega (arith, h)
    with_one false e xs ys m h = h

pub counted_more : (p : ActionKey) (v : List Assignment) (old new : List (ℕ × ℕ)) (es : PlacedActions) → All (Came p.arrival) es
    → AreCountedBy old es whose → ((n : ℕ) → count_of new n ≡ count_of old n + one_if p.connection n)
    → AreCountedBy new (insert_entry place_cmp es p v) whose
counted_more p v old new es came counted more n =
    more n ∙ ap (λ m. m + one_if p.connection n) (counted n) ∙ sym (put_count p v n es came)

-- ---- the connection's first action

abbrev pub from_first : ℕ → Entry → Bool
from_first n e = is_le (place_cmp (record { connection = n; id = 0; arrival = 0 }) e.0) && not false

pub and_true : (b : Bool) → b && not false ≡ b
and_true true = refl
and_true false = refl

same_of : (a c : ℕ) → (a == c) ≡ true → a ≡ c
same_of a c e = grind (arith, nat_tests)

pub own_from : (n : ℕ) (e : Entry) → is_of n e ≡ true → from_first n e ≡ true
own_from n e own =
    and_true (is_le (place_cmp (record { connection = n; id = 0; arrival = 0 }) e.0))
    ∙ ap (λ m. is_le (place_cmp (record { connection = m; id = 0; arrival = 0 }) e.0)) (sym (same_of e.0.connection n own))
    ∙ le_then (nat_cmp e.0.connection e.0.connection) (ordering_then (nat_cmp 0 e.0.id) (nat_cmp 0 e.0.arrival))
    (ap is_le (tied_itself nat_cmp_total e.0.connection))
    (le_then (nat_cmp 0 e.0.id) (nat_cmp 0 e.0.arrival) (zero_first e.0.id) (zero_first e.0.arrival))

within : {X : Type 0} (p q : X → Bool) (xs : List X) → ((x : X) → p x ≡ true → q x ≡ true) → filter p (filter q xs) ≡ filter p xs
within p q [] h = refl
within p q (x ∷ xs) h =
    elim (q x) as (λ b. q x ≡ b → filter p (cond b (x ∷ filter q xs) (filter q xs)) ≡ cond (p x) (x ∷ filter p xs) (filter p xs)) [
      | true ↦ λ e. ap (λ ys. cond (p x) (x ∷ ys) ys) (within p q xs h)
      | false ↦ λ e. elim (p x) as (λ b. p x ≡ b → filter p (filter q xs) ≡ cond b (x ∷ filter p xs) (filter p xs)) [
        | true ↦ λ f. absurd (true≢false (sym (h x f) ∙ e))
        | false ↦ λ f. within p q xs h
      ] refl
    ] refl

pub own_among : (n : ℕ) (es left : PlacedActions) → left ≡ filter (from_first n) es → filter (is_of n) es ≡ filter (is_of n) left
own_among n es left is = sym (within (is_of n) (from_first n) es (own_from n)) ∙ ap (filter (is_of n)) (sym is)

pub first_is : (n : ℕ) (es left rest : PlacedActions) (e : Entry) → left ≡ filter (from_first n) es → left ≡ e ∷ rest
    → is_of n e ≡ true → Some e.0 ≡ first_own n es
first_is n es left rest e is begins own =
    let all : filter (is_of n) es ≡ e ∷ filter (is_of n) rest =
    own_among n es left is ∙ ap (filter (is_of n)) begins ∙ ap (λ b. cond b (e ∷ filter (is_of n) rest) (filter (is_of n) rest)) own in
    sym (ap (λ xs. option_map (λ (x : Entry). x.0) (slice_get xs 0)) all)

pub first_none : (n : ℕ) (es left : PlacedActions) → left ≡ filter (from_first n) es → left ≡ [] → None ≡ first_own n es
first_none n es left is none =
    sym (ap (λ xs. option_map (λ (x : Entry). x.0) (slice_get xs 0)) (own_among n es left is ∙ ap (filter (is_of n)) none))

pub le_parts : (a b : Bool) (o : Ordering) → is_le (ordering_then (cond a Less (cond b Equal Greater)) o) ≡ true → (a || b) ≡ true
le_parts true b o e = refl
le_parts false true o e = refl
le_parts false false o e = e

pub less_parts : (a b : Bool) (o : Ordering) → ordering_then (cond a Less (cond b Equal Greater)) o ≡ Less → (a || b) ≡ true
less_parts true b o e = refl
less_parts false true o e = refl
less_parts false false o e = ap is_lt e

pub later_other : (n a : ℕ) → (nat_lt n a || n == a) ≡ true → (a == n) ≡ false → n < a
later_other n a h e = grind (arith, nat_tests)

pub behind_other : (n a b : ℕ) → n < a → (nat_lt a b || a == b) ≡ true → (b == n) ≡ false
behind_other n a b lt h = grind (arith, nat_tests)

none_of : (n : ℕ) (xs : PlacedActions) → All (λ x. is_of n x ≡ false) xs → filter (is_of n) xs ≡ []
none_of n [] h = refl
none_of n (x ∷ xs) h =
    ap (λ b. cond b (x ∷ filter (is_of n) xs) (filter (is_of n) xs)) (All-head (λ y. is_of n y ≡ false) x xs h)
    ∙ none_of n xs (All-tail (λ y. is_of n y ≡ false) x xs h)

pub keys_filter : (q : ActionKey → Bool) (es : PlacedActions) → keys_of (filter (λ e. q e.0) es) ≡ filter q (keys_of es)
keys_filter q [] = refl
keys_filter q (e ∷ es) =
    elim (q e.0) as (λ b. keys_of (cond b (e ∷ filter (λ e. q e.0) es) (filter (λ e. q e.0) es)) ≡ cond b (e.0 ∷ filter q (keys_of es)) (filter q (keys_of es))) [
      | true ↦ ap (λ ks. e.0 ∷ ks) (keys_filter q es)
      | false ↦ keys_filter q es
    ]

pub first_other : (n : ℕ) (es left rest : PlacedActions) (e : Entry) → AreByPlace es → left ≡ filter (from_first n) es → left ≡ e ∷ rest
    → is_of n e ≡ false → None ≡ first_own n es
first_other n es left rest e s is begins other =
    let q : ActionKey → Bool = λ p. is_le (place_cmp (record { connection = n; id = 0; arrival = 0 }) p) && not false in
    let all : filter (from_first n) es ≡ e ∷ rest = sym is ∙ begins in
    let passes : from_first n e ≡ true = All-head (λ x. from_first n x ≡ true) e rest
    (subst (All (λ x. from_first n x ≡ true)) all (λ k d lt. filter_passes (from_first n) es k d lt)) in
    let after : n < e.0.connection = later_other n e.0.connection
    (le_parts (nat_lt n e.0.connection) (n == e.0.connection) (ordering_then (nat_cmp 0 e.0.id) (nat_cmp 0 e.0.arrival))
    (sym (and_true (is_le (place_cmp (record { connection = n; id = 0; arrival = 0 }) e.0))) ∙ passes)) other in
    let rising : AreByPlace (e ∷ rest) = subst AreByPlace all
    (subst (IsStrictlySortedBy place_cmp) (sym (keys_filter q es)) (IsStrictlySortedBy-filter place_cmp q (keys_of es) s)) in
    let none : filter (is_of n) es ≡ [] = own_among n es left is ∙ ap (filter (is_of n)) begins
    ∙ none_of n (e ∷ rest) (All-cons (λ x. is_of n x ≡ false) e rest other
    (others e rest after (All-after_first place_cmp e.0 (keys_of rest) rising))) in
    sym (ap (λ xs. option_map (λ (x : Entry). x.0) (slice_get xs 0)) none)
  where
    others : (e : Entry) (rest : PlacedActions) → n < e.0.connection → All (λ p. place_cmp e.0 p ≡ Less) (keys_of rest)
        → All (λ x. is_of n x ≡ false) rest
    others e [] from h = λ k d lt. absurd (omega (arith, lt))
    others e (f ∷ fs) from h =
        All-cons (λ x. is_of n x ≡ false) f fs
        (behind_other n e.0.connection f.0.connection from (less_parts (nat_lt e.0.connection f.0.connection) (e.0.connection == f.0.connection)
        (ordering_then (nat_cmp e.0.id f.0.id) (nat_cmp e.0.arrival f.0.arrival)) (All-head (λ p. place_cmp e.0 p ≡ Less) f.0 (keys_of fs) h)))
        (others e fs from (All-tail (λ p. place_cmp e.0 p ≡ Less) f.0 (keys_of fs) h))

-- as a search finds it
abbrev pub IsFrom : ActionKey → PlacedActions → PlacedActions → Type 0
IsFrom from es left = left ≡ filter (λ (e : Entry). is_le (place_cmp from e.0) && not false) es

from_is : (n : ℕ) (es left : PlacedActions) (from : ActionKey) → from ≡ record { connection = n; id = 0; arrival = 0 } → IsFrom from es left
    → left ≡ filter (from_first n) es
from_is n es left from at is = is ∙ ap (λ (p : ActionKey). filter (λ (e : Entry). is_le (place_cmp p e.0) && not false) es) at

pub first_seen : (n : ℕ) (es now left rest : PlacedActions) (e : Entry) (from : ActionKey) → es ≡ now
    → from ≡ record { connection = n; id = 0; arrival = 0 } → IsFrom from es left → left ≡ e ∷ rest → is_of n e ≡ true
    → Some e.0 ≡ first_own n now
first_seen n es now left rest e from view at is begins own =
    first_is n es left rest e (from_is n es left from at is) begins own ∙ ap (first_own n) view

pub other_seen : (n : ℕ) (es now left rest : PlacedActions) (e : Entry) (from : ActionKey) → AreByPlace es → es ≡ now
    → from ≡ record { connection = n; id = 0; arrival = 0 } → IsFrom from es left → left ≡ e ∷ rest → is_of n e ≡ false
    → None ≡ first_own n now
other_seen n es now left rest e from s view at is begins other =
    first_other n es left rest e s (from_is n es left from at is) begins other ∙ ap (first_own n) view

pub none_seen : (n : ℕ) (es now left : PlacedActions) (from : ActionKey) → es ≡ now
    → from ≡ record { connection = n; id = 0; arrival = 0 } → IsFrom from es left → left ≡ [] → None ≡ first_own n now
none_seen n es now left from view at is none = first_none n es left (from_is n es left from at is) none ∙ ap (first_own n) view

-- ---- what is left without it

abbrev pub own : ℕ → Deferred → Bool
own n a = a.connection == n

pub own_mapped : (n : ℕ) (es : PlacedActions) → filter (own n) (deferreds_of es) ≡ deferreds_of (filter (is_of n) es)
own_mapped n [] = refl
own_mapped n (e ∷ es) =
    elim (is_of n e) as (λ b. cond b (deferred_of e ∷ filter (own n) (deferreds_of es)) (filter (own n) (deferreds_of es))
    ≡ deferreds_of (cond b (e ∷ filter (is_of n) es) (filter (is_of n) es))) [
      | true ↦ ap (λ ds. deferred_of e ∷ ds) (own_mapped n es)
      | false ↦ own_mapped n es
    ]

abbrev or_else : Option ActionKey → ActionKey → ActionKey
or_else None d = d
or_else (Some x) d = x

some_is : (p q : ActionKey) → Some p ≡ Some q → p ≡ q
some_is p q g = ap (λ r. or_else r p) g

pub own_count : (n : ℕ) (es : PlacedActions) (now : List Deferred) → deferreds_of es ≡ now
    → length (filter (is_of n) es) ≡ length (filter (own n) now)
own_count n es now view =
    sym (length-map (filter (is_of n) es) deferred_of) ∙ ap length (sym (own_mapped n es)) ∙ ap (λ ds. length (filter (own n) ds)) view

pub first_absent : (n : ℕ) (es : PlacedActions) → None ≡ first_own n es → filter (own n) (deferreds_of es) ≡ []
first_absent n es h = own_mapped n es ∙ ap deferreds_of (by_list (filter (is_of n) es) h)
  where
    by_list : (xs : PlacedActions) → None ≡ option_map (λ (x : Entry). x.0) (slice_get xs 0) → xs ≡ []
    by_list [] g = refl
    by_list (x ∷ xs) g = absurd (true≢false (sym (ap is_some g)))

-- the first of the connection's actions is found at its place
pub first_found : (n : ℕ) (p : ActionKey) (es : PlacedActions) → Some p ≡ first_own n es
    → is_some (lookup (key_is (place_cmp p)) es) ≡ true
first_found n p [] h = absurd (true≢false (ap is_some h))
first_found n p (e ∷ es) h =
    elim (is_of n e) as (λ b. Some p ≡ option_map (λ (x : Entry). x.0) (slice_get (cond b (e ∷ filter (is_of n) es) (filter (is_of n) es)) 0)
    → is_some (lookup (key_is (place_cmp p)) (e ∷ es)) ≡ true) [
      | true ↦ λ g.
          let same : p ≡ e.0 = some_is p e.0 g in
          ap (λ o. is_some (cond (is_eq o) (Some e.1) (lookup (key_is (place_cmp p)) es))) (ap (λ q. place_cmp p q) (sym same) ∙ tied_itself places_total p)
      | false ↦ λ g. elim (is_eq (place_cmp p e.0)) as (λ c. is_some (cond c (Some e.1) (lookup (key_is (place_cmp p)) es)) ≡ true) [
        | true ↦ refl
        | false ↦ first_found n p es g
      ]
    ] h

-- without the first, all are without it, and the connection's begin with it
pub first_taken : (n : ℕ) (p : ActionKey) (v : List Assignment) (es : PlacedActions) → Some p ≡ first_own n es
    → Some v ≡ lookup (key_is (place_cmp p)) es
    → (filter (own n) (deferreds_of es) ≡ deferred_of (p, v) ∷ filter (own n) (deferreds_of (remove_entry (key_is (place_cmp p)) es)))
    × (deferreds_of (remove_entry (key_is (place_cmp p)) es) ≡ without_first (own n) 1 (deferreds_of es))
first_taken n p v [] h there = absurd (true≢false (ap is_some h))
first_taken n p v (e ∷ es) h there =
    elim (is_of n e) as (λ b. is_of n e ≡ b
    → Some p ≡ option_map (λ (x : Entry). x.0) (slice_get (cond b (e ∷ filter (is_of n) es) (filter (is_of n) es)) 0)
    → (cond b (deferred_of e ∷ filter (own n) (deferreds_of es)) (filter (own n) (deferreds_of es))
    ≡ deferred_of (p, v) ∷ filter (own n) (deferreds_of (remove_entry (key_is (place_cmp p)) (e ∷ es))))
    × (deferreds_of (remove_entry (key_is (place_cmp p)) (e ∷ es))
    ≡ (if b then without_first (own n) 0 (deferreds_of es) else deferred_of e ∷ without_first (own n) 1 (deferreds_of es)))) [
      | true ↦ λ o g.
          let same : p ≡ e.0 = some_is p e.0 g in
          let here : is_eq (place_cmp p e.0) ≡ true = ap is_eq (ap (λ q. place_cmp p q) (sym same) ∙ tied_itself places_total p) in
          let gone : remove_entry (key_is (place_cmp p)) (e ∷ es) ≡ es = ap (λ b. cond b es (e ∷ remove_entry (key_is (place_cmp p)) es)) here in
          let value : v ≡ e.1 = list_is v e.1 (there ∙ ap (λ b. cond b (Some e.1) (lookup (key_is (place_cmp p)) es)) here) in (
            (λ i. deferred_of (sym same i, sym value i) ∷ filter (own n) (deferreds_of (sym gone i))),
            ap deferreds_of gone,
          )
      | false ↦ λ o g.
          let apart : is_eq (place_cmp p e.0) ≡ false = not_at n p e o es g in
          let rest = first_taken n p v es g (there ∙ ap (λ b. cond b (Some e.1) (lookup (key_is (place_cmp p)) es)) apart) in
          let left : remove_entry (key_is (place_cmp p)) (e ∷ es) ≡ e ∷ remove_entry (key_is (place_cmp p)) es =
          ap (λ b. cond b es (e ∷ remove_entry (key_is (place_cmp p)) es)) apart in (
            rest.0 ∙ ap (λ ds. deferred_of (p, v) ∷ ds) (sym (ap (λ xs. filter (own n) (deferreds_of xs)) left
                ∙ ap (λ b. cond b (deferred_of e ∷ filter (own n) (deferreds_of (remove_entry (key_is (place_cmp p)) es)))
                (filter (own n) (deferreds_of (remove_entry (key_is (place_cmp p)) es)))) o)),
            ap deferreds_of left ∙ ap (λ ds. deferred_of e ∷ ds) rest.1,
          )
    ] refl h
  where
    first_is_own : (n : ℕ) (p : ActionKey) (xs : PlacedActions) → Some p ≡ first_own n xs → (p.connection == n) ≡ true
    first_is_own n p [] h = absurd (true≢false (ap is_some h))
    first_is_own n p (x ∷ xs) h =
        elim (is_of n x) as (λ b. is_of n x ≡ b → Some p ≡ option_map (λ (y : Entry). y.0) (slice_get (cond b (x ∷ filter (is_of n) xs) (filter (is_of n) xs)) 0)
        → (p.connection == n) ≡ true) [
          | true ↦ λ o g. ap (λ (q : ActionKey). q.connection == n) (some_is p x.0 g) ∙ o
          | false ↦ λ o g. first_is_own n p xs g
        ] refl h

    not_at : (n : ℕ) (p : ActionKey) (e : Entry) → is_of n e ≡ false → (es : PlacedActions) → Some p ≡ first_own n es → is_eq (place_cmp p e.0) ≡ false
    not_at n p e o es g =
        elim (is_eq (place_cmp p e.0)) as (λ b. is_eq (place_cmp p e.0) ≡ b → b ≡ false) [
          | true ↦ λ f. absurd (true≢false (sym (ap (λ (q : ActionKey). q.connection == n) (sym (place_exact p e.0 f)) ∙ first_is_own n p es g) ∙ o))
          | false ↦ λ f. refl
        ] refl
