-- Where the entries of actions stand by path: those of a connection at and below a path, and what is kept of all.
use Rattle.std.proofs.Common.{◌≡◌, ◌==◌, ℕ, ◌<◌, ◌≤◌, ◌+◌, nat_lt, ltb-true, ltb-false, Bool, true, false, cond, not, ◌&&◌, List, [], ◌∷◌, length, get_or, refl, sym, ap, subst, ◌∙◌, arith, is_le, if◌then◌else◌}
use mathlib.Core.Bool.{true≢false}
use Rattle.std.specs.List.{All, filter, list_any}
use Rattle.std.specs.List.Sorted.{IsStrictlySortedBy}
use Rattle.std.specs.Map.{keys_of, remove_entry}
use Rattle.std.specs.BTreeMap.{is_at as key_is}
use Rattle.std.specs.Ordering.{nat_cmp, is_lt, is_eq, ordering_then, ordering_reverse}
use Rattle.std.specs.Cmp.{Equal-is, nat_cmp_total, tied_itself}
use Rattle.std.specs.declared.cmp.Ordering.{Ordering}
use Rattle.std.specs.declared.cmp.Ordering.TheVariants.{Less, Equal, Greater}
use Rattle.std.proofs.lemmas.Bool.Decides.{nat_tests}
use Rattle.std.proofs.lemmas.List.{get_or_read}
use Rattle.std.proofs.lemmas.List.Elements.{All-cons, All-filter, All-head, All-tail, All-weaker, filter_passes}
use Rattle.std.proofs.lemmas.List.Folds.{Any-from_list_any, list_any_at}
use Rattle.std.proofs.lemmas.List.Kept.{IsStrictlySortedBy-filter}
use Rattle.std.proofs.lemmas.Map.Keys.{sorted_tail}
use Rattle.std.proofs.lemmas.Map.Views.{All-after_first}
use Rattle.rt_tree.specs.PathTree.{Path, path_cmp, paths_total, exact_paths}
use Rattle.rt_tree.specs.Assignments.{Assignment, is_at_or_above}
use Rattle.rt_peer.specs.Calls.{is_empty}
use Rattle.rt_peer.specs.declared.actions.ActionKey.{ActionKey}
use Rattle.rt_peer.specs.declared.listens.EntrySpot.{EntrySpot}
use Rattle.rt_peer.specs.inside.EntrySpots.{entry_spot_cmp, entry_spots_total, has_entry_spot, is_under}
use Rattle.rt_peer.specs.inside.EntrySpots.{AllSpotted, AreListedUnder, AreOthersKept, AreSpotsKept, HasSpots}
use Rattle.rt_peer.specs.inside.Placed.{apart, cut_at, has_place, is_bare, is_of, place_cmp, places_total}
use Rattle.rt_peer.specs.inside.Placed.{AreByPlace, AreListed, PlacedActions}
use Rattle.rt_peer.proofs.PathRuns.{above_first, under_from}
use Rattle.rt_peer.proofs.PlacedLaws.{IsPlaceAdded, after_equal, place_added, place_exact, place_kept}
use Rattle.rt_peer.proofs.SpotLaws.{le_then, zero_first}

abbrev Entry : Type 0
Entry = ActionKey × List Assignment

-- ---- tests

and_first : (a b : Bool) → (a && b) ≡ true → a ≡ true
and_first true b e = refl
and_first false b e = e

and_second : (a b : Bool) → (a && b) ≡ true → b ≡ true
and_second true b e = e
and_second false b e = absurd (true≢false (sym e))

same_of : (a c : ℕ) → (a == c) ≡ true → a ≡ c
same_of a c e = grind (arith, nat_tests)

same_is : (a c : ℕ) → a ≡ c → (a == c) ≡ true
same_is a c e = grind (arith, nat_tests)

not_above : (m n : ℕ) → nat_lt m n ≡ false → (m == n) ≡ true → m ≤ n
not_above m n e f = grind (arith, nat_tests)

above : (m n : ℕ) → nat_lt m n ≡ true → m ≤ n
above m n e = grind (arith, nat_tests)

-- ---- exact orders

both_equal : (a b : Ordering) → is_eq (ordering_then a b) ≡ true → (a ≡ Equal) × (b ≡ Equal)
both_equal Less b e = absurd (true≢false (sym e))
both_equal Equal b e = (refl, (Equal-is b).0 e)
both_equal Greater b e = absurd (true≢false (sym e))

pub entry_spot_exact : (s t : EntrySpot) → is_eq (entry_spot_cmp s t) ≡ true → s ≡ t
entry_spot_exact s t e =
    let one = both_equal (nat_cmp s.place.connection t.place.connection) (ordering_then (path_cmp s.path t.path) (place_cmp s.place t.place)) e in
    let two = both_equal (path_cmp s.path t.path) (place_cmp s.place t.place) (ap is_eq one.1) in
    let path : s.path ≡ t.path = exact_paths s.path t.path two.0 in
    let place : s.place ≡ t.place = place_exact s.place t.place (ap is_eq two.1) in
    λ i. record { place = place i; path = path i }

-- ---- the run of a path

-- the first spot that there can be of a connection at a path
abbrev pub first_entry_spot : ℕ → Path → EntrySpot
first_entry_spot n q = record { place = record { connection = n; id = 0; arrival = 0 }; path = q }

-- what is not in front of it
abbrev pub NotInFront : ℕ → Path → EntrySpot → Type 0
NotInFront n q s = is_le (entry_spot_cmp (first_entry_spot n q) s) ≡ true

conn_le : (m n : ℕ) (b : Ordering) → is_le (ordering_then (nat_cmp m n) b) ≡ true → m ≤ n
conn_le m n b e =
    elim (nat_lt m n) as (λ x. nat_lt m n ≡ x → is_le (ordering_then (cond x Less (cond (m == n) Equal Greater)) b) ≡ true → m ≤ n) [
      | true ↦ λ f g. above m n f
      | false ↦ λ f g. elim (m == n) as (λ y. (m == n) ≡ y → is_le (ordering_then (cond y Equal Greater) b) ≡ true → m ≤ n) [
        | true ↦ λ h k. not_above m n f h
        | false ↦ λ h k. absurd (true≢false (sym k))
      ] refl g
    ] refl e

-- where both are of one connection, the rest tells
rest_le : (m n : ℕ) (b : Ordering) → m ≡ n → is_le (ordering_then (nat_cmp m n) b) ≡ true → is_le b ≡ true
rest_le m n b same e =
    ap (λ o. is_le (ordering_then o b)) (sym (tied_itself nat_cmp_total n)) ∙ ap (λ k. is_le (ordering_then (nat_cmp k n) b)) (sym same) ∙ e

le_not_before : (a b : Ordering) → is_le (ordering_then a b) ≡ true → is_lt (ordering_reverse a) ≡ false
le_not_before Less b e = refl
le_not_before Equal b e = refl
le_not_before Greater b e = absurd (true≢false (sym e))

path_from : (p q : Path) (b : Ordering) → is_le (ordering_then (path_cmp p q) b) ≡ true → is_lt (path_cmp q p) ≡ false
path_from p q b e = ap is_lt (paths_total.antisymm q p) ∙ le_not_before (path_cmp p q) b e

-- one in front of one of the run is in it
run_through : (n : ℕ) (q : Path) (s t : EntrySpot) → NotInFront n q s → entry_spot_cmp s t ≡ Less → is_under n q t ≡ true → is_under n q s ≡ true
run_through n q s t from less e =
    let own : t.place.connection ≡ n = same_of t.place.connection n (and_first (t.place.connection == n) (is_at_or_above q t.path) e) in
    let low : n ≤ s.place.connection = conn_le n s.place.connection (ordering_then (path_cmp q s.path) (place_cmp (first_entry_spot n q).place s.place)) from in
    let high : s.place.connection ≤ t.place.connection =
    conn_le s.place.connection t.place.connection (ordering_then (path_cmp s.path t.path) (place_cmp s.place t.place)) (ap is_le less) in
    let here : s.place.connection ≡ n = omega (arith, own, low, high) in
    let both : s.place.connection ≡ t.place.connection = here ∙ sym own in
    let front : is_lt (path_cmp s.path q) ≡ false =
    path_from q s.path (place_cmp (first_entry_spot n q).place s.place) (rest_le n s.place.connection _ (sym here) from) in
    let behind : is_lt (path_cmp t.path s.path) ≡ false =
    path_from s.path t.path (place_cmp s.place t.place) (rest_le s.place.connection t.place.connection _ both (ap is_le less)) in
    λ i. same_is s.place.connection n here i && under_from q s.path t.path (and_second (t.place.connection == n) (is_at_or_above q t.path) e) front behind i

-- so where one is not in it, none behind it is
run_over : (n : ℕ) (q : Path) (s : EntrySpot) (rest : List EntrySpot) → NotInFront n q s → IsStrictlySortedBy entry_spot_cmp (s ∷ rest)
    → is_under n q s ≡ false → (places : List ActionKey) → AreListedUnder n q places (s ∷ rest)
run_over n q s rest from rise out places =
    All-cons (λ t. is_under n q t ≡ true → has_place places t.place ≡ true) s rest
    (λ e. absurd (true≢false (sym e ∙ out)))
    (λ k d lt e. absurd (true≢false (sym (run_through n q s (get_or rest k d) from (All-after_first entry_spot_cmp s rest rise k d lt) e) ∙ out)))

least_place : (p : ActionKey) → is_le (place_cmp (record { connection = p.connection; id = 0; arrival = 0 }) p) ≡ true
least_place p =
    le_then (nat_cmp p.connection p.connection) (ordering_then (nat_cmp 0 p.id) (nat_cmp 0 p.arrival)) (ap is_le (tied_itself nat_cmp_total p.connection))
    (le_then (nat_cmp 0 p.id) (nat_cmp 0 p.arrival) (zero_first p.id) (zero_first p.arrival))

reversed_le : (a : Ordering) → is_lt (ordering_reverse a) ≡ false → is_le a ≡ true
reversed_le Less e = refl
reversed_le Equal e = refl
reversed_le Greater e = absurd (true≢false e)

-- what is in the run is not in front of the first there can be
pub run_from : (n : ℕ) (q : Path) (s : EntrySpot) → is_under n q s ≡ true → NotInFront n q s
run_from n q s e =
    let own : s.place.connection ≡ n = same_of s.place.connection n (and_first (s.place.connection == n) (is_at_or_above q s.path) e) in
    let path : is_le (path_cmp q s.path) ≡ true =
    reversed_le (path_cmp q s.path) (ap is_lt (sym (paths_total.antisymm s.path q)) ∙ above_first q s.path (and_second (s.place.connection == n) (is_at_or_above q s.path) e)) in
    subst (λ m. NotInFront m q s) own
    (le_then (nat_cmp s.place.connection s.place.connection) (ordering_then (path_cmp q s.path) (place_cmp (record { connection = s.place.connection; id = 0; arrival = 0 }) s.place))
    (ap is_le (tied_itself nat_cmp_total s.place.connection)) (le_then (path_cmp q s.path) _ path (least_place s.place)))

-- ---- what a search begins with

and_true : (b : Bool) → b && not false ≡ b
and_true true = refl
and_true false = refl

from_filter : (keep : EntrySpot → Bool) (P : EntrySpot → Type 0) (ks : List EntrySpot) → ((s : EntrySpot) → keep s ≡ false → P s)
    → All P (filter keep ks) → All P ks
from_filter keep P [] f h = h
from_filter keep P (s ∷ ks) f h =
    elim (keep s) as (λ b. keep s ≡ b → All P (cond b (s ∷ filter keep ks) (filter keep ks)) → All P (s ∷ ks)) [
      | true ↦ λ e g. All-cons P s ks (All-head P s (filter keep ks) g)
          (from_filter keep P ks f (All-tail P s (filter keep ks) g))
      | false ↦ λ e g. All-cons P s ks (f s e) (from_filter keep P ks f g)
    ] refl h

abbrev pub from : ℕ → Path → EntrySpot → Bool
from n q s = is_le (entry_spot_cmp (first_entry_spot n q) s) && not false

abbrev pub PlacesKept : List ActionKey → List ActionKey → Type 0
PlacesKept old new = (p : ActionKey) → has_place old p ≡ true → has_place new p ≡ true

-- who lists, beside these, those of what is left, lists all
abbrev pub ListsAll : ℕ → Path → List EntrySpot → List EntrySpot → List ActionKey → Type 0
ListsAll n q ks left places = (all : List ActionKey) → PlacesKept places all → AreListedUnder n q all left → AreListedUnder n q all ks

pub lists_begun : (n : ℕ) (q : Path) (ks left : List EntrySpot) → left ≡ filter (from n q) ks → ListsAll n q ks left []
lists_begun n q ks left is all kept h =
    from_filter (from n q) (λ s. is_under n q s ≡ true → has_place all s.place ≡ true) ks
    (λ s out e. absurd (true≢false (sym (and_true (is_le (entry_spot_cmp (first_entry_spot n q) s)) ∙ run_from n q s e) ∙ out)))
    (subst (AreListedUnder n q all) is h)

pub begun_behind : (n : ℕ) (q : Path) (ks left : List EntrySpot) → left ≡ filter (from n q) ks → All (NotInFront n q) left
begun_behind n q ks left is =
    subst (All (NotInFront n q)) (sym is)
    (λ k d lt. sym (and_true (is_le (entry_spot_cmp (first_entry_spot n q) (get_or (filter (from n q) ks) k d)))) ∙ filter_passes (from n q) ks k d lt)

pub begun_rising : (n : ℕ) (q : Path) (ks left : List EntrySpot) → left ≡ filter (from n q) ks → IsStrictlySortedBy entry_spot_cmp ks
    → IsStrictlySortedBy entry_spot_cmp left
begun_rising n q ks left is rise =
    subst (IsStrictlySortedBy entry_spot_cmp) (sym is) (IsStrictlySortedBy-filter entry_spot_cmp (from n q) ks rise)

-- ---- one more

pub lists_more : (n : ℕ) (q : Path) (ks left rest : List EntrySpot) (s : EntrySpot) (places more : List ActionKey) → left ≡ s ∷ rest
    → IsPlaceAdded s.place places more → ListsAll n q ks left places → ListsAll n q ks rest more
lists_more n q ks left rest s places more is added h all kept listed =
    h all (λ p there. kept p (place_kept s.place places more added p there))
    (subst (AreListedUnder n q all) (sym is)
    (All-cons (λ t. is_under n q t ≡ true → has_place all t.place ≡ true) s rest
    (λ e. kept s.place (place_added s.place places more added)) listed))

pub lists_over : (n : ℕ) (q : Path) (ks left rest : List EntrySpot) (s : EntrySpot) (places : List ActionKey) → left ≡ s ∷ rest
    → is_under n q s ≡ false → IsStrictlySortedBy entry_spot_cmp left → All (NotInFront n q) left → ListsAll n q ks left places
    → AreListedUnder n q places ks
lists_over n q ks left rest s places is out rise behind h =
    h places (λ p there. there) (subst (AreListedUnder n q places) (sym is)
    (run_over n q s rest (All-head (NotInFront n q) s rest (subst (All (NotInFront n q)) is behind)) (subst (IsStrictlySortedBy entry_spot_cmp) is rise) out places))

pub lists_done : (n : ℕ) (q : Path) (ks left : List EntrySpot) (places : List ActionKey) → left ≡ [] → ListsAll n q ks left places
    → AreListedUnder n q places ks
lists_done n q ks left places none h =
    h places (λ p there. there) (subst (AreListedUnder n q places) (sym none) (λ k d lt. absurd (omega (arith, lt))))

-- the connection's
own_at : (n : ℕ) (q : Path) (s : EntrySpot) (places more : List ActionKey) (p : ActionKey) → is_under n q s ≡ true → IsPlaceAdded s.place places more
    → All (λ (r : ActionKey). r.connection ≡ n) places → has_place more p ≡ true → p.connection ≡ n
own_at n q s places more p e added h there = by (is_eq (place_cmp s.place p)) refl
  where
    by : (b : Bool) → is_eq (place_cmp s.place p) ≡ b → p.connection ≡ n
    by true f =
        ap (λ (r : ActionKey). r.connection) (sym (place_exact s.place p f))
        ∙ same_of s.place.connection n (and_first (s.place.connection == n) (is_at_or_above q s.path) e)
    by false f =
        let before : has_place places p ≡ true = ap (λ b. cond b true (has_place places p)) (sym f) ∙ sym (added p) ∙ there in
        let r = Any-from_list_any (λ (o : ActionKey). is_eq (place_cmp p o)) places before in
        ap (λ (o : ActionKey). o.connection) (place_exact p r.1 r.4 ∙ sym r.3) ∙ h r.0 r.1 r.2

pub own_more : (n : ℕ) (q : Path) (s : EntrySpot) (places more : List ActionKey) → is_under n q s ≡ true → IsPlaceAdded s.place places more
    → All (λ (p : ActionKey). p.connection ≡ n) places → All (λ (p : ActionKey). p.connection ≡ n) more
own_more n q s places more e added h k d lt =
    own_at n q s places more (get_or more k d) e added h (list_any_at (λ r. is_eq (place_cmp (get_or more k d) r)) more k d lt (ap is_eq (tied_itself places_total (get_or more k d))))

-- ---- what the spots lead to

-- the actions that have an entry there are listed
pub dirty_listed : (n : ℕ) (q : Path) (places : List ActionKey) (spots : List EntrySpot) (es : PlacedActions) → AllSpotted spots es
    → AreListedUnder n q places spots → AreListed n q places es
dirty_listed n q places spots es spotted listed k d lt dirty =
    let e : Entry = get_or es k d in
    let own : is_of n e ≡ true = and_first (is_of n e) (list_any (λ a. is_at_or_above q a.0) e.1) dirty in
    let a = Any-from_list_any (λ (x : Assignment). is_at_or_above q x.0) e.1 (and_second (is_of n e) (list_any (λ a. is_at_or_above q a.0) e.1) dirty) in
    let x : Assignment = a.1 in
    let there : has_entry_spot spots e.0 x.0 ≡ true =
    subst (λ (y : Assignment). has_entry_spot spots e.0 y.0 ≡ true) a.3 (spotted k d lt a.0 x a.2) in
    let s = Any-from_list_any (λ (t : EntrySpot). is_eq (entry_spot_cmp (record { place = e.0; path = x.0 }) t)) spots there in
    let is : record { place = e.0; path = x.0 } ≡ s.1 = entry_spot_exact (record { place = e.0; path = x.0 }) s.1 s.4 in
    let under : is_under n q s.1 ≡ true = ap (is_under n q) (sym is) ∙ (λ i. own i && a.4 i) in
    let found : has_place places (get_or spots s.0 s.1).place ≡ true = listed s.0 s.1 s.2 (ap (is_under n q) s.3 ∙ under) in
    ap (λ (t : EntrySpot). has_place places t.place) is ∙ ap (λ (t : EntrySpot). has_place places t.place) (sym s.3) ∙ found

-- ---- what is kept

pub kept_all : (es : PlacedActions) (old new : List EntrySpot) → AreSpotsKept old new → AllSpotted old es → AllSpotted new es
kept_all es old new kept h =
    All-weaker (HasSpots old) (HasSpots new) (λ e g. All-weaker (λ (a : Assignment). has_entry_spot old e.0 a.0 ≡ true) (λ a. has_entry_spot new e.0 a.0 ≡ true) (λ a there. kept e.0 a.0 there) e.1 g) es h

pub kept_through : (a b c : List EntrySpot) → AreSpotsKept a b → AreSpotsKept b c → AreSpotsKept a c
kept_through a b c h k p q e = k p q (h p q e)

pub kept_itself : (a : List EntrySpot) → AreSpotsKept a a
kept_itself a p q e = e

abbrev pub IsSpotAdded : EntrySpot → List EntrySpot → List EntrySpot → Type 0
IsSpotAdded k old new = (s : EntrySpot) → list_any (λ t. is_eq (entry_spot_cmp s t)) new
    ≡ cond (is_eq (entry_spot_cmp k s)) true (list_any (λ t. is_eq (entry_spot_cmp s t)) old)

pub added_kept : (k : EntrySpot) (old new : List EntrySpot) → IsSpotAdded k old new → AreSpotsKept old new
added_kept k old new e p q h =
    let s : EntrySpot = record { place = p; path = q } in
    e s ∙ elim (is_eq (entry_spot_cmp k s)) as (λ b. cond b true (has_entry_spot old p q) ≡ true) [
      | true ↦ refl
      | false ↦ h
    ]

pub added_itself : (k : EntrySpot) (old new : List EntrySpot) → IsSpotAdded k old new → has_entry_spot new k.place k.path ≡ true
added_itself k old new e =
    e k ∙ ap (λ o. cond (is_eq o) true (list_any (λ t. is_eq (entry_spot_cmp k t)) old)) (tied_itself entry_spots_total k)

-- the spots of the first entries are among these, and of one more
abbrev pub AreFirstPut : List EntrySpot → ActionKey → List Assignment → ℕ → Type 0
AreFirstPut spots p es n = (k : ℕ) (d : Assignment) → k < n → has_entry_spot spots p (get_or es k d).0 ≡ true

pub first_more : (old new : List EntrySpot) (p : ActionKey) (es : List Assignment) (n : ℕ) (a : Assignment) → n < length es → a ≡ get_or es n a
    → AreSpotsKept old new → has_entry_spot new p a.0 ≡ true → AreFirstPut old p es n → AreFirstPut new p es (n + 1)
first_more old new p es n a lt at kept here h k d low = by (nat_lt k n) refl
  where
    by : (b : Bool) → nat_lt k n ≡ b → has_entry_spot new p (get_or es k d).0 ≡ true
    by true e = kept p (get_or es k d).0 (h k d (ltb-true k n e))
    by false e =
        let same : k ≡ n = omega (arith, ltb-false k n e, low) in
        ap (λ m. has_entry_spot new p (get_or es m d).0) same ∙ ap (λ (x : Assignment). has_entry_spot new p x.0) (sym (get_or_read es n a lt at d)) ∙ here

-- ---- one less

abbrev pub IsSpotTaken : EntrySpot → List EntrySpot → List EntrySpot → Type 0
IsSpotTaken k old new = (s : EntrySpot) → list_any (λ t. is_eq (entry_spot_cmp s t)) new
    ≡ cond (is_eq (entry_spot_cmp k s)) false (list_any (λ t. is_eq (entry_spot_cmp s t)) old)

never : (b : Bool) → (b ≡ true → ⊥) → b ≡ false
never true h = absurd (h refl)
never false h = refl

pub others_taken : (at : ActionKey) (under path : Path) (old new : List EntrySpot) → is_at_or_above under path ≡ true
    → IsSpotTaken (record { place = at; path = path }) old new → AreOthersKept at under old new
others_taken at under path old new low taken p q other h =
    let k : EntrySpot = record { place = at; path = path } in
    let s : EntrySpot = record { place = p; path = q } in
    let differs : is_eq (entry_spot_cmp k s) ≡ false = never (is_eq (entry_spot_cmp k s)) (λ e.
    let same : k ≡ s = entry_spot_exact k s e in
    let place : is_eq (place_cmp at p) ≡ true = ap (λ (t : EntrySpot). is_eq (place_cmp at t.place)) (sym same) ∙ ap is_eq (tied_itself places_total at) in
    let there : is_at_or_above under q ≡ true = ap (λ (t : EntrySpot). is_at_or_above under t.path) (sym same) ∙ low in
    true≢false (sym (λ i. place i && there i) ∙ other)) in
    taken s ∙ ap (λ b. cond b false (has_entry_spot old p q)) differs ∙ h

pub others_itself : (at : ActionKey) (under : Path) (a : List EntrySpot) → AreOthersKept at under a a
others_itself at under a p q other h = h

pub others_through : (at : ActionKey) (under : Path) (a b c : List EntrySpot) → AreOthersKept at under a b → AreOthersKept at under b c → AreOthersKept at under a c
others_through at under a b c h k p q other e = k p q other (h p q other e)

-- an action at another place keeps its spots
other_kept : (at : ActionKey) (under : Path) (old new : List EntrySpot) (e : Entry) → AreOthersKept at under old new → is_eq (place_cmp at e.0) ≡ false
    → HasSpots old e → HasSpots new e
other_kept at under old new e others out h =
    All-weaker (λ (a : Assignment). has_entry_spot old e.0 a.0 ≡ true) (λ a. has_entry_spot new e.0 a.0 ≡ true)
    (λ a there. others e.0 a.0 (ap (λ b. b && is_at_or_above under a.0) out) there) e.1 h

others_behind : (at : ActionKey) (under : Path) (old new : List EntrySpot) (es : PlacedActions) → AreOthersKept at under old new
    → All (λ r. place_cmp at r ≡ Less) (keys_of es) → AllSpotted old es → AllSpotted new es
others_behind at under old new [] others less h = λ k d lt. absurd (omega (arith, lt))
others_behind at under old new (e ∷ es) others less h =
    All-cons (HasSpots new) e es
    (other_kept at under old new e others (ap is_eq (All-head (λ r. place_cmp at r ≡ Less) e.0 (keys_of es) less)) (All-head (HasSpots old) e es h))
    (others_behind at under old new es others (All-tail (λ r. place_cmp at r ≡ Less) e.0 (keys_of es) less) (All-tail (HasSpots old) e es h))

pub spotted_taken : (at : ActionKey) (under : Path) (old new : List EntrySpot) (es : PlacedActions) → AreByPlace es → AreOthersKept at under old new
    → AllSpotted old es → AllSpotted new (remove_entry (key_is (place_cmp at)) es)
spotted_taken at under old new [] s others h = λ k d lt. absurd (omega (arith, lt))
spotted_taken at under old new (e ∷ es) s others h =
    elim (is_eq (place_cmp at e.0)) as (λ b. is_eq (place_cmp at e.0) ≡ b → AllSpotted new (cond b es (e ∷ remove_entry (key_is (place_cmp at)) es))) [
      | true ↦ λ f. others_behind at under old new es others (after_equal at e.0 (keys_of es) f s) (All-tail (HasSpots old) e es h)
      | false ↦ λ f.
          All-cons (HasSpots new) e (remove_entry (key_is (place_cmp at)) es)
          (other_kept at under old new e others f (All-head (HasSpots old) e es h))
          (spotted_taken at under old new es (sorted_tail place_cmp e.0 (keys_of es) s) others (All-tail (HasSpots old) e es h))
    ] refl

and_no : (b : Bool) → (b && false) ≡ false
and_no true = refl
and_no false = refl

is_not : (b : Bool) → not b ≡ true → b ≡ false
is_not true e = sym e
is_not false e = refl

-- and one that loses its entries at and below a path, those of its others
left_kept : (at : ActionKey) (under : Path) (old new : List EntrySpot) (e : Entry) → AreOthersKept at under old new → HasSpots old e
    → HasSpots new (e.0, apart under e.1)
left_kept at under old new e others h k d lt =
    let a : Assignment = get_or (apart under e.1) k d in
    let out : is_at_or_above under a.0 ≡ false = is_not (is_at_or_above under a.0) (filter_passes (λ (x : Assignment). not (is_at_or_above under x.0)) e.1 k d lt) in
    others e.0 a.0 (ap (λ b. is_eq (place_cmp at e.0) && b) out ∙ and_no (is_eq (place_cmp at e.0)))
    (All-filter (λ (x : Assignment). not (is_at_or_above under x.0)) (λ (x : Assignment). has_entry_spot old e.0 x.0 ≡ true) e.1 h k d lt)

pub spotted_cut : (at : ActionKey) (under : Path) (old new : List EntrySpot) (es : PlacedActions) → AreByPlace es → AreOthersKept at under old new
    → AllSpotted old es → AllSpotted new (cut_at at under es)
spotted_cut at under old new [] s others h = λ k d lt. absurd (omega (arith, lt))
spotted_cut at under old new (e ∷ es) s others h =
    elim (is_eq (place_cmp at e.0)) as (λ b. is_eq (place_cmp at e.0) ≡ b
    → AllSpotted new (if b then (if is_empty (apart under e.1) then es else (e.0, apart under e.1) ∷ es) else e ∷ cut_at at under es)) [
      | true ↦ λ f.
          let rest = others_behind at under old new es others (after_equal at e.0 (keys_of es) f s) (All-tail (HasSpots old) e es h) in
          elim (is_empty (apart under e.1)) as (λ b. AllSpotted new (if b then es else (e.0, apart under e.1) ∷ es)) [
            | true ↦ rest
            | false ↦ All-cons (HasSpots new) (e.0, apart under e.1) es (left_kept at under old new e others (All-head (HasSpots old) e es h)) rest
          ]
      | false ↦ λ f.
          All-cons (HasSpots new) e (cut_at at under es)
          (other_kept at under old new e others f (All-head (HasSpots old) e es h))
          (spotted_cut at under old new es (sorted_tail place_cmp e.0 (keys_of es) s) others (All-tail (HasSpots old) e es h))
    ] refl

pub spotted_dropped : (spots : List EntrySpot) (es left : PlacedActions) → left ≡ filter (λ e. not (is_bare e)) es → AllSpotted spots es → AllSpotted spots left
spotted_dropped spots es left is h = subst (AllSpotted spots) (sym is) (All-filter (λ e. not (is_bare e)) (HasSpots spots) es h)
