-- What a step does to the tree of paths, spot by spot.
use Rattle.std.proofs.Common.{◌≡◌, ◌==◌, ◌≤◌, ℕ, max, Bool, true, false, cond, not, ◌&&◌, ◌||◌, List, [], ◌∷◌, ◌++◌, length, Option, Some, None, is_some, Result, Ok, Err, OnOk, refl, sym, ap, subst, ◌∙◌, arith}
use Rattle.std.specs.List.{list_any}
use Rattle.std.proofs.Common.{◌<◌, nat_le, eqb-true, zero, suc, ◌⊎◌, inl, inr, ⊎_elim}
use Rattle.std.specs.Prelude.{IsTrue}
use Rattle.std.specs.List.{slice_get}
use Rattle.std.proofs.lemmas.List.Folds.{list_any-append}
use Rattle.std.proofs.lemmas.Bool.{leb-true, leb-false}
use Rattle.std.specs.Option.{option_map_or}
use Rattle.std.specs.Ordering.{nat_cmp}
use Rattle.std.specs.BTreeMap.{BTreeMap, get, is_at}
use Rattle.std.specs.BTreeSet.{contains}
use Rattle.std.specs.Map.{lookup}
use Rattle.rt_tree.specs.PathTree.{Key, Path, key_cmp, key_eq, key_eq-is, key_eq-symm, path_eq, path_eq-append, strip}
use Rattle.rt_tree.specs.Assignments.{Assignment, is_at_or_above}
use Rattle.rt_writes.specs.declared.spots.Spot.{Spot}
use Rattle.rt_writes.specs.declared.spots.Spot.TheOpen.{Spot-F}
use Rattle.rt_writes.specs.declared.spots.Spot.TheViews.{out-Spot, roll-Spot, out-roll-Spot}
use Rattle.rt_writes.specs.inside.Spots.{here_of, under_of, below_of, has_here, has_under, has_full, place_at, is_entry, Changes, IsAbove, IsLast, later_of, ChangesAll}
use Rattle.rt_writes.specs.declared.marks.Marks.{Marks}

pub on_ok : {T E P Q : Type 0} (r : Result T E) → (P → Q) → OnOk r P → OnOk r Q
on_ok (Ok x) f h = f h
on_ok (Err e) f h = tt

pub no_keys : (p : Path) → length p ≡ 0 → p ≡ []
no_keys [] e = refl
no_keys (k ∷ p) e = absurd (omega arith)

pub same_both : {X : Type 0} (b : Bool) (x : X) → x ≡ cond b x x
same_both true x = refl
same_both false x = refl

-- ---- where nothing is kept
pub bare_here : (s : Spot) → (here_of s).entries ≡ [] → (below_of s).entries ≡ [] → (q : Path) (j : ℕ) → has_here s q j ≡ false
bare_here s e f [] j = ap (λ es. is_some (lookup (is_at (nat_cmp j)) es)) e
bare_here s e f (k ∷ q) j = ap (λ es. option_map_or (λ c. has_here c q j) (lookup (is_at (key_cmp k)) es) false) f

pub bare_place : (s : Spot) → (here_of s).entries ≡ [] → (below_of s).entries ≡ [] → (q : Path) (j : ℕ) → place_at s q j ≡ None
bare_place s e f [] j = ap (λ es. lookup (is_at (nat_cmp j)) es) e
bare_place s e f (k ∷ q) j = ap (λ es. option_map_or (λ c. place_at c q j) (lookup (is_at (key_cmp k)) es) None) f

pub bare_under : (s : Spot) → (under_of s).all.keys ≡ [] → (below_of s).entries ≡ [] → (q : Path) (j : ℕ) → has_under s q j ≡ false
bare_under s e f [] j = ap (list_any (is_at (nat_cmp j))) e
bare_under s e f (k ∷ q) j = ap (λ es. option_map_or (λ c. has_under c q j) (lookup (is_at (key_cmp k)) es) false) f

pub bare_full : (s : Spot) → (under_of s).full.keys ≡ [] → (below_of s).entries ≡ [] → (q : Path) (j : ℕ) → has_full s q j ≡ false
bare_full s e f [] j = ap (list_any (is_at (nat_cmp j))) e
bare_full s e f (k ∷ q) j = ap (λ es. option_map_or (λ c. has_full c q j) (lookup (is_at (key_cmp k)) es) false) f

-- a write is kept where its place is
pub has_place : (s : Spot) (q : Path) (j : ℕ) → has_here s q j ≡ is_some (place_at s q j)
has_place s [] j = refl
has_place s (k ∷ q) j =
    elim (get key_cmp (below_of s) k) as (λ o. option_map_or (λ c. has_here c q j) o false ≡ is_some (option_map_or (λ c. place_at c q j) o None)) [
      | None ↦ refl
      | Some c ↦ has_place c q j
    ]

-- ---- a step, by what it does to the numbers and to the spots below
abbrev pub here_in : Option Spot → Path → ℕ → Bool
here_in o q j = option_map_or (λ c. has_here c q j) o false

abbrev pub place_in : Option Spot → Path → ℕ → Option ℕ
place_in o q j = option_map_or (λ c. place_at c q j) o None

abbrev pub under_in : Option Spot → Path → ℕ → Bool
under_in o q j = option_map_or (λ c. has_under c q j) o false

abbrev pub full_in : Option Spot → Path → ℕ → Bool
full_in o q j = option_map_or (λ c. has_full c q j) o false

-- one layer of a spot that was opened: with other numbers under it
abbrev pub layer : Spot → Marks → Spot-F Spot
layer s u = record { here = here_of s; under = u; below = below_of s }

abbrev pub rolled : BTreeMap ℕ ℕ → Marks → BTreeMap Key Spot → Spot
rolled h u b = roll-Spot (record { here = h; under = u; below = b })

pub here_kept : (s : Spot) (u : Marks) → (out-Spot (roll-Spot (layer s u))).here ≡ here_of s
here_kept s u = ap (λ r. r.here) (out-roll-Spot (layer s u))

pub below_kept : (s : Spot) (u : Marks) → (out-Spot (roll-Spot (layer s u))).below ≡ below_of s
below_kept s u = ap (λ r. r.below) (out-roll-Spot (layer s u))

pub here_rolled : (h : BTreeMap ℕ ℕ) (u : Marks) (b : BTreeMap Key Spot) → here_of (rolled h u b) ≡ h
here_rolled h u b = ap (λ r. r.here) (out-roll-Spot (record { here = h; under = u; below = b }))

pub under_rolled : (h : BTreeMap ℕ ℕ) (u : Marks) (b : BTreeMap Key Spot) → under_of (rolled h u b) ≡ u
under_rolled h u b = ap (λ r. r.under) (out-roll-Spot (record { here = h; under = u; below = b }))

pub below_rolled : (h : BTreeMap ℕ ℕ) (u : Marks) (b : BTreeMap Key Spot) → below_of (rolled h u b) ≡ b
below_rolled h u b = ap (λ r. r.below) (out-roll-Spot (record { here = h; under = u; below = b }))

pub changes_root : (F : Bool → Bool → Bool) → ((b : Bool) → F false b ≡ b) → (place : Option ℕ) (fills : Bool) (old : Spot) (h : BTreeMap ℕ ℕ) (u : Marks) (id : ℕ)
    → ((j : ℕ) → get nat_cmp h j ≡ cond (id == j) place (get nat_cmp (here_of old) j))
    → ((j : ℕ) → contains nat_cmp u.all j ≡ F (id == j) (contains nat_cmp (under_of old).all j))
    → ((j : ℕ) → contains nat_cmp u.full j ≡ F (fills && (id == j)) (contains nat_cmp (under_of old).full j))
    → (keys : Path) → length keys ≡ 0 → Changes F place fills old (rolled h u (below_of old)) keys id
changes_root F still place fills old h u id here under full (k ∷ keys) e = absurd (omega arith)
changes_root F still place fills old h u id here under full [] e = record { places = at_place; under = at_under; full = at_full }
  where
    at_place : (q : Path) (j : ℕ) → place_at (rolled h u (below_of old)) q j ≡ cond (path_eq [] q && (id == j)) place (place_at old q j)
    at_place [] j = ap (λ s. get nat_cmp s j) (here_rolled h u (below_of old)) ∙ here j
    at_place (k ∷ q) j = ap (λ m. place_in (get key_cmp m k) q j) (below_rolled h u (below_of old))

    at_under : (q : Path) (j : ℕ) → has_under (rolled h u (below_of old)) q j ≡ F (is_at_or_above q [] && (id == j)) (has_under old q j)
    at_under [] j = ap (λ s. contains nat_cmp s.all j) (under_rolled h u (below_of old)) ∙ under j
    at_under (k ∷ q) j = ap (λ m. under_in (get key_cmp m k) q j) (below_rolled h u (below_of old)) ∙ sym (still (under_in (get key_cmp (below_of old) k) q j))

    at_full : (q : Path) (j : ℕ) → has_full (rolled h u (below_of old)) q j ≡ F ((is_at_or_above q [] && fills) && (id == j)) (has_full old q j)
    at_full [] j = ap (λ s. contains nat_cmp s.full j) (under_rolled h u (below_of old)) ∙ full j
    at_full (k ∷ q) j = ap (λ m. full_in (get key_cmp m k) q j) (below_rolled h u (below_of old)) ∙ sym (still (full_in (get key_cmp (below_of old) k) q j))

pub changes_below : (F : Bool → Bool → Bool) → ((b : Bool) → F false b ≡ b) → (place : Option ℕ) (fills : Bool) (old : Spot) (u : Marks) (m : BTreeMap Key Spot) (k : Key) (rest : Path) (id : ℕ) (o : Option Spot)
    → ((j : ℕ) → contains nat_cmp u.all j ≡ F (id == j) (contains nat_cmp (under_of old).all j))
    → ((j : ℕ) → contains nat_cmp u.full j ≡ F (fills && (id == j)) (contains nat_cmp (under_of old).full j))
    → ((x : Key) → get key_cmp m x ≡ cond (key_eq k x) o (get key_cmp (below_of old) x))
    → ((q : Path) (j : ℕ) → place_in o q j ≡ cond (path_eq rest q && (id == j)) place (place_in (get key_cmp (below_of old) k) q j))
    → ((q : Path) (j : ℕ) → under_in o q j ≡ F (is_at_or_above q rest && (id == j)) (under_in (get key_cmp (below_of old) k) q j))
    → ((q : Path) (j : ℕ) → full_in o q j ≡ F ((is_at_or_above q rest && fills) && (id == j)) (full_in (get key_cmp (below_of old) k) q j))
    → (keys : Path) → keys ≡ k ∷ rest → Changes F place fills old (rolled (here_of old) u m) keys id
changes_below F still place fills old u m k rest id o under full below in_place in_under in_full keys is =
    subst (λ p. Changes F place fills old (rolled (here_of old) u m) p id) (sym is) (record { places = at_place; under = at_under; full = at_full })
  where
    at_place : (q : Path) (j : ℕ) → place_at (rolled (here_of old) u m) q j ≡ cond (path_eq (k ∷ rest) q && (id == j)) place (place_at old q j)
    at_place [] j = ap (λ s. get nat_cmp s j) (here_rolled (here_of old) u m)
    at_place (x ∷ q) j =
        ap (λ z. place_in (get key_cmp z x) q j) (below_rolled (here_of old) u m)
        ∙ ap (λ c. place_in c q j) (below x)
        ∙ elim (key_eq k x) as (λ b. key_eq k x ≡ b → place_in (cond b o (get key_cmp (below_of old) x)) q j ≡ cond (option_map_or (path_eq rest) (cond b (Some q) None) false && (id == j)) place (place_in (get key_cmp (below_of old) x) q j)) [
          | true ↦ λ e. in_place q j ∙ ap (λ y. cond (path_eq rest q && (id == j)) place (place_in (get key_cmp (below_of old) y) q j)) (key_eq-is k x e)
          | false ↦ λ e. refl
        ] refl
        ∙ ap (λ b. cond (b && (id == j)) place (place_in (get key_cmp (below_of old) x) q j)) (sym (path_eq-append (k ∷ []) rest (x ∷ q)))

    at_under : (q : Path) (j : ℕ) → has_under (rolled (here_of old) u m) q j ≡ F (is_at_or_above q (k ∷ rest) && (id == j)) (has_under old q j)
    at_under [] j = ap (λ s. contains nat_cmp s.all j) (under_rolled (here_of old) u m) ∙ under j
    at_under (x ∷ q) j =
        ap (λ z. under_in (get key_cmp z x) q j) (below_rolled (here_of old) u m)
        ∙ ap (λ c. under_in c q j) (below x)
        ∙ elim (key_eq k x) as (λ b. key_eq k x ≡ b → under_in (cond b o (get key_cmp (below_of old) x)) q j ≡ F (is_some (cond b (strip q rest) None) && (id == j)) (under_in (get key_cmp (below_of old) x) q j)) [
          | true ↦ λ e. in_under q j ∙ ap (λ y. F (is_at_or_above q rest && (id == j)) (under_in (get key_cmp (below_of old) y) q j)) (key_eq-is k x e)
          | false ↦ λ e. sym (still (under_in (get key_cmp (below_of old) x) q j))
        ] refl
        ∙ ap (λ b. F (is_some (cond b (strip q rest) None) && (id == j)) (under_in (get key_cmp (below_of old) x) q j)) (key_eq-symm k x)

    at_full : (q : Path) (j : ℕ) → has_full (rolled (here_of old) u m) q j ≡ F ((is_at_or_above q (k ∷ rest) && fills) && (id == j)) (has_full old q j)
    at_full [] j = ap (λ s. contains nat_cmp s.full j) (under_rolled (here_of old) u m) ∙ full j
    at_full (x ∷ q) j =
        ap (λ z. full_in (get key_cmp z x) q j) (below_rolled (here_of old) u m)
        ∙ ap (λ c. full_in c q j) (below x)
        ∙ elim (key_eq k x) as (λ b. key_eq k x ≡ b → full_in (cond b o (get key_cmp (below_of old) x)) q j ≡ F ((is_some (cond b (strip q rest) None) && fills) && (id == j)) (full_in (get key_cmp (below_of old) x) q j)) [
          | true ↦ λ e. in_full q j ∙ ap (λ y. F ((is_at_or_above q rest && fills) && (id == j)) (full_in (get key_cmp (below_of old) y) q j)) (key_eq-is k x e)
          | false ↦ λ e. sym (still (full_in (get key_cmp (below_of old) x) q j))
        ] refl
        ∙ ap (λ b. F ((is_some (cond b (strip q rest) None) && fills) && (id == j)) (full_in (get key_cmp (below_of old) x) q j)) (key_eq-symm k x)

-- the spots below after one came at k
pub get_set : (m n old : BTreeMap Key Spot) (i k : Key) (o : Option Spot) → i ≡ k → m ≡ old
    → ((x : Key) → get key_cmp n x ≡ cond (is_at (key_cmp i) x) o (get key_cmp m x))
    → (x : Key) → get key_cmp n x ≡ cond (key_eq k x) o (get key_cmp old x)
get_set m n old i k o key map h x = h x ∙ (λ z. cond (key_eq (key z) x) o (get key_cmp (map z) x))

pub adds_still : (b : Bool) → (false || b) ≡ b
adds_still b = refl

pub forgets_still : (b : Bool) → (not false && b) ≡ b
forgets_still b = refl

-- what is taken from nothing is nothing
pub from_none : (b : Bool) → false ≡ (not b && false)
from_none true = refl
from_none false = refl

-- no spot at the key
pub get_absent : {X : Type 0} (f g : Key → Option X) (k : Key) → ((x : Key) → g x ≡ f x) → f k ≡ None → (x : Key) → g x ≡ cond (key_eq k x) None (f x)
get_absent f g k same none x =
    same x ∙ elim (key_eq k x) as (λ b. key_eq k x ≡ b → f x ≡ cond b None (f x)) [
      | true ↦ λ e. ap f (sym (key_eq-is k x e)) ∙ none
      | false ↦ λ e. refl
    ] refl

-- ---- the greatest number
pub last_same : (P Q : ℕ → Type 0) (o : Option ℕ) → ((j : ℕ) → P j → Q j) → ((j : ℕ) → Q j → P j) → IsLast P o → IsLast Q o
last_same P Q None to from h = λ j q. h j (from j q)
last_same P Q (Some m) to from h = (to m h.0, λ j q. h.1 j (from j q))

pub last_later : (P Q R : ℕ → Type 0) (a b : Option ℕ) → ((j : ℕ) → P j → R j) → ((j : ℕ) → Q j → R j)
    → ((j : ℕ) (X : Type 0) → R j → (P j → X) → (Q j → X) → X) → IsLast P a → IsLast Q b → IsLast R (later_of a b)
last_later P Q R None None one other both h g = λ j r. both j ⊥ r (h j) (g j)
last_later P Q R None (Some n) one other both h g = (other n g.0, λ j r. both j (j ≤ n) r (λ p. absurd (h j p)) (g.1 j))
last_later P Q R (Some m) None one other both h g = (one m h.0, λ j r. both j (j ≤ m) r (h.1 j) (λ q. absurd (g j q)))
last_later P Q R (Some m) (Some n) one other both h g = (
  elim (nat_le m n) as (λ b. nat_le m n ≡ b → R (max m n)) [
    | true ↦ λ e. subst R (let le : m ≤ n = leb-true m n e in let is : n ≡ max m n = omega arith in is) (other n g.0)
    | false ↦ λ e. subst R (let gt : n < m = leb-false m n e in let is : m ≡ max m n = omega arith in is) (one m h.0)
  ] refl,
  λ j r. both j (j ≤ max m n) r (λ p. let le : j ≤ m = h.1 j p in omega arith) (λ q. let le : j ≤ n = g.1 j q in omega arith),
)

-- a path above k ∷ rest is the root, or k and a path above rest
pub above_root : (s : Spot) (keys : Path) → length keys ≡ 0 → (j : ℕ) → IsAbove s keys j → has_here s [] j ≡ true
above_root s (k ∷ keys) e j h = absurd (omega arith)
above_root s [] e j ([], y, is, has) = has
above_root s [] e j (i ∷ x, y, is, has) = cc

pub root_above : (s : Spot) (keys : Path) (j : ℕ) → has_here s [] j ≡ true → IsAbove s keys j
root_above s keys j has = ([], keys, refl, has)

pub above_child : (s : Spot) (keys : Path) (k : Key) (rest : Path) (o : Option Spot) → keys ≡ k ∷ rest → get key_cmp (below_of s) k ≡ o
    → (j : ℕ) (X : Type 0) → IsAbove s keys j → (has_here s [] j ≡ true → X)
    → ((x y : Path) → rest ≡ x ++ y → here_in o x j ≡ true → X) → X
above_child s keys k rest o at is j X ([], y, e, has) here below = here has
above_child s keys k rest o at is j X (i ∷ x, y, e, has) here below =
    let both : k ∷ rest ≡ i ∷ (x ++ y) = sym at ∙ e in
    let tail : rest ≡ x ++ y = cc in
    let head : i ≡ k = cc in
    below x y tail (sym (ap (λ z. here_in (get key_cmp (below_of s) z) x j) head ∙ ap (λ z. here_in z x j) is) ∙ has)

pub child_above : (s c : Spot) (keys : Path) (k : Key) (rest : Path) → keys ≡ k ∷ rest → get key_cmp (below_of s) k ≡ Some c
    → (j : ℕ) → IsAbove c rest j → IsAbove s keys j
child_above s c keys k rest at is j (x, y, e, has) = (k ∷ x, y, at ∙ ap (λ z. k ∷ z) e, ap (λ z. here_in z x j) is ∙ has)

-- ---- a step for each entry
pub changes_none : (F : Bool → Bool → Bool) → ((b : Bool) → F false b ≡ b) → (fills : Assignment → Bool) (s : Spot) (id : ℕ) → ChangesAll F fills s s [] id
changes_none F still fills s id = record {
  here = λ q j. sym (still (has_here s q j));
  under = λ q j. sym (still (has_under s q j));
  full = λ q j. sym (still (has_full s q j));
  places = λ q j i e. inr e;
}

-- F of one entry after those before it
abbrev Joins : (Bool → Bool → Bool) → Type 0
Joins F = (s t i b : Bool) → F (t && i) (F (s && i) b) ≡ F ((s || (t || false)) && i) b

pub adds_join : Joins (λ now before. now || before)
adds_join true true true b = refl
adds_join true true false b = refl
adds_join true false true b = refl
adds_join true false false b = refl
adds_join false true true b = refl
adds_join false true false b = refl
adds_join false false true b = refl
adds_join false false false b = refl

pub forgets_join : Joins (λ now before. not now && before)
forgets_join true true true b = refl
forgets_join true true false b = refl
forgets_join true false true b = refl
forgets_join true false false b = refl
forgets_join false true true b = refl
forgets_join false true false b = refl
forgets_join false false true b = refl
forgets_join false false false b = refl

-- what a place says of its write
abbrev Tells : (Bool → Bool → Bool) → Option ℕ → Type 0
Tells F place = (b : Bool) (x : Option ℕ) → is_some (cond b place x) ≡ F b (is_some x)

pub adds_tell : (i : ℕ) → Tells (λ now before. now || before) (Some i)
adds_tell i true x = refl
adds_tell i false x = refl

pub forgets_tell : Tells (λ now before. not now && before) None
forgets_tell true x = refl
forgets_tell false x = refl

slice_end : (es : List Assignment) (a : Assignment) → slice_get (es ++ a ∷ []) (length es) ≡ Some a
slice_end [] a = refl
slice_end (x ∷ es) a = slice_end es a

entry_more : (es : List Assignment) (a : Assignment) (i : ℕ) (q : Path) → is_entry es i q ≡ true → is_entry (es ++ a ∷ []) i q ≡ true
entry_more [] a i q e = cc
entry_more (x ∷ es) a zero q e = e
entry_more (x ∷ es) a (suc i) q e = entry_more es a i q e

pub both_true : (b c : Bool) → (b && c) ≡ true → (b ≡ true) × (c ≡ true)
both_true true c e = (refl, e)
both_true false c e = cc

pub changes_more : (F : Bool → Bool → Bool) → Joins F → (fills : Assignment → Bool) (place : Option ℕ) → Tells F place → (s old new : Spot) (es fs : List Assignment) (a : Assignment) (id : ℕ)
    → ((i : ℕ) → place ≡ Some i → i ≡ length es)
    → ChangesAll F fills s old es id → Changes F place (fills a) old new a.0 id → fs ≡ es ++ a ∷ [] → ChangesAll F fills s new fs id
changes_more F joins fills place tells s old new es fs a id end before now is = subst (λ xs. ChangesAll F fills s new xs id) (sym is) (record {
  here = λ q j.
      has_place new q j ∙ ap is_some (now.places q j) ∙ tells (path_eq a.0 q && (id == j)) (place_at old q j)
      ∙ ap (λ b. F (path_eq a.0 q && (id == j)) b) (sym (has_place old q j) ∙ before.here q j)
      ∙ joins (list_any (λ x. path_eq x.0 q) es) (path_eq a.0 q) (id == j) (has_here s q j)
      ∙ ap (λ b. F (b && (id == j)) (has_here s q j)) (sym (list_any-append (λ x. path_eq x.0 q) es (a ∷ [])));
  under = λ q j.
      now.under q j ∙ ap (λ b. F (is_at_or_above q a.0 && (id == j)) b) (before.under q j)
      ∙ joins (list_any (λ x. is_at_or_above q x.0) es) (is_at_or_above q a.0) (id == j) (has_under s q j)
      ∙ ap (λ b. F (b && (id == j)) (has_under s q j)) (sym (list_any-append (λ x. is_at_or_above q x.0) es (a ∷ [])));
  full = λ q j.
      now.full q j ∙ ap (λ b. F ((is_at_or_above q a.0 && fills a) && (id == j)) b) (before.full q j)
      ∙ joins (list_any (λ x. is_at_or_above q x.0 && fills x) es) (is_at_or_above q a.0 && fills a) (id == j) (has_full s q j)
      ∙ ap (λ b. F (b && (id == j)) (has_full s q j)) (sym (list_any-append (λ x. is_at_or_above q x.0 && fills x) es (a ∷ [])));
  places = λ q j i e. at_place q j i e;
})
  where
    at_place : (q : Path) (j i : ℕ) → place_at new q j ≡ Some i → ((id ≡ j) × (is_entry (es ++ a ∷ []) i q ≡ true)) ⊎ (place_at s q j ≡ Some i)
    at_place q j i e =
        elim (path_eq a.0 q && (id == j)) as (λ b. (path_eq a.0 q && (id == j)) ≡ b → cond b place (place_at old q j) ≡ Some i → ((id ≡ j) × (is_entry (es ++ a ∷ []) i q ≡ true)) ⊎ (place_at s q j ≡ Some i)) [
          | true ↦ λ f g.
              let both = both_true (path_eq a.0 q) (id == j) f in
              inl (eqb-true id j both.1, ap (λ n. is_entry (es ++ a ∷ []) n q) (end i g) ∙ ap (λ o. option_map_or (λ x. path_eq x.0 q) o false) (slice_end es a) ∙ both.0)
          | false ↦ λ f g. ⊎_elim (λ h. inl (h.0, entry_more es a i q h.1)) (λ h. inr h) (before.places q j i g)
        ] refl (sym (now.places q j) ∙ e)

pub some_last : (f : ℕ → Bool) (o : Option ℕ) (b : Bool) → b ≡ is_some o → IsLast (λ j. f j ≡ true) o
    → (IsTrue b → (j : ℕ) × (f j ≡ true)) × (((j : ℕ) × (f j ≡ true)) → IsTrue b)
some_last f None b e h = (λ t. cc (sym t ∙ e), λ x. absurd (h x.0 x.1))
some_last f (Some m) b e h = (λ t. (m, h.0), λ x. e)

pub get_removed : {X : Type 0} (f g h : Key → Option X) (k : Key) (c : Option X) → ((x : Key) → g x ≡ cond (key_eq k x) c (f x))
    → ((x : Key) → h x ≡ cond (key_eq k x) None (g x)) → (x : Key) → h x ≡ cond (key_eq k x) None (f x)
get_removed f g h k c first then x =
    then x ∙ elim (key_eq k x) as (λ b. g x ≡ cond b c (f x) → cond b None (g x) ≡ cond b None (f x)) [
      | true ↦ λ e. refl
      | false ↦ λ e. e
    ] (first x)
