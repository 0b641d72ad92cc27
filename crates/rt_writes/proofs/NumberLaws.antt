-- Writes by their numbers: what the tree of paths keeps when one comes or goes, and which of them an
-- overlay needs.
use Rattle.std.proofs.Common.{◌≡◌, ◌==◌, ◌≤◌, ◌<◌, ℕ, suc, Bool, true, false, cond, not, ◌&&◌, ◌||◌, List, [], ◌∷◌, ◌++◌, length, get_or, nat_lt, Option, Some, None, is_some, refl, sym, ap, subst, ◌∙◌, arith, eqb-true, ⊎_elim}
use Rattle.std.specs.List.{All, AllPairs, fold, filter, find, list_any}
use Rattle.std.specs.Cmp.{unsigned_tied, tied_itself, nat_cmp_total}
use Rattle.std.specs.Ordering.{nat_cmp, is_eq, is_lt}
use Rattle.std.specs.declared.cmp.Ordering.TheVariants.{Less, Equal, Greater}
use Rattle.std.specs.BTreeMap.{get}
use Rattle.std.specs.BTreeSet.{contains}
use Rattle.std.proofs.lemmas.Bool.{ltb-true, ltb-false}
use Rattle.std.proofs.lemmas.Cmp.{ranked}
use Rattle.std.proofs.lemmas.List.Folds.{list_any-append, list_any_at, list_any_none}
use Rattle.std.specs.Option.{option_map_or, option_and_then}
use Rattle.std.specs.Prelude.{IsTrue}
use mathlib.Core.List.{append-nil}
use Rattle.std.proofs.lemmas.List.Sums.{fold-append}
use Rattle.std.proofs.lemmas.List.Concat.{flat_map-append}
use Rattle.rt_tree.specs.PathTree.{Key, Path, PathTree, null, key_cmp, path_eq, path_eq-is, path_eq-same, strip, strip-some, strip-append}
use Rattle.rt_tree.specs.Assignments.{Assignment, is_at_or_above, do_overlap}
use Rattle.rt_writes.specs.Writes.{Write, assignments, overlaid, overlay, sets_whole, sets_child_whole, without, touches, IsShallow}
use Rattle.rt_writes.specs.Kept.{IsKept}
use Rattle.std.proofs.lemmas.List.Kept.{AllPairs-filter}
use Rattle.std.proofs.lemmas.List.Elements.{All-filter}
use Rattle.rt_writes.specs.laws.TouchLaws.{fold-whole}
use Rattle.rt_writes.specs.declared.spots.Spot.{Spot}
use Rattle.rt_writes.specs.inside.Spots.{under_of, below_of, spot_at, has_here, has_under, has_full, place_at, tree_at, within, is_entry, is_full, AddsAll, ForgetsAll, IsAbove, IsLast, some_write, some_entry, IsMerged, IsPending, is_later, after}
use Rattle.rt_writes.proofs.Lists.{list_any-flat_map}
use Rattle.rt_writes.proofs.SpotLaws.{has_place}
use Rattle.rt_writes.proofs.AtChild.{at_itself, at_other}

-- ---- tests
or_true : (b : Bool) → (b || true) ≡ true
or_true true = refl
or_true false = refl

and_true : (b : Bool) → (b && true) ≡ b
and_true true = refl
and_true false = refl

or_false : (b : Bool) → (b || false) ≡ b
or_false true = refl
or_false false = refl

and_false : (b : Bool) → (b && false) ≡ false
and_false true = refl
and_false false = refl

pub not_so : (b : Bool) → (b ≡ true → ⊥) → b ≡ false
not_so true h = absurd (h refl)
not_so false h = refl

pub equal_itself : (n : ℕ) → (n == n) ≡ true
equal_itself n = sym (unsigned_tied n n) ∙ ap is_eq (tied_itself nat_cmp_total n)

apart : (a b : ℕ) → (a ≡ b → ⊥) → (a == b) ≡ false
apart a b h = not_so (a == b) (λ e. h (eqb-true a b e))

less_of : (n m : ℕ) → nat_cmp n m ≡ Less → n < m
less_of n m e = ranked n m Less (sym e)

lt_of_cmp : (n m : ℕ) → is_lt (nat_cmp n m) ≡ nat_lt n m
lt_of_cmp n m =
    elim (nat_lt n m) as (λ b. is_lt (cond b Less (cond (n == m) Equal Greater)) ≡ b) [
      | true ↦ refl
      | false ↦ elim (n == m) as (λ b. is_lt (cond b Equal Greater) ≡ false) [ true ↦ refl | false ↦ refl ]
    ]

pub any_of : {X : Type 0} (f g : X → Bool) → ((x : X) → f x ≡ true → g x ≡ true) → (xs : List X) → list_any f xs ≡ true → list_any g xs ≡ true
any_of f g h [] e = e
any_of f g h (x ∷ xs) e =
    elim (f x) as (λ b. f x ≡ b → (b || list_any f xs) ≡ true → (g x || list_any g xs) ≡ true) [
      | true ↦ λ s t. ap (λ b. b || list_any g xs) (h x s)
      | false ↦ λ s t. ap (λ b. g x || b) (any_of f g h xs t) ∙ or_true (g x)
    ] refl e

pub any_either : {X : Type 0} (f g : X → Bool) (xs : List X) → list_any f xs ≡ false → list_any g xs ≡ false → list_any (λ x. f x || g x) xs ≡ false
any_either f g [] e h = refl
any_either f g (x ∷ xs) e h =
    elim (f x) as (λ b. (b || list_any f xs) ≡ false → ((b || g x) || list_any (λ x. f x || g x) xs) ≡ false) [
      | true ↦ λ s. cc
      | false ↦ λ s. elim (g x) as (λ b. (b || list_any g xs) ≡ false → (b || list_any (λ x. f x || g x) xs) ≡ false) [
        | true ↦ λ t. cc
        | false ↦ λ t. any_either f g xs s t
      ] h
    ] e

any_filtered : {X : Type 0} (e f : X → Bool) (xs : List X) → list_any (λ x. e x && f x) xs ≡ list_any f (filter e xs)
any_filtered e f [] = refl
any_filtered e f (x ∷ xs) =
    elim (e x) as (λ b. ((b && f x) || list_any (λ x. e x && f x) xs) ≡ list_any f (cond b (x ∷ filter e xs) (filter e xs))) [
      | true ↦ ap (λ b. f x || b) (any_filtered e f xs)
      | false ↦ any_filtered e f xs
    ]

-- ---- numbers that rise
abbrev pub After : ℕ → List Write → Type 0
After n [] = Unit {0}
After n (w ∷ ws) = (n < w.id) × After n ws

abbrev pub Rising : List Write → Type 0
Rising [] = Unit {0}
Rising (w ∷ ws) = After w.id ws × Rising ws

after_of : (n : ℕ) (ws : List Write) → ((k : ℕ) (d : Write) → k < length ws → n < (get_or ws k d).id) → After n ws
after_of n [] h = tt
after_of n (w ∷ ws) h = (h 0 w (omega arith), after_of n ws (λ k d l. h (suc k) d (omega arith)))

pub rising_of : (ws : List Write) → AllPairs (λ v w. v.id < w.id) ws → Rising ws
rising_of [] h = tt
rising_of (w ∷ ws) h = (
  after_of w.id ws (λ k d l. h 0 (suc k) d (omega arith) (omega arith)),
  rising_of ws (λ i j d l m. h (suc i) (suc j) d (omega arith) (omega arith)),
)

-- ---- one write comes, one goes
abbrev pub sets : (Assignment → Bool) → Write → Bool
sets test w = list_any test w.entries

swapped : (l i x : Bool) → ((l && i) || x) ≡ (x || ((i && l) || false))
swapped true true true = refl
swapped true true false = refl
swapped true false true = refl
swapped true false false = refl
swapped false true true = refl
swapped false true false = refl
swapped false false true = refl
swapped false false false = refl

pub or_left : (b c : Bool) → b ≡ true → (b || c) ≡ true
or_left b c e = ap (λ x. x || c) e

pub or_right : (b c : Bool) → c ≡ true → (b || c) ≡ true
or_right b c e = ap (λ x. b || x) e ∙ or_true b

-- what a spot keeps is what the entries at or below it make
abbrev pub TreesOf : List Write → Spot → Type 0
TreesOf ws s = (q : Path) (u : PathTree) → tree_at s q ≡ Some u → u ≡ fold (overlaid q) null (within (assignments ws) q)

pub merged_more : (ws : List Write) (r s : Spot) (id : ℕ) (es : List Assignment) → AddsAll r s es id → TreesOf (ws ++ record { id = id; entries = es } ∷ []) s → IsMerged ws r
    → IsMerged (ws ++ record { id = id; entries = es } ∷ []) s
merged_more ws r s id es h trees m = record {
  trees = trees;
  here = λ q j.
      h.here q j ∙ ap (λ b. (list_any (λ a. path_eq a.0 q) es && (id == j)) || b) (m.here q j)
      ∙ swapped (list_any (λ a. path_eq a.0 q) es) (id == j) (some_entry (λ a. path_eq a.0 q) ws j)
      ∙ sym (list_any-append (λ w. (w.id == j) && list_any (λ a. path_eq a.0 q) w.entries) ws (record { id = id; entries = es } ∷ []));
  under = λ q j.
      h.under q j ∙ ap (λ b. (list_any (λ a. is_at_or_above q a.0) es && (id == j)) || b) (m.under q j)
      ∙ swapped (list_any (λ a. is_at_or_above q a.0) es) (id == j) (some_entry (λ a. is_at_or_above q a.0) ws j)
      ∙ sym (list_any-append (λ w. (w.id == j) && list_any (λ a. is_at_or_above q a.0) w.entries) ws (record { id = id; entries = es } ∷ []));
  full = λ q j.
      h.full q j ∙ ap (λ b. (list_any (λ a. is_at_or_above q a.0 && is_full a) es && (id == j)) || b) (m.full q j)
      ∙ swapped (list_any (λ a. is_at_or_above q a.0 && is_full a) es) (id == j) (some_entry (λ a. is_at_or_above q a.0 && is_full a) ws j)
      ∙ sym (list_any-append (λ w. (w.id == j) && list_any (λ a. is_at_or_above q a.0 && is_full a) w.entries) ws (record { id = id; entries = es } ∷ []));
  places = λ q j i e.
      list_any-append (λ w. (w.id == j) && is_entry w.entries i q) ws (record { id = id; entries = es } ∷ [])
      ∙ ⊎_elim
      (λ g. or_right (some_write (λ w. is_entry w.entries i q) ws j) (((id == j) && is_entry es i q) || false)
      (or_left ((id == j) && is_entry es i q) false (ap (λ n. (n == j) && is_entry es i q) g.0 ∙ ap (λ b. b && is_entry es i q) (equal_itself j) ∙ g.1)))
      (λ g. or_left (some_write (λ w. is_entry w.entries i q) ws j) (((id == j) && is_entry es i q) || false) (m.places q j i g))
      (h.places q j i e);
}

no_later : (test : Write → Bool) (n : ℕ) (ws : List Write) → After n ws → some_write test ws n ≡ false
no_later test n [] h = refl
no_later test n (w ∷ ws) h =
    let less : n < w.id = h.0 in
    ap (λ b. (b && test w) || some_write test ws n) (apart w.id n (λ e. omega arith)) ∙ no_later test n ws h.1

pub own : (test : Write → Bool) (ws : List Write) (w : Write) (id : ℕ) → Rising ws → find (λ v. v.id == id) ws ≡ Some w → some_write test ws id ≡ test w
own test [] w id r e = cc
own test (v ∷ ws) w id r e =
    elim (v.id == id) as (λ b. (v.id == id) ≡ b → cond b (Some v) (find (λ v. v.id == id) ws) ≡ Some w → ((b && test v) || some_write test ws id) ≡ test w) [
      | true ↦ λ t f.
          let same : v ≡ w = cc in
          ap (λ b. test v || b) (no_later test id ws (subst (λ n. After n ws) (eqb-true v.id id t) r.0))
          ∙ or_false (test v) ∙ ap test same
      | false ↦ λ t f. own test ws w id r.1 f
    ] refl e

kept : (test : Write → Bool) (ws : List Write) (id j : ℕ) → (id == j) ≡ false → some_write test (without id ws) j ≡ some_write test ws j
kept test [] id j other = refl
kept test (w ∷ ws) id j other =
    elim (w.id == id) as (λ b. (w.id == id) ≡ b → some_write test (cond (not b) (w ∷ without id ws) (without id ws)) j ≡ (((w.id == j) && test w) || some_write test ws j)) [
      | true ↦ λ t. kept test ws id j other ∙ ap (λ b. (b && test w) || some_write test ws j) (sym (ap (λ n. n == j) (eqb-true w.id id t) ∙ other))
      | false ↦ λ t. ap (λ b. ((w.id == j) && test w) || b) (kept test ws id j other)
    ] refl

gone : (test : Write → Bool) (ws : List Write) (id : ℕ) → some_write test (without id ws) id ≡ false
gone test [] id = refl
gone test (w ∷ ws) id =
    elim (w.id == id) as (λ b. (w.id == id) ≡ b → some_write test (cond (not b) (w ∷ without id ws) (without id ws)) id ≡ false) [
      | true ↦ λ t. gone test ws id
      | false ↦ λ t. ap (λ b. (b && test w) || some_write test (without id ws) id) t ∙ gone test ws id
    ] refl

never : (l t : Bool) → (t ≡ true → l ≡ true) → (not (l && true) && t) ≡ false
never true t h = refl
never false true h = cc (h refl)
never false false h = refl

-- what covers a write's test goes with it
less_one : (cover test : Write → Bool) (ws : List Write) (w : Write) (j : ℕ) → (test w ≡ true → cover w ≡ true) → Rising ws → find (λ v. v.id == w.id) ws ≡ Some w
    → (not (cover w && (w.id == j)) && some_write test ws j) ≡ some_write test (without w.id ws) j
less_one cover test ws w j within r e =
    elim (w.id == j) as (λ b. (w.id == j) ≡ b → (not (cover w && b) && some_write test ws j) ≡ some_write test (without w.id ws) j) [
      | true ↦ λ t.
          let same : w.id ≡ j = eqb-true w.id j t in
          ap (λ n. not (cover w && true) && some_write test ws n) (sym same)
          ∙ ap (λ b. not (cover w && true) && b) (own test ws w w.id r e)
          ∙ never (cover w) (test w) within ∙ sym (ap (some_write test (without w.id ws)) (sym same) ∙ gone test ws w.id)
      | false ↦ λ t. ap (λ b. not b && some_write test ws j) (and_false (cover w)) ∙ sym (kept test ws w.id j t)
    ] refl

and_first : (b c : Bool) → (b && c) ≡ true → (b && true) ≡ true
and_first true c e = refl
and_first false c e = e

pub merged_less : (ws : List Write) (r s : Spot) (id : ℕ) (es : List Assignment) → ForgetsAll r s es id → TreesOf (without id ws) s → Rising ws
    → find (λ w. w.id == id) ws ≡ Some (record { id = id; entries = es }) → IsMerged ws r → IsMerged (without id ws) s
merged_less ws r s id es h trees rises e m = record { here = at_here; under = at_under; full = at_full; places = at_place; trees = trees }
  where
    at_here : (q : Path) (j : ℕ) → has_here s q j ≡ some_entry (λ a. path_eq a.0 q) (without id ws) j
    at_here q j =
        h.here q j ∙ ap (λ b. not (list_any (λ a. path_eq a.0 q) es && (id == j)) && b) (m.here q j)
        ∙ less_one (sets (λ a. path_eq a.0 q)) (sets (λ a. path_eq a.0 q)) ws (record { id = id; entries = es }) j (λ t. t) rises e

    at_under : (q : Path) (j : ℕ) → has_under s q j ≡ some_entry (λ a. is_at_or_above q a.0) (without id ws) j
    at_under q j =
        h.under q j ∙ ap (λ b. not (list_any (λ a. is_at_or_above q a.0) es && (id == j)) && b) (m.under q j)
        ∙ less_one (sets (λ a. is_at_or_above q a.0)) (sets (λ a. is_at_or_above q a.0)) ws (record { id = id; entries = es }) j (λ t. t) rises e

    at_full : (q : Path) (j : ℕ) → has_full s q j ≡ some_entry (λ a. is_at_or_above q a.0 && is_full a) (without id ws) j
    at_full q j =
        h.full q j ∙ ap (λ b. not (list_any (λ a. is_at_or_above q a.0 && true) es && (id == j)) && b) (m.full q j)
        ∙ less_one (sets (λ a. is_at_or_above q a.0 && true)) (sets (λ a. is_at_or_above q a.0 && is_full a)) ws (record { id = id; entries = es }) j
        (any_of (λ a. is_at_or_above q a.0 && is_full a) (λ a. is_at_or_above q a.0 && true) (λ a f. and_first (is_at_or_above q a.0) (is_full a) f) es) rises e

    -- the write that was taken has no place
    no_place : (q : Path) (i : ℕ) → place_at s q id ≡ Some i → ⊥
    no_place q i f = cc (sym (ap is_some f) ∙ sym (has_place s q id) ∙ at_here q id ∙ gone (sets (λ a. path_eq a.0 q)) ws id)

    at_place : (q : Path) (j i : ℕ) → place_at s q j ≡ Some i → some_write (λ w. is_entry w.entries i q) (without id ws) j ≡ true
    at_place q j i f =
        elim (id == j) as (λ b. (id == j) ≡ b → some_write (λ w. is_entry w.entries i q) (without id ws) j ≡ true) [
          | true ↦ λ t. absurd (no_place q i (ap (place_at s q) (eqb-true id j t) ∙ f))
          | false ↦ λ t.
              kept (λ w. is_entry w.entries i q) ws id j t
              ∙ ⊎_elim (λ g. absurd (no_place q i (ap (place_at s q) g.0 ∙ f))) (λ g. m.places q j i g) (h.places q j i f)
        ] refl

-- ---- overlays by parts of the writes
pub overlay-append : (p : Path) (t : PathTree) (vs ws : List Write) → overlay p t (vs ++ ws) ≡ overlay p (overlay p t vs) ws
overlay-append p t vs ws =
    ap (fold (overlaid p) t) (flat_map-append (λ w. w.entries) vs ws)
    ∙ fold-append (overlaid p) t (assignments vs) (assignments ws)

overlay-first : (p : Path) (t : PathTree) (w : Write) (ws : List Write) → overlay p t (w ∷ ws) ≡ overlay p (fold (overlaid p) t w.entries) ws
overlay-first p t w ws = fold-append (overlaid p) t w.entries (assignments ws)

pub none_pass : (f : Write → Bool) (n : ℕ) (ws : List Write) → ((w : Write) → f w ≡ true → w.id ≤ n) → After n ws → filter f ws ≡ []
none_pass f n [] h a = refl
none_pass f n (w ∷ ws) h a =
    elim (f w) as (λ b. f w ≡ b → cond b (w ∷ filter f ws) (filter f ws) ≡ []) [
      | true ↦ λ e. absurd (let le : w.id ≤ n = h w e in let less : n < w.id = a.0 in omega arith)
      | false ↦ λ e. none_pass f n ws h a.1
    ] refl

-- those that pass one test and then those that pass the other, where the first have lower numbers
pub split : (f g : Write → Bool) → ((v w : Write) → f v ≡ true → g w ≡ true → v.id < w.id)
    → (ws : List Write) → Rising ws → filter (λ w. f w || g w) ws ≡ filter f ws ++ filter g ws
split f g h [] r = refl
split f g h (w ∷ ws) r =
    elim (f w) as (λ b. f w ≡ b → cond (b || g w) (w ∷ filter (λ w. f w || g w) ws) (filter (λ w. f w || g w) ws) ≡ cond b (w ∷ filter f ws) (filter f ws) ++ cond (g w) (w ∷ filter g ws) (filter g ws)) [
      | true ↦ λ e. elim (g w) as (λ b. g w ≡ b → w ∷ filter (λ w. f w || g w) ws ≡ (w ∷ filter f ws) ++ cond b (w ∷ filter g ws) (filter g ws)) [
        | true ↦ λ d. absurd (let less : w.id < w.id = h w w e d in omega arith)
        | false ↦ λ d. ap (λ xs. w ∷ xs) (split f g h ws r.1)
      ] refl
      | false ↦ λ e. elim (g w) as (λ b. g w ≡ b → cond b (w ∷ filter (λ w. f w || g w) ws) (filter (λ w. f w || g w) ws) ≡ filter f ws ++ cond b (w ∷ filter g ws) (filter g ws)) [
        | true ↦ λ d.
            let none : filter f ws ≡ [] = none_pass f w.id ws (λ v s. let less : v.id < w.id = h v w s d in omega arith) r.0 in
            ap (λ xs. w ∷ xs) (split f g h ws r.1 ∙ ap (λ xs. xs ++ filter g ws) none) ∙ sym (ap (λ xs. xs ++ w ∷ filter g ws) none)
        | false ↦ λ d. split f g h ws r.1
      ] refl
    ] refl

-- ---- which writes an overlay needs
pub at_write : (test : Assignment → Bool) (ws : List Write) (k : ℕ) (d : Write) → k < length ws → sets test (get_or ws k d) ≡ true
    → some_entry test ws (get_or ws k d).id ≡ true
at_write test ws k d l e =
    list_any_at (λ w. (w.id == (get_or ws k d).id) && sets test w) ws k d l (λ i. equal_itself (get_or ws k d).id i && e i)

pub any_above : (p : Path) (es : List Assignment) → list_any (λ a. is_at_or_above a.0 p) es ≡ true
    → (x : Path) × (y : Path) × (p ≡ x ++ y) × (list_any (λ a. path_eq a.0 x) es ≡ true)
any_above p [] e = cc
any_above p (a ∷ es) e =
    elim (strip a.0 p) as (λ o. strip a.0 p ≡ o → (is_some o || list_any (λ a. is_at_or_above a.0 p) es) ≡ true
    → (x : Path) × (y : Path) × (p ≡ x ++ y) × ((path_eq a.0 x || list_any (λ a. path_eq a.0 x) es) ≡ true)) [
      | Some r ↦ λ s f. (a.0, r, strip-some a.0 p r s, ap (λ b. b || list_any (λ b. path_eq b.0 a.0) es) (path_eq-same a.0))
      | None ↦ λ s f. let more = any_above p es f in (more.0, more.1, more.2, ap (λ b. path_eq a.0 more.0 || b) more.3 ∙ or_true (path_eq a.0 more.0))
    ] refl e

-- the write whose entry is at or above the path sets the whole of it
some_whole : (p x y : Path) → p ≡ x ++ y → (ws : List Write) (m : ℕ) → some_entry (λ a. path_eq a.0 x) ws m ≡ true
    → sets_whole (filter (λ w. w.id == m) ws) p ≡ true
some_whole p x y is ws m e =
    list_any-flat_map (λ a. is_at_or_above a.0 p) (λ w. w.entries) (filter (λ w. w.id == m) ws)
    ∙ sym (any_filtered (λ w. w.id == m) (λ w. list_any (λ a. is_at_or_above a.0 p) w.entries) ws)
    ∙ any_of (λ w. (w.id == m) && sets (λ a. path_eq a.0 x) w) (λ w. (w.id == m) && list_any (λ a. is_at_or_above a.0 p) w.entries) (λ w f. both (w.id == m) w f) ws e
  where
    reaches : (a : Assignment) → path_eq a.0 x ≡ true → is_at_or_above a.0 p ≡ true
    reaches a f = ap (λ z. is_at_or_above z p) (path_eq-is a.0 x f) ∙ ap (is_at_or_above x) is ∙ ap is_some (strip-append x y)

    both : (b : Bool) (w : Write) → (b && sets (λ a. path_eq a.0 x) w) ≡ true → (b && list_any (λ a. is_at_or_above a.0 p) w.entries) ≡ true
    both true w f = any_of (λ a. path_eq a.0 x) (λ a. is_at_or_above a.0 p) reaches w.entries f
    both false w f = f

-- every number is lower, the same or higher
one_of_three : (a m : ℕ) → (nat_lt a m || ((a == m) || nat_lt m a)) ≡ true
one_of_three a m =
    elim (nat_lt a m) as (λ b. nat_lt a m ≡ b → (b || ((a == m) || nat_lt m a)) ≡ true) [
      | true ↦ λ e. refl
      | false ↦ λ e. elim (nat_lt m a) as (λ b. nat_lt m a ≡ b → ((a == m) || b) ≡ true) [
        | true ↦ λ f. or_true (a == m)
        | false ↦ λ f.
            let low : m ≤ a = ltb-false a m e in
            let high : a ≤ m = ltb-false m a f in
            let same : m ≡ a = omega arith in
            ap (λ n. (a == n) || false) same ∙ or_false (a == a) ∙ equal_itself a
      ] refl
    ] refl

higher : (m : ℕ) (w : Write) → ((w.id == m) || nat_lt m w.id) ≡ true → m ≤ w.id
higher m w e =
    elim (w.id == m) as (λ b. (w.id == m) ≡ b → (b || nat_lt m w.id) ≡ true → m ≤ w.id) [
      | true ↦ λ s f. let same : w.id ≡ m = eqb-true w.id m s in omega arith
      | false ↦ λ s f. let less : m < w.id = ltb-true m w.id f in omega arith
    ] refl e

-- of the later writes one that sets the whole of what stands at the path, and those after it
later_parts : (last : Option ℕ) (m n : ℕ) → is_later last m ≡ true → (nat_lt n m && is_later last n || ((n == m) || nat_lt m n)) ≡ is_later last n
later_parts None m n e = ap (λ b. b || ((n == m) || nat_lt m n)) (and_true (nat_lt n m)) ∙ one_of_three n m
later_parts (Some l) m n e =
    elim (nat_lt l n) as (λ b. nat_lt l n ≡ b → (nat_lt n m && b || ((n == m) || nat_lt m n)) ≡ b) [
      | true ↦ λ f. ap (λ b. b || ((n == m) || nat_lt m n)) (and_true (nat_lt n m)) ∙ one_of_three n m
      | false ↦ λ f.
          let low : n ≤ l = ltb-false l n f in
          let less : l < m = ltb-true l m e in
          ap (λ b. b || ((n == m) || nat_lt m n)) (and_false (nat_lt n m))
          ∙ ap (λ b. b || nat_lt m n) (apart n m (λ same. omega arith))
          ∙ not_so (nat_lt m n) (λ t. let more : m < n = ltb-true m n t in omega arith)
    ] refl

pub whole_after : (ws : List Write) (x y p : Path) (t : PathTree) (last : Option ℕ) (m : ℕ) → Rising ws → p ≡ x ++ y → is_later last m ≡ true
    → some_entry (λ a. path_eq a.0 x) ws m ≡ true
    → overlay p t (after last ws) ≡ overlay p (overlay p t (filter (λ w. w.id == m) ws)) (after (Some m) ws)
whole_after ws x y p t last m r is later here_is =
    let low : List Write = filter (λ w. nat_lt w.id m && is_later last w.id) ws in
    let here : List Write = filter (λ w. w.id == m) ws in
    let high : List Write = after (Some m) ws in
    let parts : after last ws ≡ low ++ (here ++ high) =
    ap (λ f. filter f ws) (λ i w. sym (later_parts last m w.id later) i)
    ∙ split (λ w. nat_lt w.id m && is_later last w.id) (λ w. (w.id == m) || nat_lt m w.id) (λ v w e f.
    let less : v.id < m = ltb-true v.id m (first (nat_lt v.id m) (is_later last v.id) e) in
    let most : m ≤ w.id = higher m w f in
    omega arith) ws r
    ∙ ap (λ xs. low ++ xs) (split (λ w. w.id == m) (λ w. nat_lt m w.id) (λ v w e f.
    let same : v.id ≡ m = eqb-true v.id m e in
    let less : m < w.id = ltb-true m w.id f in
    omega arith) ws r) in
    let whole : sets_whole (here ++ high) p ≡ true =
    ap (list_any (λ a. is_at_or_above a.0 p)) (flat_map-append (λ w. w.entries) here high)
    ∙ list_any-append (λ a. is_at_or_above a.0 p) (assignments here) (assignments high)
    ∙ ap (λ b. b || sets_whole high p) (some_whole p x y is ws m here_is) in
    ap (overlay p t) parts
    ∙ overlay-append p t low (here ++ high)
    ∙ fold-whole p (overlay p t low) t (assignments (here ++ high)) whole
    ∙ overlay-append p t here high
  where
    first : (b c : Bool) → (b && c) ≡ true → b ≡ true
    first true c e = refl
    first false c e = e

-- ---- what the tree says of a path
pub here_at : (q r : Path) (s : Spot) (j : ℕ) → has_here s (q ++ r) j ≡ option_map_or (λ c. has_here c r j) (spot_at s q) false
here_at [] r s j = refl
here_at (k ∷ q) r s j =
    elim (get key_cmp (below_of s) k) as (λ o. option_map_or (λ c. has_here c (q ++ r) j) o false ≡ option_map_or (λ c. has_here c r j) (option_and_then (λ c. spot_at c q) o) false) [
      | None ↦ refl
      | Some c ↦ here_at q r c j
    ]

pub under_at : (q : Path) (s : Spot) (j : ℕ) → has_under s q j ≡ option_map_or (λ c. contains nat_cmp (under_of c).all j) (spot_at s q) false
under_at [] s j = refl
under_at (k ∷ q) s j =
    elim (get key_cmp (below_of s) k) as (λ o. option_map_or (λ c. has_under c q j) o false ≡ option_map_or (λ c. contains nat_cmp (under_of c).all j) (option_and_then (λ c. spot_at c q) o) false) [
      | None ↦ refl
      | Some c ↦ under_at q c j
    ]

-- some write's entry passes
pub some_sets : (test : Assignment → Bool) (ws : List Write) (j : ℕ) → some_entry test ws j ≡ true → list_any test (assignments ws) ≡ true
some_sets test ws j e =
    list_any-flat_map test (λ w. w.entries) ws
    ∙ any_of (λ w. (w.id == j) && sets test w) (sets test) (λ w f. second (w.id == j) (sets test w) f) ws e
  where
    second : (b c : Bool) → (b && c) ≡ true → c ≡ true
    second true c f = f
    second false c f = cc

pub none_sets : (test : Assignment → Bool) (ws : List Write) → ((k : ℕ) (d : Write) → k < length ws → sets test (get_or ws k d) ≡ true → ⊥)
    → list_any test (assignments ws) ≡ false
none_sets test ws h =
    list_any-flat_map test (λ w. w.entries) ws
    ∙ list_any_none (sets test) ws (λ k d l. not_so (sets test (get_or ws k d)) (h k d l))

-- a write is at or above the path where there is a last one
pub is_whole : (ws : List Write) (s : Spot) (p : Path) (o : Option ℕ) → IsMerged ws s → IsLast (IsAbove s p) o → is_some o ≡ sets_whole ws p
is_whole ws s p None m h = sym (none_sets (λ a. is_at_or_above a.0 p) ws (λ k d l e.
    let at = any_above p (get_or ws k d).entries e in
    h (get_or ws k d).id (at.0, at.1, at.2, m.here at.0 (get_or ws k d).id ∙ at_write (λ a. path_eq a.0 at.0) ws k d l at.3)))
is_whole ws s p (Some n) m h =
    sym (any_of (λ a. path_eq a.0 h.0.0) (λ a. is_at_or_above a.0 p)
    (λ a f. ap (λ z. is_at_or_above z p) (path_eq-is a.0 h.0.0 f) ∙ ap (is_at_or_above h.0.0) h.0.2 ∙ ap is_some (strip-append h.0.0 h.0.1))
    (assignments ws) (some_sets (λ a. path_eq a.0 h.0.0) ws n (sym (m.here h.0.0 n) ∙ h.0.3)))

pub at_child : (a p : Path) (k : Key) → is_at_or_above a (p ++ k ∷ []) ≡ (is_at_or_above a p || path_eq a (p ++ k ∷ []))
at_child a p k =
    elim (path_eq a (p ++ k ∷ [])) as (λ b. path_eq a (p ++ k ∷ []) ≡ b → is_at_or_above a (p ++ k ∷ []) ≡ (is_at_or_above a p || b)) [
      | true ↦ λ e. sym (at_itself a (p ++ k ∷ []) (path_eq-is a (p ++ k ∷ []) e)) ∙ sym (or_true (is_at_or_above a p))
      | false ↦ λ e. sym (at_other a p k (λ same. cc (sym e ∙ ap (path_eq a) (sym same) ∙ path_eq-same a))) ∙ sym (or_false (is_at_or_above a p))
    ] refl

pub any_or : {X : Type 0} (f g : X → Bool) (xs : List X) → list_any (λ x. f x || g x) xs ≡ (list_any f xs || list_any g xs)
any_or f g [] = refl
any_or f g (x ∷ xs) = ap (λ b. (f x || g x) || b) (any_or f g xs) ∙ mixed (f x) (g x) (list_any f xs) (list_any g xs)
  where
    mixed : (a b c d : Bool) → ((a || b) || (c || d)) ≡ ((a || c) || (b || d))
    mixed true b c d = refl
    mixed false true true d = refl
    mixed false true false d = refl
    mixed false false c d = refl

-- the child of a path is set as the path is, or by itself
pub is_child_whole : (ws : List Write) (s : Spot) (p : Path) (k : Key) (b : Bool) → IsMerged ws s
    → (IsTrue b → (j : ℕ) × (has_here s (p ++ k ∷ []) j ≡ true)) × (((j : ℕ) × (has_here s (p ++ k ∷ []) j ≡ true)) → IsTrue b)
    → (sets_whole ws p || b) ≡ sets_child_whole ws p k
is_child_whole ws s p k b m h =
    ap (λ x. sets_whole ws p || x) (by b h)
    ∙ sym (ap (λ f. list_any f (assignments ws)) (λ i a. at_child a.0 p k i)
    ∙ any_or (λ a. is_at_or_above a.0 p) (λ a. path_eq a.0 (p ++ k ∷ [])) (assignments ws))
  where
    by : (x : Bool) → (IsTrue x → (j : ℕ) × (has_here s (p ++ k ∷ []) j ≡ true)) × (((j : ℕ) × (has_here s (p ++ k ∷ []) j ≡ true)) → IsTrue x)
        → x ≡ list_any (λ a. path_eq a.0 (p ++ k ∷ [])) (assignments ws)
    by true g = let at = g.0 refl in sym (some_sets (λ a. path_eq a.0 (p ++ k ∷ [])) ws at.0 (sym (m.here (p ++ k ∷ []) at.0) ∙ at.1))
    by false g = sym (none_sets (λ a. path_eq a.0 (p ++ k ∷ [])) ws (λ i d l e.
        cc (g.1 ((get_or ws i d).id, m.here (p ++ k ∷ []) (get_or ws i d).id ∙ at_write (λ a. path_eq a.0 (p ++ k ∷ [])) ws i d l e))))

-- one write, found or not
pub one_write : (p : Path) (t : PathTree) (ws : List Write) (id : ℕ) (d : Write) → Rising ws → find (λ w. w.id == id) ws ≡ Some d
    → overlay p t (filter (λ w. w.id == id) ws) ≡ fold (overlaid p) t d.entries
one_write p t ws id d r e = ap (overlay p t) (found ws r e) ∙ ap (fold (overlaid p) t) (append-nil d.entries)
  where
    found : (vs : List Write) → Rising vs → find (λ w. w.id == id) vs ≡ Some d → filter (λ w. w.id == id) vs ≡ d ∷ []
    found [] h f = cc
    found (v ∷ vs) h f =
        elim (v.id == id) as (λ b. (v.id == id) ≡ b → cond b (Some v) (find (λ w. w.id == id) vs) ≡ Some d → cond b (v ∷ filter (λ w. w.id == id) vs) (filter (λ w. w.id == id) vs) ≡ d ∷ []) [
          | true ↦ λ s g.
              let same : v ≡ d = cc in
              (λ z. same z ∷ none_pass (λ w. w.id == id) v.id vs (λ w q. let eq : w.id ≡ id = eqb-true w.id id q in let is : v.id ≡ id = eqb-true v.id id s in omega arith) h.0 z)
          | false ↦ λ s g. found vs h.1 g
        ] refl f

pub no_write : (p : Path) (t : PathTree) (ws : List Write) (id : ℕ) → find (λ w. w.id == id) ws ≡ None → overlay p t (filter (λ w. w.id == id) ws) ≡ t
no_write p t [] id e = refl
no_write p t (w ∷ ws) id e =
    elim (w.id == id) as (λ b. cond b (Some w) (find (λ w. w.id == id) ws) ≡ None → overlay p t (cond b (w ∷ filter (λ w. w.id == id) ws) (filter (λ w. w.id == id) ws)) ≡ t) [
      | true ↦ λ h. cc
      | false ↦ λ h. no_write p t ws id h
    ] e

-- ---- the pending writes
pub rising_pending : (ws vs : List Write) (merged : Spot) → IsPending ws merged → ws ≡ vs → Rising vs
rising_pending ws vs merged h is = subst Rising is (rising_of ws h.kept.rises)

pub merged_pending : (ws vs : List Write) (merged : Spot) → IsPending ws merged → ws ≡ vs → IsMerged vs merged
merged_pending ws vs merged h is = subst (λ xs. IsMerged xs merged) is h.tree

pub nothing_merged : (s : Spot) → ((q : Path) (j : ℕ) → has_here s q j ≡ false) → ((q : Path) (j : ℕ) → place_at s q j ≡ None) → ((q : Path) (j : ℕ) → has_under s q j ≡ false) → ((q : Path) (j : ℕ) → has_full s q j ≡ false) → ((q : Path) → tree_at s q ≡ None) → IsMerged [] s
nothing_merged s here place under full tree = record { here = here; under = under; full = full; places = λ q j i e. cc (sym (place q j) ∙ e); trees = λ q u e. cc (sym (tree q) ∙ e) }

pub nothing_pending : (ws : List Write) (s : Spot) → ws ≡ [] → ((q : Path) (j : ℕ) → has_here s q j ≡ false) → ((q : Path) (j : ℕ) → place_at s q j ≡ None) → ((q : Path) (j : ℕ) → has_under s q j ≡ false) → ((q : Path) (j : ℕ) → has_full s q j ≡ false) → ((q : Path) → tree_at s q ≡ None) → IsPending ws s
nothing_pending ws s is here place under full tree = subst (λ xs. IsPending xs s) (sym is) (record {
  kept = record { rises = λ i j d l m. absurd (omega arith); shallow = λ k d l. absurd (omega arith) };
  apart = λ k d l. absurd (omega arith);
  tree = nothing_merged s here place under full tree;
})

pub whole_child : (ws : List Write) (p : Path) (k : Key) → sets_whole ws p ≡ true → true ≡ sets_child_whole ws p k
whole_child ws p k e =
    sym (ap (λ f. list_any f (assignments ws)) (λ i a. at_child a.0 p k i)
    ∙ any_or (λ a. is_at_or_above a.0 p) (λ a. path_eq a.0 (p ++ k ∷ [])) (assignments ws)
    ∙ ap (λ b. b || list_any (λ a. path_eq a.0 (p ++ k ∷ [])) (assignments ws)) e)

-- the write of a number touches what its entries touch
pub touches_found : (ws : List Write) (p : Path) (id : ℕ) (d : Write) → find (λ w. w.id == id) ws ≡ Some d
    → list_any (λ a. do_overlap a.0 p) d.entries ≡ true → touches ws p ≡ true
touches_found ws p id d e h = list_any-flat_map (λ a. do_overlap a.0 p) (λ w. w.entries) ws ∙ among ws e
  where
    among : (vs : List Write) → find (λ w. w.id == id) vs ≡ Some d → list_any (λ w. list_any (λ a. do_overlap a.0 p) w.entries) vs ≡ true
    among [] f = cc
    among (v ∷ vs) f =
        elim (v.id == id) as (λ b. cond b (Some v) (find (λ w. w.id == id) vs) ≡ Some d
        → (list_any (λ a. do_overlap a.0 p) v.entries || list_any (λ w. list_any (λ a. do_overlap a.0 p) w.entries) vs) ≡ true) [
          | true ↦ λ g.
              let same : v ≡ d = cc in
              or_left (list_any (λ a. do_overlap a.0 p) v.entries) (list_any (λ w. list_any (λ a. do_overlap a.0 p) w.entries) vs)
              (ap (λ w. list_any (λ a. do_overlap a.0 p) w.entries) same ∙ h)
          | false ↦ λ g.
              or_right (list_any (λ a. do_overlap a.0 p) v.entries) (list_any (λ w. list_any (λ a. do_overlap a.0 p) w.entries) vs) (among vs g)
        ] f

-- ---- one write is taken out
pub kept_without : (ws : List Write) (id : ℕ) → IsKept ws → IsKept (without id ws)
kept_without ws id h = record {
  rises = AllPairs-filter (λ v w. v.id < w.id) (λ w. not (w.id == id)) ws h.rises;
  shallow = All-filter (λ w. not (w.id == id)) (λ w. All IsShallow w.entries) ws h.shallow;
}
