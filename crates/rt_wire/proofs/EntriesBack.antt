-- Entries that are written are read back, in the order of the bytes of their paths' texts.
use Rattle.std.proofs.Common.{◌≡◌, ℕ, ◌<◌, ◌≤◌, max, true, false, List, [], ◌∷◌, ◌++◌, length, map, Some, Ok, Less, Equal, Greater, refl, sym, ap, subst, ◌∙◌, arith, append-nil}
use Rattle.std.specs.Prelude.{◌||◌, is_some, Bool}
use Rattle.std.specs.declared.cmp.Ordering.{Ordering}
use Rattle.std.specs.Ordering.{nat_cmp, match_ordering}
use Rattle.std.specs.Cmp.Lexicographic.{slice_cmp}
use Rattle.std.specs.List.{AllByRecursion, fold, list_any}
use Rattle.std.specs.List.Sorted.{IsPermutation}
use Rattle.std.specs.Option.{option_map, option_and_then}
use Rattle.std.proofs.lemmas.List.Sorted.{IsPermutation-refl, IsPermutation-trans, IsPermutation-cons, IsPermutation-insert, IsPermutation-append_left, length_permutation}
use Rattle.serde_json.specs.Data.{Data, Members, no_members, member, put, depth, members_depth}
use Rattle.serde_json.specs.Written.{members_have_float}
use Rattle.rt_tree.specs.Allowed.{shallow_of}
use Rattle.rt_tree.proofs.Writings.{has_float-data_of, depth-data_of}
use Rattle.rt_tree.specs.Path.{path_text, path_keys}
use Rattle.rt_tree.specs.PathTree.{Path, exact_keys, strip, strip-append}
use Rattle.rt_tree.specs.Assignments.{Assignment, do_overlap, have_overlap}
use Rattle.rt_tree.specs.Writing.{data_of}
use Rattle.rt_wire.specs.EntryFields.{places_of, trees_of, in_front, some_of}
use Rattle.rt_wire.specs.FieldData.{with_entry}
use Rattle.rt_wire.specs.ReadBack.{IsReadable, AreEntries}
use Rattle.rt_wire.specs.inside.Standing.{IsStandingPath, IsStandingTree, IsStanding}
use Rattle.rt_wire.proofs.FieldsBack.{path_back, tree_back}

-- a member for each entry
pub written : List Assignment → Members
written [] = no_members
written (e ∷ es) = member (path_text e.0) (data_of e.1) (written es)

-- how the texts of two entries' paths compare
text_cmp : Assignment → Assignment → Ordering
text_cmp e x = slice_cmp nat_cmp (path_text e.0) (path_text x.0)

-- an entry at its place among others
pub placed : List Assignment → Assignment → List Assignment
placed [] e = e ∷ []
placed (x ∷ xs) e = match_ordering (slice_cmp nat_cmp (path_text e.0) (path_text x.0)) (e ∷ x ∷ xs) ((x.0, e.1) ∷ xs) (x ∷ placed xs e)

put-written : (xs : List Assignment) (e : Assignment) → put (path_text e.0) (data_of e.1) (written xs) ≡ written (placed xs e)
unfolding written placed
put-written [] e = refl
put-written (x ∷ xs) e =
    elim (slice_cmp nat_cmp (path_text e.0) (path_text x.0)) as (λ o. match_ordering o (member (path_text e.0) (data_of e.1) (member (path_text x.0) (data_of x.1) (written xs))) (member (path_text x.0) (data_of e.1) (written xs)) (member (path_text x.0) (data_of x.1) (put (path_text e.0) (data_of e.1) (written xs))) ≡ written (match_ordering o (e ∷ x ∷ xs) ((x.0, e.1) ∷ xs) (x ∷ placed xs e))) [
      | Less ↦ refl
      | Equal ↦ refl
      | Greater ↦ ap (member (path_text x.0) (data_of x.1)) (put-written xs e)
    ]

fold-written : (done es : List Assignment) → fold with_entry (written done) es ≡ written (fold placed done es)
fold-written done [] = refl
fold-written done (e ∷ es) = ap (λ ms. fold with_entry ms es) (put-written done e) ∙ fold-written (placed done e) es

-- the entries in the order of their texts
pub in_text_order : List Assignment → List Assignment
in_text_order es = fold placed [] es

pub entries_written : (es : List Assignment) → fold with_entry no_members es ≡ written (in_text_order es)
unfolding in_text_order written
entries_written es = fold-written [] es

-- ---- what holds of each entry holds of each that was placed
abbrev pub IsBack : Assignment → Type 0
IsBack e = IsStandingPath e.0 × IsStandingTree e.1 × IsReadable e.1

all_placed : (xs : List Assignment) (e : Assignment) → AllByRecursion IsBack xs → IsBack e → AllByRecursion IsBack (placed xs e)
unfolding placed
all_placed [] e hs h = (h, tt)
all_placed (x ∷ xs) e hs h =
    elim (slice_cmp nat_cmp (path_text e.0) (path_text x.0)) as (λ o. AllByRecursion IsBack (match_ordering o (e ∷ x ∷ xs) ((x.0, e.1) ∷ xs) (x ∷ placed xs e))) [
      | Less ↦ (h, hs)
      | Equal ↦ ((hs.0.0, h.1, h.2), hs.1)
      | Greater ↦ (hs.0, all_placed xs e hs.1 h)
    ]

all_folded : (done es : List Assignment) → AllByRecursion IsBack done → AllByRecursion IsBack es → AllByRecursion IsBack (fold placed done es)
all_folded done [] hs h = hs
all_folded done (e ∷ es) hs h = all_folded (placed done e) es (all_placed done e hs h.0) h.1

all_back : (es : List Assignment) → AllByRecursion IsStanding es → AllByRecursion (λ e. IsReadable e.1) es → AllByRecursion IsBack es
all_back [] s r = tt
all_back (e ∷ es) s r = ((s.0.0, s.0.1, r.0), all_back es s.1 r.1)

pub order_back : (es : List Assignment) → AllByRecursion IsStanding es → AllByRecursion (λ e. IsReadable e.1) es → AllByRecursion IsBack (in_text_order es)
unfolding in_text_order
order_back es s r = all_folded [] es tt (all_back es s r)

-- ---- reading them
places_written : (xs : List Assignment) → AllByRecursion IsBack xs → places_of (written xs) ≡ Some (map (λ (e : Assignment). (e.0, data_of e.1)) xs)
unfolding written
places_written [] h = refl
places_written (x ∷ xs) h = λ i. option_and_then (λ path. option_map (λ places. (path, data_of x.1) ∷ places) (places_written xs h.1 i)) (path_back x.0 h.0.0 i)

pub trees_back : (xs : List Assignment) → AllByRecursion IsBack xs → trees_of (map (λ (e : Assignment). (e.0, data_of e.1)) xs) ≡ Ok xs
trees_back [] h = refl
trees_back (x ∷ xs) h = λ i. in_front x.0 (tree_back x.1 h.0.1 h.0.2 i) (trees_back xs h.1 i)

some_places : (xs : List Assignment) → 0 < length xs → some_of {A = Path × Data} (map (λ (e : Assignment). (e.0, data_of e.1)) xs) ≡ Some (map (λ (e : Assignment). (e.0, data_of e.1)) xs)
some_places [] h = absurd (omega arith)
some_places (x ∷ xs) h = refl

pub places_back : (xs : List Assignment) → 0 < length xs → AllByRecursion IsBack xs → option_and_then some_of (places_of (written xs)) ≡ Some (map (λ (e : Assignment). (e.0, data_of e.1)) xs)
places_back xs some h = ap (option_and_then some_of) (places_written xs h) ∙ some_places xs some

-- ---- the order alone has changed
abbrev IsApart : Assignment → Assignment → Type 0
IsApart e x = slice_cmp nat_cmp (path_text e.0) (path_text x.0) ≡ Equal → ⊥

abbrev AreApart : Assignment → List Assignment → Type 0
AreApart e xs = AllByRecursion (IsApart e) xs

moved_placed : (xs : List Assignment) (e : Assignment) → AreApart e xs → IsPermutation (e ∷ xs) (placed xs e)
unfolding placed
moved_placed [] e h = IsPermutation-refl (e ∷ [])
moved_placed (x ∷ xs) e h =
    elim (slice_cmp nat_cmp (path_text e.0) (path_text x.0)) as (λ o. (o ≡ Equal → ⊥) → IsPermutation (e ∷ x ∷ xs) (match_ordering o (e ∷ x ∷ xs) ((x.0, e.1) ∷ xs) (x ∷ placed xs e))) [
      | Less ↦ λ n. IsPermutation-refl (e ∷ x ∷ xs)
      | Equal ↦ λ n. absurd (n refl)
      | Greater ↦ λ n. IsPermutation-trans (e ∷ x ∷ xs) (x ∷ e ∷ xs) (x ∷ placed xs e) (IsPermutation-insert (x ∷ xs) 1 e) (IsPermutation-cons x (e ∷ xs) (placed xs e) (moved_placed xs e h.1))
    ] h.0

-- each of the entries is apart from those before it
IsFresh : List Assignment → List Assignment → Type 0
IsFresh done [] = Unit {0}
IsFresh done (e ∷ es) = AreApart e done × IsFresh (placed done e) es

to_front : {A : Type 0} (xs : List A) (x : A) (ys : List A) → IsPermutation (xs ++ x ∷ ys) ((x ∷ xs) ++ ys)
to_front [] x ys = IsPermutation-refl (x ∷ ys)
to_front (w ∷ xs) x ys =
    IsPermutation-trans (w ∷ (xs ++ x ∷ ys)) (w ∷ x ∷ (xs ++ ys)) (x ∷ w ∷ (xs ++ ys)) (IsPermutation-cons w (xs ++ x ∷ ys) (x ∷ (xs ++ ys)) (to_front xs x ys))
    (IsPermutation-insert (x ∷ (xs ++ ys)) 1 w)

moved_folded : (done es : List Assignment) → IsFresh done es → IsPermutation (done ++ es) (fold placed done es)
unfolding IsFresh
moved_folded done [] h = subst (λ xs. IsPermutation xs done) (sym (append-nil done)) (IsPermutation-refl done)
moved_folded done (e ∷ es) h =
    IsPermutation-trans (done ++ e ∷ es) (placed done e ++ es) (fold placed (placed done e) es)
    (IsPermutation-trans (done ++ e ∷ es) ((e ∷ done) ++ es) (placed done e ++ es) (to_front done e es) (IsPermutation-append_left es (e ∷ done) (placed done e) (moved_placed done e h.0)))
    (moved_folded (placed done e) es h.1)

apart_placed : (xs : List Assignment) (e f : Assignment) → AreApart f xs → IsApart f e → AreApart f (placed xs e)
unfolding placed
apart_placed [] e f hs h = (h, tt)
apart_placed (x ∷ xs) e f hs h =
    elim (slice_cmp nat_cmp (path_text e.0) (path_text x.0)) as (λ o. AreApart f (match_ordering o (e ∷ x ∷ xs) ((x.0, e.1) ∷ xs) (x ∷ placed xs e))) [
      | Less ↦ (h, hs)
      | Equal ↦ (hs.0, hs.1)
      | Greater ↦ (hs.0, apart_placed xs e f hs.1 h)
    ]

pub or_first : (a b : Bool) → (a || b) ≡ false → a ≡ false
or_first true b e = e
or_first false b e = refl

pub or_second : (a b : Bool) → (a || b) ≡ false → b ≡ false
or_second true b e = cc
or_second false b e = e

-- a path overlaps itself
overlaps_itself : (p : Path) → do_overlap p p ≡ true
overlaps_itself p = ap (λ o. is_some o || is_some o) (ap (strip p) (sym (append-nil p)) ∙ strip-append p [])

-- where no overlap is seen, the texts differ
texts_differ : (e f : Assignment) → IsStandingPath e.0 → IsStandingPath f.0 → do_overlap e.0 f.0 ≡ false → IsApart f e
texts_differ e f he hf none same =
    let texts : path_text f.0 ≡ path_text e.0 = exact_keys (path_text f.0) (path_text e.0) same in
    let paths : f.0 ≡ e.0 = sym hf.back ∙ ap path_keys texts ∙ he.back in
    let both : true ≡ false = sym (overlaps_itself e.0) ∙ ap (do_overlap e.0) (sym paths) ∙ none in cc

rest_apart : (done : List Assignment) (e : Assignment) (es : List Assignment) → IsStandingPath e.0 → AllByRecursion IsStanding es → list_any (λ b. do_overlap e.0 b.0) es ≡ false
    → AllByRecursion (λ f. AreApart f done) es → AllByRecursion (λ f. AreApart f (placed done e)) es
rest_apart done e [] he hs none h = tt
rest_apart done e (f ∷ es) he hs none h = (
  apart_placed done e f h.0 (texts_differ e f he hs.0.0 (or_first (do_overlap e.0 f.0) (list_any (λ b. do_overlap e.0 b.0) es) none)),
  rest_apart done e es he hs.1 (or_second (do_overlap e.0 f.0) (list_any (λ b. do_overlap e.0 b.0) es) none) h.1,
)

fresh : (done es : List Assignment) → AllByRecursion IsStanding es → have_overlap es ≡ false → AllByRecursion (λ f. AreApart f done) es → IsFresh done es
unfolding IsFresh
fresh done [] hs none h = tt
fresh done (e ∷ es) hs none h = (
  h.0,
  fresh (placed done e) es hs.1 (or_second (list_any (λ b. do_overlap e.0 b.0) es) (have_overlap es) none)
      (rest_apart done e es hs.0.0 hs.1 (or_first (list_any (λ b. do_overlap e.0 b.0) es) (have_overlap es) none) h.1),
)

apart_from_none : (es : List Assignment) → AllByRecursion (λ f. AreApart f []) es
apart_from_none [] = tt
apart_from_none (e ∷ es) = (tt, apart_from_none es)

pub order_moved : (es : List Assignment) → AllByRecursion IsStanding es → have_overlap es ≡ false → IsPermutation es (in_text_order es)
unfolding in_text_order
order_moved es hs none = moved_folded [] es (fresh [] es hs none (apart_from_none es))

-- ---- what is written of them
written_float : (xs : List Assignment) → members_have_float (written xs) ≡ false
unfolding written
written_float [] = refl
written_float (x ∷ xs) = λ i. has_float-data_of x.1 i || written_float xs i

pub entries_float : (es : List Assignment) → members_have_float (fold with_entry no_members es) ≡ false
entries_float es = ap members_have_float (entries_written es) ∙ written_float (in_text_order es)

put_depth : (k : List ℕ) (d : Data) (ms : Members) → members_depth (put k d ms) ≤ max (depth d) (members_depth ms)
put_depth k d no_members = omega arith
put_depth k d (member l e ms) =
    elim (slice_cmp nat_cmp k l) as (λ o. members_depth (match_ordering o (member k d (member l e ms)) (member l d ms) (member l e (put k d ms))) ≤ max (depth d) (max (depth e) (members_depth ms))) [
      | Less ↦ omega arith
      | Equal ↦ omega arith
      | Greater ↦ omega (arith, put_depth k d ms)
    ]

folded_depth : (ms : Members) (es : List Assignment) → members_depth ms ≤ 33 → AllByRecursion IsStanding es → members_depth (fold with_entry ms es) ≤ 33
folded_depth ms [] h s = h
folded_depth ms (e ∷ es) h s =
    folded_depth (with_entry ms e) es
    (omega (arith, put_depth (path_text e.0) (data_of e.1) ms, depth-data_of e.1, shallow_of e.1 s.0.1.allowed)) s.1

pub entries_depth : (es : List Assignment) → AllByRecursion IsStanding es → members_depth (fold with_entry no_members es) ≤ 33
entries_depth es s = folded_depth no_members es (omega arith) s

-- ---- all of it
pub entries_places : (es : List Assignment) → AllByRecursion IsStanding es → AreEntries es
    → option_and_then some_of (places_of (fold with_entry no_members es)) ≡ Some (map (λ (e : Assignment). (e.0, data_of e.1)) (in_text_order es))
entries_places es s h =
    ap (λ ms. option_and_then some_of (places_of ms)) (entries_written es)
    ∙ places_back (in_text_order es) (omega (arith, h.0, length_permutation es (in_text_order es) (order_moved es s h.1))) (order_back es s h.2)
