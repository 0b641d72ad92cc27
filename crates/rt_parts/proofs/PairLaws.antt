-- Pairs of listeners and entries: which are found, and what a listener's own entries tell.
use Rattle.std.proofs.Common.{◌≡◌, ℕ, zero, suc, ◌+◌, ◌<◌, ◌≤◌, nat_lt, Bool, true, false, cond, ◌||◌, ◌&&◌, List, [], ◌∷◌, ◌++◌, length, take, drop, get_or, map, refl, sym, ap, subst, ◌∙◌, arith, Option, Some, None, is_some, eqb-true}
use mathlib.Core.Bool.{true≢false}
use Rattle.std.specs.Prelude.{◌==◌}
use Rattle.std.specs.Cmp.{nat_eq_equiv}
use Rattle.std.specs.List.{All, cons_option, filter_map, list_any, slice_get}
use Rattle.std.specs.List.Sorted.{IsPartitionPoint, IsStrictlySortedBy}
use Rattle.std.specs.Option.{option_and_then, option_map_or}
use Rattle.std.specs.Ordering.{is_eq, is_le, is_lt, nat_cmp}
use Rattle.std.specs.declared.cmp.Ordering.TheVariants.{Less, Equal, Greater}
use Rattle.std.proofs.lemmas.Bool.{le-ltb, ltb-false, ltb-true}
use Rattle.std.proofs.lemmas.Cmp.{nat_cmp_total}
use Rattle.std.proofs.lemmas.List.{get_or-take, length-take-le}
use Rattle.std.proofs.lemmas.List.Elements.{All-from_recursion}
use Rattle.std.proofs.lemmas.List.Folds.{Any-from_list_any, list_any-append, list_any_at}
use Rattle.std.proofs.lemmas.Option.{slice_get-get_or}
use Rattle.rt_tree.specs.PathTree.{Key, Path, first_key}
use Rattle.rt_tree.specs.Assignments.{Assignment, do_overlap, is_at_or_above}
use Rattle.rt_tree.specs.Leaves.{strip}
use Rattle.rt_world.specs.Met.{do_meet}
use Rattle.rt_world.specs.Touched.{named_by}
use Rattle.rt_parts.specs.declared.listeners.HeldListener.{HeldListener}
use Rattle.rt_parts.specs.declared.places.ListenerPlace.{ListenerPlace}
use Rattle.rt_query.specs.Queries.{Query}
use Rattle.rt_parts.specs.inside.HeldView.{HaveSupplied}
use Rattle.rt_parts.specs.inside.Pairs.{AreHanded, AreUp, HasOwn, HasPairs, HaveAll, HavePairs, KeepsPairs, met_cmp, named_at}
use Rattle.rt_parts.specs.inside.Placed.{IsIndex, placed}
use Rattle.rt_parts.proofs.PlaceLaws.{at_not_before, found_in, not_behind_same}
use Rattle.rt_parts.proofs.SameLaws.{same_known}

-- ---- tests of lists

pub same_tests : (a b : Bool) → (a ≡ true → b ≡ true) → (b ≡ true → a ≡ true) → a ≡ b
same_tests true b f g = sym (f refl)
same_tests false true f g = g refl
same_tests false false f g = refl

pub or_yes : (a b : Bool) → b ≡ true → (a || b) ≡ true
or_yes true b e = refl
or_yes false b e = e

and_first : (a b : Bool) → (a && b) ≡ true → a ≡ true
and_first true b e = refl
and_first false b e = e

and_second : (a b : Bool) → (a && b) ≡ true → b ≡ true
and_second true b e = e
and_second false b e = absurd (true≢false (sym e))

-- what passes one test passes another
any_more : {X : Type 0} (p q : X → Bool) → ((x : X) → p x ≡ true → q x ≡ true) → (xs : List X) → list_any p xs ≡ true → list_any q xs ≡ true
any_more p q f xs e = let a = Any-from_list_any p xs e in list_any_at q xs a.0 a.1 a.2 (ap q a.3 ∙ f a.1 a.4)

any_alike : {X : Type 0} (p q : X → Bool) → ((x : X) → p x ≡ q x) → (xs : List X) → list_any p xs ≡ list_any q xs
any_alike p q f [] = refl
any_alike p q f (x ∷ xs) = λ i. f x i || any_alike p q f xs i

any_cons : {Y : Type 0} (p : Y → Bool) (o : Option Y) (ys : List Y) → list_any p (cons_option o ys) ≡ (option_map_or p o false || list_any p ys)
any_cons p None ys = refl
any_cons p (Some y) ys = refl

any_gathered : {X Y : Type 0} (p : Y → Bool) (f : X → Option Y) (xs : List X) → list_any p (filter_map f xs) ≡ list_any (λ x. option_map_or p (f x) false) xs
any_gathered p f [] = refl
any_gathered p f (x ∷ xs) = any_cons p (f x) (filter_map f xs) ∙ ap (λ b. option_map_or p (f x) false || b) (any_gathered p f xs)

at_get : {X : Type 0} (test : X → Bool) (xs : List X) (i : ℕ) → option_map_or test (slice_get xs i) false ≡ true → list_any test xs ≡ true
at_get test [] i e = absurd (true≢false (sym e))
at_get test (x ∷ xs) zero e = ap (λ b. b || list_any test xs) e
at_get test (x ∷ xs) (suc i) e = or_yes (test x) (list_any test xs) (at_get test xs i e)

-- ---- what is found

same_cmp : (n : ℕ) → is_eq (nat_cmp n n) ≡ true
same_cmp n =
    ap (λ b. is_eq (cond b Less (cond (n == n) Equal Greater))) (le-ltb n n (omega arith))
    ∙ ap (λ b. is_eq (cond b Equal Greater)) (nat_eq_equiv.refl n)

-- the pairs of a number are those from the first on whose number is not greater
pub own_found : (ls rest : List (ℕ × ℕ)) (first count n : ℕ) (p : ℕ × ℕ → Bool) → rest ≡ drop first ls → first ≤ length ls → count ≤ length rest
    → IsPartitionPoint (λ o. is_lt (met_cmp o (n, 0)) ≡ true) (λ o. is_lt (met_cmp o (n, 0)) ≡ false) ls first
    → IsPartitionPoint (λ (o : ℕ × ℕ). is_le (nat_cmp o.0 n) ≡ true) (λ (o : ℕ × ℕ). is_le (nat_cmp o.0 n) ≡ false) rest count
    → list_any (λ (o : ℕ × ℕ). n == o.0 && p o) ls ≡ true → list_any p (take count rest) ≡ true
own_found ls rest first count n p is within enough a b e =
    let w = Any-from_list_any (λ (o : ℕ × ℕ). n == o.0 && p o) ls e in
    let number : n ≡ (get_or ls w.0 w.1).0 = eqb-true n w.1.0 (and_first (n == w.1.0) (p w.1) w.4) ∙ ap (λ (o : ℕ × ℕ). o.0) (sym w.3) in
    let same : is_eq (nat_cmp (get_or ls w.0 w.1).0 n) ≡ true = ap (λ m. is_eq (nat_cmp m n)) (sym number) ∙ same_cmp n in
    let found = found_in nat_cmp nat_cmp_total (λ (o : ℕ × ℕ). o) (λ (o : ℕ × ℕ). is_le (nat_cmp o.0 n)) (n, 0) ls rest first count is within enough a b w.0 w.1 w.2
    (at_not_before nat_cmp nat_cmp_total (λ (o : ℕ × ℕ). o) n (get_or ls w.0 w.1) same) (not_behind_same nat_cmp nat_cmp_total (λ (o : ℕ × ℕ). o) n (get_or ls w.0 w.1) same) in
    list_any_at p (take count rest) found.0 w.1 found.1 (ap p (found.2 ∙ w.3) ∙ and_second (n == w.1.0) (p w.1) w.4)

-- pairs that are sorted, each once, stand in order
pub up_from : (xs : List (ℕ × ℕ)) → IsStrictlySortedBy met_cmp xs → AreUp xs
unfolding IsStrictlySortedBy
up_from [] h i j d lt within = absurd (omega arith)
up_from (x ∷ xs) h zero zero d lt within = absurd (omega arith)
up_from (x ∷ xs) h zero (suc j) d lt within = All-from_recursion (λ y. met_cmp x y ≡ Less) xs h.0 j d (omega arith)
up_from (x ∷ xs) h (suc i) zero d lt within = absurd (omega arith)
up_from (x ∷ xs) h (suc i) (suc j) d lt within = up_from xs h.1 i j d (omega arith) (omega arith)

-- ---- one entry more

-- a pair of each number with the entry
pub paired : (old : List (ℕ × ℕ)) (numbers : List ℕ) (m entry : ℕ) → list_any (λ n. m == n) numbers ≡ true
    → list_any (λ (o : ℕ × ℕ). m == o.0 && entry == o.1) (old ++ map (λ n. (n, entry)) numbers) ≡ true
paired old numbers m entry e =
    list_any-append (λ (o : ℕ × ℕ). m == o.0 && entry == o.1) old (map (λ n. (n, entry)) numbers)
    ∙ or_yes (list_any (λ (o : ℕ × ℕ). m == o.0 && entry == o.1) old) (list_any (λ (o : ℕ × ℕ). m == o.0 && entry == o.1) (map (λ n. (n, entry)) numbers)) (of_numbers numbers e)
  where
    of_numbers : (ns : List ℕ) → list_any (λ n. m == n) ns ≡ true → list_any (λ (o : ℕ × ℕ). m == o.0 && entry == o.1) (map (λ n. (n, entry)) ns) ≡ true
    of_numbers [] f = f
    of_numbers (n ∷ ns) f = elim (m == n) as (λ b. (b || list_any (λ k. m == k) ns) ≡ true → ((b && (entry == entry)) || list_any (λ (o : ℕ × ℕ). m == o.0 && entry == o.1) (map (λ k. (k, entry)) ns)) ≡ true) [
      | true ↦ λ h. ap (λ b. b || list_any (λ (o : ℕ × ℕ). m == o.0 && entry == o.1) (map (λ k. (k, entry)) ns)) (nat_eq_equiv.refl entry)
      | false ↦ λ h. of_numbers ns h
    ] f

pub keeps_pairs : (old more : List (ℕ × ℕ)) → KeepsPairs old (old ++ more)
keeps_pairs old more p e = list_any-append p old more ∙ ap (λ b. b || list_any p more) e

pub pairs_none : (places : List ListenerPlace) (pairs : List (ℕ × ℕ)) (entries : List Assignment) → HavePairs (take 0 entries) pairs places
pairs_none places pairs entries k d lt i a within e = absurd (omega arith)

pub pairs_more : (places : List ListenerPlace) (old new : List (ℕ × ℕ)) (entries : List Assignment) (i : ℕ) (p : Path) → i < length entries → ((a : Assignment) → (get_or entries i a).0 ≡ p) → KeepsPairs old new
    → All (λ x. do_overlap p x.path ≡ true → list_any (λ (o : ℕ × ℕ). x.number == o.0 && i == o.1) new ≡ true) places
    → HavePairs (take i entries) old places → HavePairs (take (i + 1) entries) new places
pairs_more places old new entries i p lt at kept one all k d in_places j a within e =
    let x : ListenerPlace = get_or places k d in
    let front : length (take (i + 1) entries) ≡ i + 1 = length-take-le (i + 1) entries (omega arith) in
    let long : length (take i entries) ≡ i = length-take-le i entries (omega arith) in
    let read : get_or (take (i + 1) entries) j a ≡ get_or entries j a = get_or-take (i + 1) entries j a (omega (arith, front, within)) in
    let meets : do_overlap (get_or entries j a).0 x.path ≡ true = ap (λ (z : Assignment). do_overlap z.0 x.path) (sym read) ∙ e in
    elim (nat_lt j i) as (λ b. nat_lt j i ≡ b → list_any (λ (o : ℕ × ℕ). x.number == o.0 && j == o.1) new ≡ true) [
      | true ↦ λ f.
          let l : j < i = ltb-true j i f in
          kept (λ (o : ℕ × ℕ). x.number == o.0 && j == o.1) (all k d in_places j a (omega (arith, l, long)) (ap (λ (z : Assignment). do_overlap z.0 x.path) (get_or-take i entries j a l) ∙ meets))
      | false ↦ λ f.
          let ge : i ≤ j = ltb-false j i f in
          let same : i ≡ j = omega (arith, ge, front, within) in
          subst (λ n. list_any (λ (o : ℕ × ℕ). x.number == o.0 && n == o.1) new ≡ true) same
          (one k d in_places (ap (λ q. do_overlap q x.path) (sym (at a)) ∙ ap (λ n. do_overlap (get_or entries n a).0 x.path) same ∙ meets))
    ] refl

-- ---- each number with each of so many entries

pub all_none : (numbers : List ℕ) (pairs : List (ℕ × ℕ)) → HaveAll 0 numbers pairs
all_none numbers pairs n i within e = absurd (omega (arith, within))

pub all_more : (numbers : List ℕ) (old new : List (ℕ × ℕ)) (at : ℕ) → new ≡ old ++ map (λ (n : ℕ). (n, at)) numbers → HaveAll at numbers old → HaveAll (at + 1) numbers new
all_more numbers old new at is all n i within e =
    ap (list_any (λ (o : ℕ × ℕ). n == o.0 && i == o.1)) is
    ∙ elim (nat_lt i at) as (λ b. nat_lt i at ≡ b → list_any (λ (o : ℕ × ℕ). n == o.0 && i == o.1) (old ++ map (λ (m : ℕ). (m, at)) numbers) ≡ true) [
      | true ↦ λ f. keeps_pairs old (map (λ (m : ℕ). (m, at)) numbers) (λ (o : ℕ × ℕ). n == o.0 && i == o.1) (all n i (ltb-true i at f) e)
      | false ↦ λ f.
          let ge : at ≤ i = ltb-false i at f in
          let same : at ≡ i = omega (arith, ge, within) in
          subst (λ j. list_any (λ (o : ℕ × ℕ). n == o.0 && j == o.1) (old ++ map (λ (m : ℕ). (m, at)) numbers) ≡ true) same (paired old numbers n at e)
    ] refl

-- and no other number
abbrev pub HaveOnly : List ℕ → List (ℕ × ℕ) → Type 0
HaveOnly numbers pairs = (n : ℕ) → list_any (λ (o : ℕ × ℕ). n == o.0) pairs ≡ true → list_any (λ m. n == m) numbers ≡ true

pub only_none : (numbers : List ℕ) (pairs : List (ℕ × ℕ)) → pairs ≡ [] → HaveOnly numbers pairs
only_none numbers pairs none n e = absurd (true≢false (sym (sym (ap (list_any (λ (o : ℕ × ℕ). n == o.0)) none) ∙ e)))

pub only_more : (numbers : List ℕ) (old new : List (ℕ × ℕ)) (at : ℕ) → new ≡ old ++ map (λ (n : ℕ). (n, at)) numbers → HaveOnly numbers old → HaveOnly numbers new
only_more numbers old new at is only n e =
    either (list_any (λ (o : ℕ × ℕ). n == o.0) old) (only n)
    (sym (ap (list_any (λ (o : ℕ × ℕ). n == o.0)) is ∙ list_any-append (λ (o : ℕ × ℕ). n == o.0) old (map (λ (m : ℕ). (m, at)) numbers) ∙ ap (λ b. list_any (λ (o : ℕ × ℕ). n == o.0) old || b) (of_numbers numbers)) ∙ e)
  where
    of_numbers : (ns : List ℕ) → list_any (λ (o : ℕ × ℕ). n == o.0) (map (λ (m : ℕ). (m, at)) ns) ≡ list_any (λ m. n == m) ns
    of_numbers [] = refl
    of_numbers (m ∷ ns) = ap (λ b. (n == m) || b) (of_numbers ns)

    either : (a : Bool) → (a ≡ true → list_any (λ m. n == m) numbers ≡ true) → (a || list_any (λ m. n == m) numbers) ≡ true → list_any (λ m. n == m) numbers ≡ true
    either true f g = f refl
    either false f g = g

-- ---- from places to listeners

pub have_pairs : (entries : List Assignment) (pairs : List (ℕ × ℕ)) (held : List HeldListener) (places : List ListenerPlace) → IsIndex held places → HavePairs entries pairs places
    → All (λ (l : HeldListener). HasPairs entries pairs l.number l.query.path) held
have_pairs entries pairs held places is all k d lt i a within =
    same_known placed (λ (x : ListenerPlace). do_overlap (get_or entries i a).0 x.path) (λ (x : ListenerPlace). list_any (λ (o : ℕ × ℕ). x.number == o.0 && i == o.1) pairs) places held is.same
    (λ j e l. all j e l i a within) k d lt

-- one that an entry meets has its number among those of the pairs
pub met_number : (entries : List Assignment) (pairs : List (ℕ × ℕ)) (number : ℕ) (path : Path) → HasPairs entries pairs number path → do_meet entries path ≡ true
    → list_any (λ (o : ℕ × ℕ). number == o.0) pairs ≡ true
met_number entries pairs number path has e =
    let w = Any-from_list_any (λ (a : Assignment). do_overlap a.0 path) entries e in
    any_more (λ (o : ℕ × ℕ). number == o.0 && w.0 == o.1) (λ (o : ℕ × ℕ). number == o.0) (λ o f. and_first (number == o.0) (w.0 == o.1) f) pairs
    (has w.0 w.1 w.2 (ap (λ (a : Assignment). do_overlap a.0 path) w.3 ∙ w.4))

-- where all entries reach each listener, those that meet it are handed to it
pub handed_met : (entries : List Assignment) (pairs : List (ℕ × ℕ)) (held : List HeldListener) (places : List ListenerPlace) → IsIndex held places → AreUp pairs → HavePairs entries pairs places
    → AreHanded None entries pairs held
handed_met entries pairs held places is up all = record {
  up = up;
  all = λ k d lt h. have_pairs entries pairs held places is all k d lt;
  only = λ k d lt e. refl;
}

-- where they are pushed on a range's listen alone, those that it supplies are handed all
pub handed_supplied : (range : Query) (entries : List Assignment) (count : ℕ) (numbers : List ℕ) (pairs : List (ℕ × ℕ)) (held : List HeldListener) → count ≡ length entries
    → HaveSupplied range numbers held → AreUp pairs → HaveAll count numbers pairs → HaveOnly numbers pairs → AreHanded (Some range) entries pairs held
handed_supplied range entries count numbers pairs held long supplied up all only = record {
  up = up;
  all = λ k d lt h i a within e. all (get_or held k d).number i (omega (arith, within, long)) (supplied k d lt ∙ h);
  only = λ k d lt e. sym (supplied k d lt) ∙ only (get_or held k d).number e;
}

-- ---- a listener's own entries

pub has_own : (entries : List Assignment) (pairs own : List (ℕ × ℕ)) (m number : ℕ) (path : Path) → (m == number) ≡ true
    → ((p : ℕ × ℕ → Bool) → list_any (λ (o : ℕ × ℕ). number == o.0 && p o) pairs ≡ true → list_any p own ≡ true)
    → HasPairs entries pairs m path → HasOwn entries own path
has_own entries pairs own m number path same given has i a within e =
    given (λ (o : ℕ × ℕ). i == o.1) (subst (λ n. list_any (λ (o : ℕ × ℕ). n == o.0 && i == o.1) pairs ≡ true) (eqb-true m number same) (has i a within e))

module _ (entries : List Assignment) (own : List (ℕ × ℕ)) (path : Path) (h : HasOwn entries own path) where
  -- a test that no entry elsewhere passes says the same of the own ones as of all
  over_own : (test : Assignment → Bool) → ((a : Assignment) → test a ≡ true → do_overlap a.0 path ≡ true)
      → list_any (λ (o : ℕ × ℕ). option_map_or test (slice_get entries o.1) false) own ≡ list_any test entries
  over_own test meets = same_tests (list_any (λ (o : ℕ × ℕ). option_map_or test (slice_get entries o.1) false) own) (list_any test entries)
      (λ e. let w = Any-from_list_any (λ (o : ℕ × ℕ). option_map_or test (slice_get entries o.1) false) own e in at_get test entries w.1.1 w.4)
      (λ e.
      let w = Any-from_list_any test entries e in
      let here : test (get_or entries w.0 w.1) ≡ true = ap test w.3 ∙ w.4 in
      any_more (λ (o : ℕ × ℕ). w.0 == o.1) (λ (o : ℕ × ℕ). option_map_or test (slice_get entries o.1) false)
      (λ o f. ap (λ i. option_map_or test (slice_get entries i) false) (sym (eqb-true w.0 o.1 f)) ∙ ap (λ z. option_map_or test z false) (slice_get-get_or entries w.0 w.1 w.2) ∙ here)
      own (h w.0 w.1 w.2 (meets (get_or entries w.0 w.1) here)))

  pub own_meet : list_any (λ (o : ℕ × ℕ). option_map_or (λ (a : Assignment). do_overlap a.0 path) (slice_get entries o.1) false) own ≡ do_meet entries path
  own_meet = over_own (λ (a : Assignment). do_overlap a.0 path) (λ a e. e)

  pub own_cover : list_any (λ (o : ℕ × ℕ). option_map_or (λ (a : Assignment). is_at_or_above a.0 path) (slice_get entries o.1) false) own ≡ list_any (λ (a : Assignment). is_at_or_above a.0 path) entries
  own_cover = over_own (λ (a : Assignment). is_at_or_above a.0 path) (λ a e. ap (λ b. b || is_at_or_above path a.0) e)

  -- so do the keys that they name
  pub own_named : (p : Key → Bool) → list_any p (filter_map (named_at path entries) own) ≡ list_any p (filter_map (named_by path) entries)
  own_named p =
      any_gathered p (named_at path entries) own
      ∙ any_alike (λ (o : ℕ × ℕ). option_map_or p (named_at path entries o) false) (λ (o : ℕ × ℕ). option_map_or (λ (a : Assignment). option_map_or p (named_by path a) false) (slice_get entries o.1) false) (λ o. inside (slice_get entries o.1)) own
      ∙ over_own (λ (a : Assignment). option_map_or p (named_by path a) false) below
      ∙ sym (any_gathered p (named_by path) entries)
    where
      inside : (o : Option Assignment) → option_map_or p (option_and_then (named_by path) o) false ≡ option_map_or (λ (a : Assignment). option_map_or p (named_by path a) false) o false
      inside None = refl
      inside (Some a) = refl

      under : (o : Option Path) → option_map_or p (option_and_then first_key o) false ≡ true → is_some o ≡ true
      under None f = f
      under (Some q) f = refl

      below : (a : Assignment) → option_map_or p (named_by path a) false ≡ true → do_overlap a.0 path ≡ true
      below a e = or_yes (is_at_or_above a.0 path) (is_at_or_above path a.0) (under (strip path a.0) e)
