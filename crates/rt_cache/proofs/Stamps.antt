-- The filtered ones of registered forms: by their paths, those of a path in the order of their stamps.
use Rattle.std.proofs.Common.{◌≡◌, ◌∙◌, ℕ, zero, suc, ◌+◌, ◌<◌, ◌==◌, nat_lt, Bool, true, false, cond, ◌&&◌, List, [], ◌∷◌, ◌++◌, length, get_or, take, drop, map, append-nil, refl, sym, ap, subst, arith, eqb-true, eq-eqb, ltb-true, ltb-false}
use Rattle.std.proofs.Common.{Option, Some}
use mathlib.Core.Bool.{true≢false}
use Rattle.std.specs.List.{filter, find, list_any, insert, remove, All, AllPairs, Contains}
use Rattle.std.proofs.lemmas.List.{get_or_default, take-append-drop, map-append}
use Rattle.std.proofs.lemmas.List.Elements.{filter-append}
use Rattle.std.proofs.lemmas.List.Folds.{Any-from_list_any}
use Rattle.std.proofs.lemmas.List.Kept.{AllPairs-filter}
use Rattle.std.proofs.lemmas.List.Quantifiers.{all_pairs_push, all_pairs_remove}
use Rattle.rt_tree.specs.PathTree.{Path, path_eq, path_eq-is, path_eq-same}
use Rattle.rt_tree.specs.TreeEq.{both_first, both_second, both}
use Rattle.rt_query.specs.Queries.{Query, is_filtered}
use Rattle.rt_query.specs.QueryEq.{query_eq}
use Rattle.rt_query.specs.laws.NeededLaws.{Contains-filter, Contains-from_filter, passes-from_filter}
use Rattle.rt_query.specs.laws.QueryEq.{query_eq_tells}
use Rattle.rt_query.specs.laws.SupplyLaws.{same_tests}
use Rattle.rt_cache.specs.Recover.{is_among}
use Rattle.rt_cache.specs.declared.forms.Form.{Form}
use Rattle.rt_cache.specs.inside.ByPath.{AreByPath}
use Rattle.rt_cache.specs.inside.Listed.{form_query, queries_of, stands_at, is_filtered_at, is_same_form, AreFilteredOf}
use Rattle.rt_cache.proofs.Among.{any_agreeing, any_with}
use Rattle.rt_cache.proofs.ByPaths.{any_map}
use Rattle.rt_cache.proofs.Forgetting.{by_path-remove}
use Rattle.rt_cache.proofs.InSpans.{filter_none}

-- ---- what passes a test, where one is put in or taken out

-- where none behind passes that one passes too, it stands behind all that pass
pub filter-insert : {X : Type 0} (t : X → Bool) (xs : List X) (n : ℕ) (y : X) → (t y ≡ true → All (λ x. t x ≡ false) (drop n xs))
    → filter t (insert xs n y) ≡ filter t (xs ++ y ∷ [])
filter-insert {X} t xs n y none =
    filter-append t (take n xs) (y ∷ drop n xs) ∙ at (t y) refl ∙ sym (filter-append t xs (y ∷ []))
  where
    parts : filter t xs ≡ filter t (take n xs) ++ filter t (drop n xs)
    parts = ap (filter t) (sym (take-append-drop n xs)) ∙ filter-append t (take n xs) (drop n xs)

    at : (b : Bool) → t y ≡ b → filter t (take n xs) ++ filter t (y ∷ drop n xs) ≡ filter t xs ++ filter t (y ∷ [])
    at true e =
        let rest : filter t (drop n xs) ≡ [] = filter_none t (drop n xs) (none e) in
        let front : filter t xs ≡ filter t (take n xs) = parts ∙ ap (λ (ys : List X). filter t (take n xs) ++ ys) rest ∙ append-nil (filter t (take n xs)) in
        ap (λ b. filter t (take n xs) ++ cond b (y ∷ filter t (drop n xs)) (filter t (drop n xs))) e
        ∙ ap (λ (ys : List X). filter t (take n xs) ++ y ∷ ys) rest
        ∙ ap (λ (ys : List X). ys ++ y ∷ []) (sym front)
        ∙ ap (λ b. filter t xs ++ cond b (y ∷ []) []) (sym e)
    at false e =
        ap (λ b. filter t (take n xs) ++ cond b (y ∷ filter t (drop n xs)) (filter t (drop n xs))) e
        ∙ sym parts ∙ sym (append-nil (filter t xs))
        ∙ ap (λ b. filter t xs ++ cond b (y ∷ []) []) (sym e)

-- one taken out that doesn't pass
pub filter-remove_none : {X : Type 0} (t : X → Bool) (xs : List X) (n : ℕ) (d : X) → n < length xs → t (get_or xs n d) ≡ false
    → filter t (remove xs n) ≡ filter t xs
filter-remove_none t [] n d lt e = absurd (omega (arith, lt))
filter-remove_none t (x ∷ xs) zero d lt e = sym (ap (λ b. cond b (x ∷ filter t xs) (filter t xs)) e)
filter-remove_none {X} t (x ∷ xs) (suc n) d lt e = ap (λ (ys : List X). cond (t x) (x ∷ ys) ys) (filter-remove_none t xs n d (omega (arith, lt)) e)

-- one that does is taken out of those that pass
filter-remove_one : {X : Type 0} (t : X → Bool) (xs : List X) (n : ℕ) (d : X) → n < length xs → t (get_or xs n d) ≡ true
    → (k : ℕ) × (k < length (filter t xs)) × (get_or (filter t xs) k d ≡ get_or xs n d) × (filter t (remove xs n) ≡ remove (filter t xs) k)
filter-remove_one t [] n d lt e = absurd (omega (arith, lt))
filter-remove_one {X} t (x ∷ xs) zero d lt e =
    subst (λ b. (k : ℕ) × (k < length (cond b (x ∷ filter t xs) (filter t xs))) × (get_or (cond b (x ∷ filter t xs) (filter t xs)) k d ≡ x) × (filter t xs ≡ remove (cond b (x ∷ filter t xs) (filter t xs)) k))
    (sym e) (0, omega arith, refl, refl)
filter-remove_one {X} t (x ∷ xs) (suc n) d lt e =
    let rest = filter-remove_one t xs n d (omega (arith, lt)) e in
    elim (t x) as (λ b. (k : ℕ) × (k < length (cond b (x ∷ filter t xs) (filter t xs))) × (get_or (cond b (x ∷ filter t xs) (filter t xs)) k d ≡ get_or xs n d)
    × (cond b (x ∷ filter t (remove xs n)) (filter t (remove xs n)) ≡ remove (cond b (x ∷ filter t xs) (filter t xs)) k)) [
      | true ↦ (suc rest.0, omega (arith, rest.1), rest.2, ap (λ (ys : List X). x ∷ ys) rest.3)
      | false ↦ rest
    ]

-- ---- what forms give

pub map-remove : {X Y : Type 0} (f : X → Y) (xs : List X) (n : ℕ) → map f (remove xs n) ≡ remove (map f xs) n
map-remove f [] zero = refl
map-remove f [] (suc n) = refl
map-remove f (x ∷ xs) zero = refl
map-remove {X} {Y} f (x ∷ xs) (suc n) = ap (λ (ys : List Y). f x ∷ ys) (map-remove f xs n)

pub queries_more : (fs : List Form) (f : Form) → queries_of (fs ++ f ∷ []) ≡ queries_of fs ++ f.query ∷ []
queries_more fs f = map-append form_query fs (f ∷ [])

-- ---- stamps

abbrev pub Rises : Form → Form → Type 0
Rises f g = f.stamp < g.stamp

-- where stamps rise, one stamp stands at one place
same_place : (fs : List Form) → AllPairs Rises fs → (j k : ℕ) (d : Form) → j < length fs → k < length fs → (get_or fs j d).stamp ≡ (get_or fs k d).stamp → j ≡ k
same_place fs up j k d jl kl e = at (nat_lt j k) refl (nat_lt k j) refl
  where
    at : (a : Bool) → nat_lt j k ≡ a → (b : Bool) → nat_lt k j ≡ b → j ≡ k
    at true x b y = let less : (get_or fs j d).stamp < (get_or fs k d).stamp = up j k d (ltb-true j k x) kl in absurd (omega (arith, less, e))
    at false x true y = let less : (get_or fs k d).stamp < (get_or fs j d).stamp = up k j d (ltb-true k j y) jl in absurd (omega (arith, less, e))
    at false x false y = omega (arith, ltb-false j k x, ltb-false k j y)

-- the last has the highest
pub last_highest : (fs : List Form) → AllPairs Rises fs → (n : ℕ) (last : Form) → n + 1 ≡ length fs → last ≡ get_or fs n last → All (λ (f : Form). f.stamp < last.stamp + 1) fs
last_highest fs up n last len at k d lt = by (nat_lt k n) refl
  where
    there : get_or fs n d ≡ last
    there = get_or_default fs n d last (omega (arith, len)) ∙ sym at

    by : (b : Bool) → nat_lt k n ≡ b → (get_or fs k d).stamp < last.stamp + 1
    by true e =
        let less : (get_or fs k d).stamp < (get_or fs n d).stamp = up k n d (ltb-true k n e) (omega (arith, len)) in
        let same : (get_or fs n d).stamp ≡ last.stamp = ap (λ (f : Form). f.stamp) there in
        omega (arith, less, same)
    by false e =
        let one : k ≡ n = omega (arith, ltb-false k n e, len, lt) in
        let same : (get_or fs k d).stamp ≡ last.stamp = ap (λ j. (get_or fs j d).stamp) one ∙ ap (λ (f : Form). f.stamp) there in
        omega (arith, same)

-- ---- the filtered ones

pub no_forms : AreFilteredOf [] []
no_forms = record {
  rising = λ j k d lt within. absurd (omega (arith, within));
  order = λ k d low high. absurd (omega (arith, high));
  same = λ p. refl;
}

-- a filtered form that is registered stands among them
listed : (fs gs : List Form) → AreFilteredOf fs gs → (f : Form) → Contains fs f → is_filtered f.query ≡ true → Contains gs f
listed fs gs h f m e =
    let p : Path = (f.query).path in
    Contains-from_filter (stands_at p) gs f
    (subst (λ (xs : List Form). Contains xs f) (sym (h.same p))
    (Contains-filter (is_filtered_at p) fs f m (both (is_filtered f.query) (stands_at p f) e (path_eq-same p))))

-- what stands among them is registered and filtered
from_listed : (fs gs : List Form) → AreFilteredOf fs gs → (g : Form) → Contains gs g → Contains fs g × (is_filtered g.query ≡ true)
from_listed fs gs h g m =
    let p : Path = (g.query).path in
    let there : Contains (filter (is_filtered_at p) fs) g =
    subst (λ (xs : List Form). Contains xs g) (h.same p) (Contains-filter (stands_at p) gs g m (path_eq-same p)) in (
      Contains-from_filter (is_filtered_at p) fs g there,
      both_first (is_filtered g.query) (stands_at p g) (passes-from_filter (is_filtered_at p) fs g there),
    )

-- one of them passes where a registered one does
pub any_filtered : (fs gs : List Form) → AreFilteredOf fs gs → (p : Query → Bool) → list_any p (queries_of gs) ≡ list_any (λ f. is_filtered f && p f) (queries_of fs)
any_filtered fs gs h p =
    sym (any_map form_query p gs)
    ∙ same_tests (list_any (λ (f : Form). p f.query) gs) (list_any (λ (f : Form). is_filtered f.query && p f.query) fs) forth back
    ∙ any_map form_query (λ f. is_filtered f && p f) fs
  where
    forth : list_any (λ (f : Form). p f.query) gs ≡ true → list_any (λ (f : Form). is_filtered f.query && p f.query) fs ≡ true
    forth e =
        let a = Any-from_list_any (λ (f : Form). p f.query) gs e in
        let m = from_listed fs gs h a.1 (a.0, a.2, a.3) in
        any_with (λ (f : Form). is_filtered f.query && p f.query) fs a.1 m.0 (both (is_filtered (a.1).query) (p (a.1).query) m.1 a.4)

    back : list_any (λ (f : Form). is_filtered f.query && p f.query) fs ≡ true → list_any (λ (f : Form). p f.query) gs ≡ true
    back e =
        let a = Any-from_list_any (λ (f : Form). is_filtered f.query && p f.query) fs e in
        any_with (λ (f : Form). p f.query) gs a.1
        (listed fs gs h a.1 (a.0, a.2, a.3) (both_first (is_filtered (a.1).query) (p (a.1).query) a.4)) (both_second (is_filtered (a.1).query) (p (a.1).query) a.4)

-- a filtered query is among the filtered ones where it is registered
pub among_filtered : (fs : List Query) (q : Query) → is_filtered q ≡ true → list_any (λ f. is_filtered f && query_eq f q) fs ≡ is_among fs q
among_filtered fs q e = any_agreeing (λ f. is_filtered f && query_eq f q) (λ f. query_eq f q) fs (λ k d lt. alike (get_or fs k d))
  where
    alike : (f : Query) → (is_filtered f && query_eq f q) ≡ query_eq f q
    alike f = elim (query_eq f q) as (λ b. query_eq f q ≡ b → (is_filtered f && b) ≡ b) [
      | true ↦ λ same. ap (λ b. b && true) (ap is_filtered ((query_eq_tells f q).0 same) ∙ e)
      | false ↦ λ same. no (is_filtered f)
    ] refl
      where
        no : (b : Bool) → (b && false) ≡ false
        no true = refl
        no false = refl

-- what passes another test alone is found first among those that pass that
find_kept : (p : Query → Bool) (t : Form → Bool) (xs : List Form) → ((f : Form) → p f.query ≡ true → t f ≡ true)
    → find p (queries_of xs) ≡ find p (queries_of (filter t xs))
find_kept p t [] h = refl
find_kept p t (x ∷ xs) h =
    elim (t x) as (λ b. t x ≡ b → cond (p x.query) (Some x.query) (find p (queries_of xs)) ≡ find p (queries_of (cond b (x ∷ filter t xs) (filter t xs)))) [
      | true ↦ λ e. ap (λ (o : Option Query). cond (p x.query) (Some x.query) o) (find_kept p t xs h)
      | false ↦ λ e. ap (λ b. cond b (Some x.query) (find p (queries_of xs))) (fails (p x.query) refl e) ∙ find_kept p t xs h
    ] refl
  where
    fails : (b : Bool) → p x.query ≡ b → t x ≡ false → p x.query ≡ false
    fails false s e = s
    fails true s e = absurd (true≢false (sym (h x s) ∙ e))

-- what only filtered forms of a path pass is found first among the filtered ones
pub found_filtered : (fs gs : List Form) → AreFilteredOf fs gs → (p : Query → Bool) (path : Path) → ((f : Query) → p f ≡ true → (is_filtered f && path_eq f.path path) ≡ true)
    → find p (queries_of gs) ≡ find p (queries_of fs)
found_filtered fs gs h p path tells =
    find_kept p (stands_at path) gs (λ f e. both_second (is_filtered f.query) (stands_at path f) (tells f.query e))
    ∙ ap (λ (xs : List Form). find p (queries_of xs)) (h.same path)
    ∙ sym (find_kept p (is_filtered_at path) fs (λ f e. tells f.query e))

-- the form that is taken out is there
pub is_there : (fs gs : List Form) (n : ℕ) (f : Form) → n < length fs → f ≡ get_or fs n f → is_filtered f.query ≡ true → AreFilteredOf fs gs
    → list_any (is_same_form f) gs ≡ true
is_there fs gs n f lt at e h =
    any_with (is_same_form f) gs f (listed fs gs h f (n, lt, sym at) e)
    (both (stands_at (f.query).path f) (f.stamp == f.stamp) (path_eq-same (f.query).path) (eq-eqb f.stamp f.stamp refl))

-- one more form
pub more_plain : (fs gs : List Form) (f : Form) → is_filtered f.query ≡ false → All (λ (g : Form). g.stamp < f.stamp) fs → AreFilteredOf fs gs → AreFilteredOf (fs ++ f ∷ []) gs
more_plain fs gs f e below h = record {
  rising = all_pairs_push Rises fs f h.rising below;
  order = h.order;
  same = λ p. h.same p
      ∙ sym (filter-append (is_filtered_at p) fs (f ∷ []) ∙ ap (λ b. filter (is_filtered_at p) fs ++ cond (b && stands_at p f) (f ∷ []) []) e ∙ append-nil (filter (is_filtered_at p) fs));
}

pub more_filtered : (fs gs more : List Form) (f : Form) → is_filtered f.query ≡ true → All (λ (g : Form). g.stamp < f.stamp) fs → AreByPath form_query more
    → ((p : Path) → filter (stands_at p) more ≡ filter (stands_at p) (gs ++ f ∷ [])) → AreFilteredOf fs gs → AreFilteredOf (fs ++ f ∷ []) more
more_filtered fs gs more f e below up behind h = record {
  rising = all_pairs_push Rises fs f h.rising below;
  order = up;
  same = λ p. behind p ∙ filter-append (stands_at p) gs (f ∷ []) ∙ ap (λ (xs : List Form). xs ++ filter (stands_at p) (f ∷ [])) (h.same p)
      ∙ sym (filter-append (is_filtered_at p) fs (f ∷ []) ∙ ap (λ b. filter (is_filtered_at p) fs ++ cond (b && stands_at p f) (f ∷ []) []) e);
}

-- one less
pub less_plain : (fs gs : List Form) (n : ℕ) (f : Form) → n < length fs → f ≡ get_or fs n f → is_filtered f.query ≡ false → AreFilteredOf fs gs → AreFilteredOf (remove fs n) gs
less_plain fs gs n f lt at e h = record {
  rising = all_pairs_remove Rises fs n lt h.rising;
  order = h.order;
  same = λ p. h.same p
      ∙ sym (filter-remove_none (is_filtered_at p) fs n f lt (ap (is_filtered_at p) (sym at) ∙ ap (λ b. b && stands_at p f) e));
}

pub less_filtered : (fs gs : List Form) (n m : ℕ) (f : Form) → n < length fs → f ≡ get_or fs n f → is_filtered f.query ≡ true → m < length gs → is_same_form f (get_or gs m f) ≡ true
    → AreFilteredOf fs gs → AreFilteredOf (remove fs n) (remove gs m)
less_filtered fs gs n m f lt at e within own h = record {
  rising = all_pairs_remove Rises fs n lt h.rising;
  order = by_path-remove form_query gs m h.order;
  same = λ p. by p (stands_at p f) refl;
}
  where
    g : Form
    g = get_or gs m f

    path : (g.query).path ≡ (f.query).path
    path = path_eq-is (g.query).path (f.query).path (both_first (stands_at (f.query).path g) (g.stamp == f.stamp) own)

    stamp : g.stamp ≡ f.stamp
    stamp = eqb-true g.stamp f.stamp (both_second (stands_at (f.query).path g) (g.stamp == f.stamp) own)

    no : (b : Bool) → (b && false) ≡ false
    no true = refl
    no false = refl

    by : (p : Path) (b : Bool) → stands_at p f ≡ b → filter (stands_at p) (remove gs m) ≡ filter (is_filtered_at p) (remove fs n)
    by p false s =
        filter-remove_none (stands_at p) gs m f within (ap (λ (x : Path). path_eq x p) path ∙ s)
        ∙ h.same p
        ∙ sym (filter-remove_none (is_filtered_at p) fs n f lt (ap (is_filtered_at p) (sym at) ∙ ap (λ b. is_filtered f.query && b) s ∙ no (is_filtered f.query)))
    by p true s =
        let all : List Form = filter (is_filtered_at p) fs in
        let a = filter-remove_one (stands_at p) gs m f within (ap (λ (x : Path). path_eq x p) path ∙ s) in
        let b = filter-remove_one (is_filtered_at p) fs n f lt (ap (is_filtered_at p) (sym at) ∙ both (is_filtered f.query) (stands_at p f) e s) in
        let alike : (get_or all a.0 f).stamp ≡ (get_or all b.0 f).stamp =
        ap (λ (xs : List Form). (get_or xs a.0 f).stamp) (sym (h.same p)) ∙ ap (λ (x : Form). x.stamp) a.2 ∙ stamp ∙ ap (λ (x : Form). x.stamp) (at ∙ sym b.2) in
        let one : a.0 ≡ b.0 = same_place all (AllPairs-filter Rises (is_filtered_at p) fs h.rising) a.0 b.0 f (subst (λ (xs : List Form). a.0 < length xs) (h.same p) a.1) b.1 alike in
        a.3 ∙ (λ i. remove (h.same p i) (one i)) ∙ sym b.3
