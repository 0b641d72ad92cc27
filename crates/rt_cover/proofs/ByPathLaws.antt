-- Whoever asks after the paths above one finds what supplies it.
use Rattle.std.proofs.Common.{◌≡◌, ℕ, zero, suc, ◌+◌, ◌<◌, ◌≤◌, ◌==◌, nat_lt, Bool, true, false, cond, not, ◌&&◌, ◌||◌, List, [], ◌∷◌, ◌++◌, length, take, drop, get_or, refl, sym, ap, subst, ◌∙◌, arith, ltb-true, ltb-false, None, is_some, map, append_assoc, append-nil, eqb-true}
use mathlib.Core.Bool.{true≢false}
use Rattle.std.specs.List.{filter, list_any, All, AllPairs, Contains}
use Rattle.std.proofs.lemmas.List.{drop_more}
use Rattle.std.specs.Ordering.{is_eq, ordering_then}
use Rattle.std.specs.declared.cmp.Ordering.TheVariants.{Less, Equal, Greater}
use Rattle.std.proofs.lemmas.Bool.Decides.{nat_tests}
use Rattle.std.proofs.lemmas.List.Elements.{All-contains}
use Rattle.std.proofs.lemmas.List.Folds.{list_any_none}
use Rattle.rt_tree.specs.PathTree.{Path, path_cmp, path_eq, key_cmp, strip}
use Rattle.rt_tree.specs.Assignments.{is_at_or_above}
use Rattle.rt_tree.specs.TreeEq.{both_second}
use Rattle.rt_tree.specs.laws.Prefixes.{path_eq-is, path_eq-same, length-strip, strip-some}
use Rattle.rt_query.specs.Queries.{Query, plain, is_filtered}
use Rattle.rt_query.specs.QueryEq.{query_eq}
use Rattle.rt_query.specs.Ranges.{takes_in}
use Rattle.rt_query.specs.Supply.{form, does_supply}
use Rattle.rt_query.specs.laws.QueryEq.{query_eq_tells}
use Rattle.rt_query.specs.laws.RangeLaws.{taken_in}
use Rattle.rt_cover.specs.Cover.{Registered, Tagged, forms}
use Rattle.rt_cover.specs.State.{shown_with}
use Rattle.rt_cover.specs.declared.listen.Kept.{Kept}
use Rattle.rt_cover.specs.inside.Endings.{left}
use Rattle.rt_cover.specs.laws.FormLaws.{form_unfiltered, supply_filtered, supply_unfiltered}
use Rattle.rt_cover.specs.laws.Pairs.{filter_all, All-from_contained, Contains-head, Contains-later}
use Rattle.rt_cover.specs.laws.Paths.{rest_of_above, is_at_or_above-same}
use Rattle.rt_cover.proofs.StartLaws.{list_any_agreeing, list_any_either, list_any_filtered, lt_true, lt_false, is_seen, forms_of_firsts}

-- ---- tests of those of a path

-- a form has one path
pub same_form : (f g : Query) → query_eq f g ≡ true → path_eq f.path g.path ≡ true
same_form f g e = subst (λ h. path_eq f.path h.path ≡ true) ((query_eq_tells f g).0 e) (path_eq-same f.path)

-- a test of those that are left, among some
pub left_among : (at t ends : Registered → Bool) (ls : List Registered)
    → list_any (λ m. t m && not (ends m)) (filter at ls) ≡ list_any (λ m. at m && t m) (left ends ls)
left_among at t ends ls = sym (list_any_filtered at (λ m. t m && not (ends m)) ls)
    ∙ list_any_agreeing (λ m. at m && (t m && not (ends m))) (λ m. not (ends m) && (at m && t m)) ls (λ m. turned (at m) (t m) (not (ends m)))
    ∙ list_any_filtered (λ m. not (ends m)) (λ m. at m && t m) ls
  where
    turned : (a b c : Bool) → (a && (b && c)) ≡ (c && (a && b))
    turned true true true = refl
    turned true true false = refl
    turned true false true = refl
    turned true false false = refl
    turned false b true = refl
    turned false b false = refl

-- ---- the paths above a path

and_no : (b : Bool) → (b && false) ≡ false
and_no true = refl
and_no false = refl

no_key : (k : ℕ) → (0 == suc k) ≡ false
no_key k = grind (arith, nat_tests)

some_key : (k : ℕ) → (suc k == 0) ≡ false
some_key k = grind (arith, nat_tests)

one_more : (m n : ℕ) → (suc m == suc n) ≡ (m == n)
one_more m n = grind (arith, nat_tests)

-- one above of so many keys is that beginning
pub prefix_at : (p q : Path) (k : ℕ) → k ≤ length q → path_eq p (take k q) ≡ (is_at_or_above p q && (length p == k))
prefix_at [] [] zero le = refl
prefix_at [] [] (suc k) le = absurd (omega arith)
prefix_at [] (j ∷ q) zero le = refl
prefix_at [] (j ∷ q) (suc k) le = sym (no_key k)
prefix_at (i ∷ p) [] zero le = refl
prefix_at (i ∷ p) [] (suc k) le = absurd (omega arith)
prefix_at (i ∷ p) (j ∷ q) zero le = sym (ap (λ b. is_at_or_above (i ∷ p) (j ∷ q) && b) (some_key (length p)) ∙ and_no (is_at_or_above (i ∷ p) (j ∷ q)))
prefix_at (i ∷ p) (j ∷ q) (suc k) le =
    elim (key_cmp i j) as (λ o. is_eq (ordering_then o (path_cmp p (take k q))) ≡ (is_some (cond (is_eq o) (strip p q) None) && (suc (length p) == suc k))) [
      | Less ↦ refl
      | Equal ↦ prefix_at p q k (omega arith) ∙ ap (λ b. is_at_or_above p q && b) (sym (one_more (length p) k))
      | Greater ↦ refl
    ]

-- plain, and above the path with less than so many keys
abbrev pub is_plain_above : {X : Type 0} → (X → Query) → Path → ℕ → X → Bool
is_plain_above q p k l = (is_at_or_above (q l).path p && nat_lt (length (q l).path) k) && not (is_filtered (q l))

abbrev pub is_plain_at : {X : Type 0} → (X → Query) → Path → X → Bool
is_plain_at q p l = path_eq (q l).path p && not (is_filtered (q l))

pub none_above : {X : Type 0} (q : X → Query) (p : Path) (ls : List X) → list_any (is_plain_above q p 0) ls ≡ false
none_above {X = X} q p ls = list_any_none (is_plain_above q p 0) ls (All-from_contained (λ (l : X). is_plain_above q p 0 l ≡ false) ls
    (λ l m. ap (λ b. (is_at_or_above (q l).path p && b) && not (is_filtered (q l))) (lt_false (length (q l).path) 0 (omega arith))
    ∙ ap (λ b. b && not (is_filtered (q l))) (and_no (is_at_or_above (q l).path p))))

-- those of one key more
pub above_more : {X : Type 0} (q : X → Query) (p : Path) (k : ℕ) (ls : List X) → k ≤ length p
    → list_any (is_plain_above q p (k + 1)) ls ≡ (list_any (is_plain_above q p k) ls || list_any (is_plain_at q (take k p)) ls)
above_more {X = X} q p k ls le = list_any_agreeing (is_plain_above q p (k + 1)) (λ l. is_plain_above q p k l || is_plain_at q (take k p) l) ls each
    ∙ list_any_either (is_plain_above q p k) (is_plain_at q (take k p)) ls
  where
    less : (n : ℕ) → nat_lt n (k + 1) ≡ (nat_lt n k || (n == k))
    less n = grind (arith, nat_tests)

    spread : (a b c d : Bool) → ((a && (b || c)) && d) ≡ (((a && b) && d) || ((a && c) && d))
    spread true true true true = refl
    spread true true true false = refl
    spread true true false true = refl
    spread true true false false = refl
    spread true false c d = refl
    spread false b c d = refl

    each : (l : X) → is_plain_above q p (k + 1) l ≡ (is_plain_above q p k l || is_plain_at q (take k p) l)
    each l = ap (λ b. (is_at_or_above (q l).path p && b) && not (is_filtered (q l))) (less (length (q l).path))
        ∙ spread (is_at_or_above (q l).path p) (nat_lt (length (q l).path) k) (length (q l).path == k) (not (is_filtered (q l)))
        ∙ ap (λ b. is_plain_above q p k l || (b && not (is_filtered (q l)))) (sym (prefix_at (q l).path p k le))

pub list_any_implied : {X : Type 0} (p q : X → Bool) → ((x : X) → p x ≡ true → q x ≡ true) → (xs : List X) → list_any p xs ≡ true → list_any q xs ≡ true
list_any_implied p q h [] e = e
list_any_implied p q h (x ∷ xs) e =
    elim (p x) as (λ b. p x ≡ b → (b || list_any p xs) ≡ true → (q x || list_any q xs) ≡ true) [
      | true ↦ λ t _. ap (λ b. b || list_any q xs) (h x t)
      | false ↦ λ _ f. or_true (q x) (list_any q xs) (list_any_implied p q h xs f)
    ] refl e
  where
    or_true : (a b : Bool) → b ≡ true → (a || b) ≡ true
    or_true true b t = refl
    or_true false b t = t

-- one at a beginning is one above
pub above_found : {X : Type 0} (q : X → Query) (p : Path) (k : ℕ) (ls : List X) → k < length p → list_any (is_plain_at q (take k p)) ls ≡ true
    → list_any (is_plain_above q p (length p)) ls ≡ true
above_found {X = X} q p k ls lt e = list_any_implied (is_plain_at q (take k p)) (is_plain_above q p (length p)) each ls e
  where
    parts : (a b c d : Bool) → ((a && b) && c) ≡ true → (b ≡ true → d ≡ true) → ((a && d) && c) ≡ true
    parts true true true d e h = ap (λ b. b && true) (h refl)
    parts true true false d e h = absurd (true≢false (sym e))
    parts true false c d e h = absurd (true≢false (sym e))
    parts false b c d e h = absurd (true≢false (sym e))

    each : (l : X) → is_plain_at q (take k p) l ≡ true → is_plain_above q p (length p) l ≡ true
    each l t = parts (is_at_or_above (q l).path p) (length (q l).path == k) (not (is_filtered (q l))) (nat_lt (length (q l).path) (length p))
        (ap (λ b. b && not (is_filtered (q l))) (sym (prefix_at (q l).path p k (omega (arith, lt)))) ∙ t)
        (λ same. lt_true (length (q l).path) (length p) (omega (arith, lt, eqb-true (length (q l).path) k same)))

-- ---- what supplies a form

fails : (b : Bool) → (b ≡ true → ⊥) → b ≡ false
fails true h = absurd (h refl)
fails false h = refl

or_no : (b : Bool) → (b || false) ≡ b
or_no true = refl
or_no false = refl

-- what is above, and no shorter, is the same
no_rest : (p q : Path) → is_at_or_above p q ≡ true → length q ≤ length p → p ≡ q
no_rest p q a le =
    let r = rest_of_above p q a in
    let none : r.0 ≡ [] = empty r.0 (omega (arith, le, length-strip p q r.0 r.1)) in
    sym (strip-some p q r.0 r.1 ∙ ap (λ z. p ++ z) none ∙ append-nil p)
  where
    empty : (r : Path) → length r ≤ 0 → r ≡ []
    empty [] le = refl
    empty (k ∷ r) le = absurd (omega arith)

-- tests that agree on what is there
pub list_any_agreed : {X : Type 0} (p q : X → Bool) (xs : List X) → ((x : X) → Contains xs x → p x ≡ q x) → list_any p xs ≡ list_any q xs
list_any_agreed p q [] h = refl
list_any_agreed p q (x ∷ xs) h = λ i. h x (Contains-head x xs) i || list_any_agreed p q xs (λ y m. h y (Contains-later x xs y m)) i

-- another range, which takes in the form's
abbrev pub is_wider : Query → Registered → Bool
is_wider f l = not (query_eq l.1 f) && takes_in l.1 f

-- of two forms: another one that supplies it is plain and above, or plain and there or a wider range, if
-- this one is filtered
another_supplies : (m f : Query) → form m ≡ m → form f ≡ f
    → (not (query_eq m f) && does_supply m f)
    ≡ (((is_at_or_above m.path f.path && nat_lt (length m.path) (length f.path)) && not (is_filtered m))
    || (is_filtered f && ((path_eq m.path f.path && not (is_filtered m)) || (not (query_eq m f) && takes_in m f))))
another_supplies m f own_m own_f =
    elim (is_filtered m) as (λ b. is_filtered m ≡ b → (not (query_eq m f) && does_supply m f) ≡ told b (not (query_eq m f) && takes_in m f)) [
      | true ↦ λ e. ap (λ b. not (query_eq m f) && b) (supply_filtered m f e) ∙ other (query_eq m f) (takes_in m f)
          ∙ sym ((λ i. and_no (is_at_or_above m.path f.path && nat_lt (length m.path) (length f.path)) i
          || (is_filtered f && (and_no (path_eq m.path f.path) i || (not (query_eq m f) && takes_in m f))))
          ∙ beside (is_filtered f) (not (query_eq m f) && takes_in m f)
          (λ t. (taken_in m f (both_second (not (query_eq m f)) (takes_in m f) t)).inner))
      | false ↦ λ e. ap (λ b. not (query_eq m f) && b) (supply_unfiltered m f e) ∙ plain_one e
          ∙ ap (told false) (sym (ap (λ b. not (query_eq m f) && b) (fails (takes_in m f) (λ t. true≢false (sym (taken_in m f t).outer ∙ e))) ∙ and_no (not (query_eq m f))))
    ] refl
  where
    told : Bool → Bool → Bool
    told b w = ((is_at_or_above m.path f.path && nat_lt (length m.path) (length f.path)) && not b)
        || (is_filtered f && ((path_eq m.path f.path && not b) || w))

    other : (b t : Bool) → (not b && (b || t)) ≡ (not b && t)
    other true t = refl
    other false t = refl

    beside : (a w : Bool) → (w ≡ true → a ≡ true) → (a && w) ≡ w
    beside a true h = ap (λ b. b && true) (h refl)
    beside a false h = and_no a

    and_yes : (b : Bool) → (b && true) ≡ b
    and_yes true = refl
    and_yes false = refl

    -- at the same place: another one, if this one is filtered
    here : is_filtered m ≡ false → m.path ≡ f.path → not (query_eq m f) ≡ is_filtered f
    here flat is = elim (is_filtered f) as (λ b. is_filtered f ≡ b → not (query_eq m f) ≡ b) [
      | true ↦ λ e. ap not (fails (query_eq m f) (λ t. true≢false (sym (ap is_filtered ((query_eq_tells m f).0 t) ∙ e) ∙ flat)))
      | false ↦ λ e. ap not ((query_eq_tells m f).1 (sym own_m ∙ form_unfiltered m flat ∙ ap plain is ∙ sym (form_unfiltered f e) ∙ own_f))
    ] refl

    further : (m.path ≡ f.path → ⊥) → (not (query_eq m f) && is_at_or_above m.path f.path)
        ≡ (((is_at_or_above m.path f.path && true) && true) || (is_filtered f && ((path_eq m.path f.path && true) || false)))
    further apart = (λ i. not (fails (query_eq m f) (λ t. apart (ap (λ q. q.path) ((query_eq_tells m f).0 t))) i) && is_at_or_above m.path f.path)
        ∙ sym ((λ i. and_yes (and_yes (is_at_or_above m.path f.path) i) i || (is_filtered f && ((fails (path_eq m.path f.path) (λ t. apart (path_eq-is m.path f.path t)) i && true) || false)))
        ∙ (λ i. is_at_or_above m.path f.path || and_no (is_filtered f) i) ∙ or_no (is_at_or_above m.path f.path))

    plain_one : is_filtered m ≡ false → (not (query_eq m f) && is_at_or_above m.path f.path) ≡ told false false
    plain_one flat = elim (nat_lt (length m.path) (length f.path)) as (λ b. nat_lt (length m.path) (length f.path) ≡ b
        → (not (query_eq m f) && is_at_or_above m.path f.path) ≡ (((is_at_or_above m.path f.path && b) && true) || (is_filtered f && ((path_eq m.path f.path && true) || false)))) [
          | true ↦ λ lt. further (λ is. omega (arith, ltb-true (length m.path) (length f.path) lt, ap length is))
          | false ↦ λ le. elim (is_at_or_above m.path f.path) as (λ a. is_at_or_above m.path f.path ≡ a
              → (not (query_eq m f) && a) ≡ (((a && false) && true) || (is_filtered f && ((path_eq m.path f.path && true) || false)))) [
                | true ↦ λ a. let is : m.path ≡ f.path = no_rest m.path f.path a (ltb-false (length m.path) (length f.path) le) in
                    and_yes (not (query_eq m f)) ∙ here flat is ∙ sym (ap (λ b. is_filtered f && ((b && true) || false)) (subst (λ p. path_eq m.path p ≡ true) is (path_eq-same m.path)) ∙ and_yes (is_filtered f))
                | false ↦ λ a. and_no (not (query_eq m f)) ∙ sym (ap (λ b. is_filtered f && ((b && true) || false)) (fails (path_eq m.path f.path) (λ t.
                    true≢false (sym (subst (λ p. is_at_or_above m.path p ≡ true) (path_eq-is m.path f.path t) (is_at_or_above-same m.path)) ∙ a))) ∙ and_no (is_filtered f))
              ] refl
        ] refl

-- all of those by path
pub supplied_by_paths : (f : Query) (ls : List Registered) → All (λ (l : Registered). form l.1 ≡ l.1) ls → form f ≡ f
    → list_any (λ (l : Registered). not (query_eq l.1 f) && does_supply l.1 f) ls
    ≡ (list_any (is_plain_above (λ (x : Registered). x.1) f.path (length f.path)) ls
    || (is_filtered f && (list_any (is_plain_at (λ (x : Registered). x.1) f.path) ls || list_any (is_wider f) ls)))
supplied_by_paths f ls own own_f =
    list_any_agreed (λ (l : Registered). not (query_eq l.1 f) && does_supply l.1 f)
    (λ l. is_plain_above (λ (x : Registered). x.1) f.path (length f.path) l || (is_filtered f && (is_plain_at (λ (x : Registered). x.1) f.path l || is_wider f l))) ls
    (λ l m. another_supplies l.1 f (All-contains (λ (x : Registered). form x.1 ≡ x.1) ls l own m) own_f)
    ∙ list_any_either (is_plain_above (λ (x : Registered). x.1) f.path (length f.path)) (λ l. is_filtered f && (is_plain_at (λ (x : Registered). x.1) f.path l || is_wider f l)) ls
    ∙ ap (λ b. list_any (is_plain_above (λ (x : Registered). x.1) f.path (length f.path)) ls || b) (once (is_filtered f))
  where
    once : (b : Bool) → list_any (λ l. b && (is_plain_at (λ (x : Registered). x.1) f.path l || is_wider f l)) ls
        ≡ (b && (list_any (is_plain_at (λ (x : Registered). x.1) f.path) ls || list_any (is_wider f) ls))
    once true = list_any_either (is_plain_at (λ (x : Registered). x.1) f.path) (is_wider f) ls
    once false = list_any_none (λ (l : Registered). false) ls (λ k d lt. refl)

-- ---- forms, one listener after another

-- the forms are those of the firsts
pub forms_by_firsts : (ls : List Registered) → AllPairs (λ (l m : Registered). l.0 < m.0) ls
    → map (λ (l : Registered). l.1) (filter (λ l. not (is_seen ls l)) ls) ≡ forms ls
forms_by_firsts ls rise = sym (forms_of_firsts (λ f. true) ls rise) ∙ filter_all (λ f. true) (forms ls) (λ k d lt. refl)

-- one that is first is taken, another is left out
pub formed_takes : (p : Registered → Bool) (done new all : List Query) (xs : List Registered) (i : ℕ) (x : Registered)
    → i < length xs → x ≡ get_or xs i x → p x ≡ true → new ≡ done ++ x.1 ∷ []
    → done ++ map (λ (l : Registered). l.1) (filter p (drop i xs)) ≡ all → new ++ map (λ (l : Registered). l.1) (filter p (drop (i + 1) xs)) ≡ all
formed_takes p done new all xs i x lt is e added inv =
    ap (λ z. z ++ map (λ (l : Registered). l.1) (filter p (drop (i + 1) xs))) added
    ∙ append_assoc done (x.1 ∷ []) (map (λ (l : Registered). l.1) (filter p (drop (i + 1) xs)))
    ∙ ap (λ z. done ++ map (λ (l : Registered). l.1) z)
    (ap (λ b. cond b (x ∷ filter p (drop (i + 1) xs)) (filter p (drop (i + 1) xs))) (sym e)
    ∙ ap (filter p) (ap (λ y. y ∷ drop (i + 1) xs) is ∙ sym (drop_more xs i x lt)))
    ∙ inv

pub formed_leaves : (p : Registered → Bool) (done new all : List Query) (xs : List Registered) (i : ℕ) (x : Registered)
    → i < length xs → x ≡ get_or xs i x → p x ≡ false → new ≡ done
    → done ++ map (λ (l : Registered). l.1) (filter p (drop i xs)) ≡ all → new ++ map (λ (l : Registered). l.1) (filter p (drop (i + 1) xs)) ≡ all
formed_leaves p done new all xs i x lt is e same inv =
    ap (λ z. z ++ map (λ (l : Registered). l.1) (filter p (drop (i + 1) xs))) same
    ∙ ap (λ z. done ++ map (λ (l : Registered). l.1) z)
    (ap (λ b. cond b (x ∷ filter p (drop (i + 1) xs)) (filter p (drop (i + 1) xs))) (sym e)
    ∙ ap (filter p) (ap (λ y. y ∷ drop (i + 1) xs) is ∙ sym (drop_more xs i x lt)))
    ∙ inv

-- ---- what is shown, one listen after another

pub shown_more : (ls : List Registered) (done new all : List Kept) (kept : List Tagged) (i : ℕ) (k : Tagged)
    → i < length kept → k ≡ get_or kept i k
    → new ≡ done ++ shown_with ls k ∷ []
    → done ++ map (shown_with ls) (drop i kept) ≡ all → new ++ map (shown_with ls) (drop (i + 1) kept) ≡ all
shown_more ls done new all kept i k lt is added inv =
    ap (λ z. z ++ map (shown_with ls) (drop (i + 1) kept)) added
    ∙ append_assoc done (shown_with ls k ∷ []) (map (shown_with ls) (drop (i + 1) kept))
    ∙ ap (λ z. done ++ map (shown_with ls) z) (ap (λ y. y ∷ drop (i + 1) kept) is ∙ sym (drop_more kept i k lt))
    ∙ inv
