-- The listeners and the tree of their forms: what is looked for in it, and how both change.
use Rattle.std.proofs.Common.{◌≡◌, ◌≢◌, ℕ, zero, suc, ◌+◌, ◌<◌, ◌≤◌, ◌==◌, nat_lt, Bool, true, false, cond, not, ◌&&◌, ◌||◌, List, [], ◌∷◌, ◌++◌, map, length, take, drop, get_or, slice_index_or, refl, sym, ap, subst, ◌∙◌, arith, ltb-true, ltb-false, eqb-true, eq-eqb, append_assoc, append-nil, length-append, inl, inr, Option, Some, None, is_some, IfSome}
use mathlib.Core.Bool.{true≢false}
use Rattle.std.specs.List.{filter, find, list_any, slice_get, All, AllPairs, Contains}
use Rattle.std.specs.Option.{option_map, option_map_or}
use Rattle.std.proofs.lemmas.List.{drop_more, take_more, take-append-drop, map-append}
use Rattle.std.proofs.lemmas.List.Elements.{All-contains, All-filter, All-weaker, filter-append}
use Rattle.std.proofs.lemmas.List.Folds.{Any-from_list_any}
use Rattle.std.proofs.lemmas.List.Kept.{AllPairs-cons, AllPairs-filter}
use Rattle.rt_tree.specs.PathTree.{Path, path_eq, path_eq-is, path_eq-same}
use Rattle.rt_tree.specs.Assignments.{is_at_or_above}
use Rattle.rt_tree.specs.TreeEq.{both, both_first, both_second}
use Rattle.rt_query.specs.Queries.{Query, plain, is_filtered}
use Rattle.rt_query.specs.QueryEq.{query_eq}
use Rattle.rt_query.specs.Ranges.{takes_in}
use Rattle.rt_query.specs.Supply.{form, does_supply}
use Rattle.rt_query.specs.laws.QueryEq.{query_eq_tells}
use Rattle.rt_query.specs.laws.RangeLaws.{taken_in}
use Rattle.rt_forms.specs.Forms.{Forms, numbers, count, share_form, IsHeardUnder, AreFilteredAt}
use Rattle.rt_forms.specs.Numbers.{with_number, without_number}
use Rattle.rt_cover.specs.Cover.{Registered, Tagged, first_listener}
use Rattle.rt_cover.specs.State.{Cover, is_registered, with_listener, numbers_of, without_form, listen_at, left_after, ended_by}
use Rattle.rt_cover.specs.inside.Endings.{left, is_left_form, is_replaced, lost, begins_at, begins_after}
use Rattle.rt_cover.specs.inside.Sound.{IsSound}
use Rattle.rt_cover.specs.inside.Held.{IsHeld}
use Rattle.rt_cover.specs.laws.FormLaws.{same_tests, form_filtered, form_unfiltered, supply_unfiltered, supplied_is_filtered, supplied_has_path}
use Rattle.rt_cover.specs.laws.SoundLaws.{with_listener_rises, with_listener_forms}
use Rattle.rt_cover.specs.laws.Pairs.{Contains-head, Contains-later, AllPairs-first, AllPairs-rest, AllPairs-nil, AllPairs-map, AllPairs-three, Contains-cases, filter_none, filter_all, filter_agreeing, All-from_contained}
use Rattle.rt_cover.proofs.ByPathLaws.{left_among, list_any_agreed, list_any_implied}
use Rattle.rt_cover.proofs.ChangeLaws.{list_any_map, lost_of_form, known_tag, found_number}
use Rattle.rt_cover.proofs.NewLaws.{kept_is_form}
use Rattle.rt_cover.proofs.PickLaws.{find_one}
use Rattle.rt_cover.proofs.StartLaws.{list_any_with, list_any_filtered, lt_true, lt_false}

abbrev pub Rise : List Registered → Type 0
Rise ls = AllPairs (λ (l m : Registered). l.0 < m.0) ls

abbrev pub Own : List Registered → Type 0
Own ls = All (λ (l : Registered). form l.1 ≡ l.1) ls

-- ---- tests of the numbers of a form

pub of_numbers : (f : Query) (b : ℕ → Bool) (ls : List Registered) → list_any b (numbers_of ls f) ≡ list_any (λ (m : Registered). query_eq m.1 f && b m.0) ls
of_numbers f b ls = list_any_map (λ (l : Registered). l.0) b (filter (λ (l : Registered). query_eq l.1 f) ls)
    ∙ sym (list_any_filtered (λ (m : Registered). query_eq m.1 f) (λ (m : Registered). b m.0) ls)

-- there is one where a listener has the form
pub some_number : (f : Query) (ls : List Registered) → not (length (numbers_of ls f) == 0) ≡ list_any (λ (l : Registered). query_eq l.1 f) ls
some_number f [] = refl
some_number f (l ∷ ls) =
    elim (query_eq l.1 f) as (λ b. not (length (map (λ (m : Registered). m.0) (cond b (l ∷ filter (λ (m : Registered). query_eq m.1 f) ls) (filter (λ (m : Registered). query_eq m.1 f) ls))) == 0)
    ≡ (b || list_any (λ (m : Registered). query_eq m.1 f) ls)) [
      | true ↦ some (length (map (λ (m : Registered). m.0) (filter (λ (m : Registered). query_eq m.1 f) ls)))
      | false ↦ some_number f ls
    ]
  where
    some : (n : ℕ) → not (suc n == 0) ≡ true
    some n = elim (suc n == 0) as (λ b. (suc n == 0) ≡ b → not b ≡ true) [
      | true ↦ λ e. let same : suc n ≡ 0 = eqb-true (suc n) 0 e in absurd (omega (arith, same))
      | false ↦ λ e. refl
    ] refl

-- of a lesser number, and left
pub seen_left : (f : Query) (ended : ℕ → Bool) (n : ℕ) (ls : List Registered)
    → list_any (λ m. nat_lt m n && not (ended m)) (numbers_of ls f)
    ≡ list_any (λ (m : Registered). query_eq m.1 f && nat_lt m.0 n) (left (λ (l : Registered). ended l.0) ls)
seen_left f ended n ls = list_any_map (λ (l : Registered). l.0) (λ m. nat_lt m n && not (ended m)) (filter (λ (l : Registered). query_eq l.1 f) ls)
    ∙ left_among (λ (m : Registered). query_eq m.1 f) (λ (m : Registered). nat_lt m.0 n) (λ (l : Registered). ended l.0) ls

-- a form is a path's plain one, where it has the path and is not filtered
plain_is : (m : Query) (p : Path) → form m ≡ m → query_eq m (plain p) ≡ (path_eq m.path p && not (is_filtered m))
plain_is m p own = same_tests (query_eq m (plain p)) (path_eq m.path p && not (is_filtered m))
    (λ e. subst (λ (q : Query). (path_eq q.path p && not (is_filtered q)) ≡ true) (sym ((query_eq_tells m (plain p)).0 e)) (ap (λ b. b && true) (path_eq-same p)))
    (λ e.
    let at : m.path ≡ p = path_eq-is m.path p (both_first (path_eq m.path p) (not (is_filtered m)) e) in
    let flat : is_filtered m ≡ false = no (is_filtered m) (both_second (path_eq m.path p) (not (is_filtered m)) e) in
    (query_eq_tells m (plain p)).1 (sym own ∙ form_unfiltered m flat ∙ ap plain at))
  where
    no : (b : Bool) → not b ≡ true → b ≡ false
    no true e = absurd (true≢false (sym e))
    no false e = refl

-- of a path's plain form, and left
pub plain_left : (p : Path) (ended : ℕ → Bool) (ls : List Registered) → Own ls
    → list_any (λ m. not (ended m)) (numbers_of ls (plain p))
    ≡ list_any (λ (l : Registered). path_eq (l.1).path p && not (is_filtered l.1)) (left (λ (l : Registered). ended l.0) ls)
plain_left p ended ls own = of_numbers (plain p) (λ m. not (ended m)) ls
    ∙ list_any_agreed (λ (l : Registered). query_eq l.1 (plain p) && not (ended l.0)) (λ (l : Registered). not (ended l.0) && (path_eq (l.1).path p && not (is_filtered l.1))) ls
    (λ l m. ap (λ b. b && not (ended l.0)) (plain_is l.1 p (All-contains (λ (x : Registered). form x.1 ≡ x.1) ls l own m))
    ∙ turned (path_eq (l.1).path p && not (is_filtered l.1)) (not (ended l.0)))
    ∙ list_any_filtered (λ (l : Registered). not (ended l.0)) (λ (l : Registered). path_eq (l.1).path p && not (is_filtered l.1)) ls
  where
    turned : (a b : Bool) → (a && b) ≡ (b && a)
    turned true true = refl
    turned true false = refl
    turned false true = refl
    turned false false = refl

-- ---- the first number of a form

pub numbers_rise : (f : Query) (ls : List Registered) → Rise ls → AllPairs (λ (a b : ℕ). a < b) (numbers_of ls f)
numbers_rise f ls rise = AllPairs-map (λ (l : Registered). l.0) (λ (a b : ℕ). a < b) (filter (λ (l : Registered). query_eq l.1 f) ls)
    (AllPairs-filter (λ (l m : Registered). l.0 < m.0) (λ (l : Registered). query_eq l.1 f) ls rise)

-- where the first is no lesser one, none is
pub none_lesser : (n : ℕ) (xs : List ℕ) (x : ℕ) → AllPairs (λ (a b : ℕ). a < b) (x ∷ xs) → nat_lt x n ≡ false → list_any (λ m. nat_lt m n) (x ∷ xs) ≡ false
none_lesser n xs x rise e = no (list_any (λ m. nat_lt m n) (x ∷ xs)) (λ t.
    let a = Any-from_list_any (λ m. nat_lt m n) (x ∷ xs) t in
    let le : n ≤ x = omega (arith, ltb-false x n e) in
    least a.0 a.1 a.2 (ltb-true a.1 n a.4) a.3 le)
  where
    no : (b : Bool) → (b ≡ true → ⊥) → b ≡ false
    no true h = absurd (h refl)
    no false h = refl

    least : (k m : ℕ) → k < length (x ∷ xs) → m < n → slice_index_or (x ∷ xs) k m ≡ m → n ≤ x → ⊥
    least zero m lt less at le = absurd (omega (arith, at, less, le))
    least (suc k) m lt less at le =
        let above : x < slice_index_or xs k m = AllPairs-first (λ (a b : ℕ). a < b) x xs rise k m (omega arith) in
        absurd (omega (arith, above, at, less, le))

pub lesser_some : (n : ℕ) (xs : List ℕ) (x : ℕ) → AllPairs (λ (a b : ℕ). a < b) xs → slice_get xs 0 ≡ Some x → nat_lt x n ≡ list_any (λ m. nat_lt m n) xs
lesser_some n [] x rise e = cc
lesser_some n (y ∷ ys) x rise e =
    let is : y ≡ x = ap (λ o. option_map_or (λ (z : ℕ). z) o y) e in
    ap (λ z. nat_lt z n) (sym is)
    ∙ elim (nat_lt y n) as (λ b. nat_lt y n ≡ b → nat_lt y n ≡ list_any (λ m. nat_lt m n) (y ∷ ys)) [
      | true ↦ λ t. t ∙ sym (ap (λ b. b || list_any (λ m. nat_lt m n) ys) t)
      | false ↦ λ t. t ∙ sym (none_lesser n ys y rise t)
    ] refl

-- the first listener of a form
pub first_some : (f : Query) (ls : List Registered) (x : ℕ) → slice_get (numbers_of ls f) 0 ≡ Some x → x ≡ first_listener ls f
first_some f [] x e = cc
first_some f (l ∷ ls) x e = elim (query_eq l.1 f) as (λ b. slice_get (map (λ (m : Registered). m.0) (cond b (l ∷ filter (λ (m : Registered). query_eq m.1 f) ls) (filter (λ (m : Registered). query_eq m.1 f) ls))) 0 ≡ Some x
    → x ≡ option_map_or (λ (m : Registered). m.0) (cond b (Some l) (find (λ (m : Registered). query_eq m.1 f) ls)) 0) [
      | true ↦ λ h. sym (ap (λ o. option_map_or (λ (z : ℕ). z) o x) h)
      | false ↦ λ h. first_some f ls x h
    ] e

pub first_none : (f : Query) (ls : List Registered) → slice_get (numbers_of ls f) 0 ≡ None → 0 ≡ first_listener ls f
first_none f [] e = refl
first_none f (l ∷ ls) e = elim (query_eq l.1 f) as (λ b. slice_get (map (λ (m : Registered). m.0) (cond b (l ∷ filter (λ (m : Registered). query_eq m.1 f) ls) (filter (λ (m : Registered). query_eq m.1 f) ls))) 0 ≡ None
    → 0 ≡ option_map_or (λ (m : Registered). m.0) (cond b (Some l) (find (λ (m : Registered). query_eq m.1 f) ls)) 0) [
      | true ↦ λ h. cc
      | false ↦ λ h. first_none f ls h
    ] e

-- ---- all at and under a path

pub under_tells : (ls : List Registered) (forms : Forms) → IsHeld ls forms → Own ls → (p : Path) (v : List ℕ)
    → ((q : Query) (test : ℕ → Bool) → is_at_or_above p q.path ≡ true → list_any test (numbers forms q) ≡ true → list_any test v ≡ true)
    → ((test : ℕ → Bool) → list_any test v ≡ true → IsHeardUnder forms p test)
    → (t : ℕ → Bool) → list_any t v ≡ list_any (λ (l : Registered). is_at_or_above p (l.1).path && t l.0) ls
under_tells ls forms held own p v each only t = same_tests (list_any t v) (list_any (λ (l : Registered). is_at_or_above p (l.1).path && t l.0) ls) there back
  where
    there : list_any t v ≡ true → list_any (λ (l : Registered). is_at_or_above p (l.1).path && t l.0) ls ≡ true
    there e =
        let u = only t e in
        let some : list_any t (numbers_of ls u.query) ≡ true = ap (list_any t) (sym (held.numbers u.query ∙ ap (numbers_of ls) u.is_form)) ∙ u.heard in
        let a = Any-from_list_any (λ (m : Registered). query_eq m.1 u.query && t m.0) ls (sym (of_numbers u.query t ls) ∙ some) in
        let is : (a.1).1 ≡ u.query = (query_eq_tells (a.1).1 u.query).0 (both_first (query_eq (a.1).1 u.query) (t (a.1).0) a.4) in
        list_any_with (λ (l : Registered). is_at_or_above p (l.1).path && t l.0) ls a.1 (a.0, a.2, a.3)
        (both (is_at_or_above p ((a.1).1).path) (t (a.1).0) (ap (λ (q : Query). is_at_or_above p q.path) is ∙ u.under) (both_second (query_eq (a.1).1 u.query) (t (a.1).0) a.4))

    back : list_any (λ (l : Registered). is_at_or_above p (l.1).path && t l.0) ls ≡ true → list_any t v ≡ true
    back e =
        let a = Any-from_list_any (λ (l : Registered). is_at_or_above p (l.1).path && t l.0) ls e in
        let l : Registered = a.1 in
        let m : Contains ls l = (a.0, a.2, a.3) in
        let there : numbers forms l.1 ≡ numbers_of ls l.1 = held.numbers l.1 ∙ ap (numbers_of ls) (All-contains (λ (x : Registered). form x.1 ≡ x.1) ls l own m) in
        each l.1 t (both_first (is_at_or_above p (l.1).path) (t l.0) a.4)
        (ap (list_any t) there ∙ of_numbers l.1 t ls
        ∙ list_any_with (λ (x : Registered). query_eq x.1 l.1 && t x.0) ls l m
        (both (query_eq l.1 l.1) (t l.0) ((query_eq_tells l.1 l.1).1 refl) (both_second (is_at_or_above p (l.1).path) (t l.0) a.4)))

-- ---- the filtered forms of a path

pub filtered_tells : (ls : List Registered) (forms : Forms) → IsHeld ls forms → (p : Path) (es : List (Query × List ℕ)) → AreFilteredAt forms p es
    → (s : Query → Bool) (t : ℕ → Bool)
    → list_any (λ (e : Query × List ℕ). s e.0 && list_any t e.1) es
    ≡ list_any (λ (l : Registered). (is_filtered l.1 && path_eq (l.1).path p) && (s l.1 && t l.0)) ls
filtered_tells ls forms held p es are s t = same_tests (list_any of_entry es) (list_any of_one ls) there back
  where
    of_entry : Query × List ℕ → Bool
    of_entry e = s e.0 && list_any t e.1

    of_one : Registered → Bool
    of_one l = (is_filtered l.1 && path_eq (l.1).path p) && (s l.1 && t l.0)

    Entry : Query × List ℕ → Type 0
    Entry e = (is_filtered e.0 ≡ true) × ((e.0).path ≡ p) × (numbers forms e.0 ≡ e.1)

    there : list_any of_entry es ≡ true → list_any of_one ls ≡ true
    there e =
        let a = Any-from_list_any of_entry es e in
        let q : Query = (a.1).0 in
        let is : Entry a.1 = All-contains Entry es a.1 are.only (a.0, a.2, a.3) in
        let some : list_any t (numbers_of ls q) ≡ true =
        ap (list_any t) (sym (ap (numbers_of ls) (form_filtered q is.0)) ∙ sym (held.numbers q) ∙ is.2) ∙ both_second (s q) (list_any t (a.1).1) a.4 in
        let b = Any-from_list_any (λ (m : Registered). query_eq m.1 q && t m.0) ls (sym (of_numbers q t ls) ∙ some) in
        let same : (b.1).1 ≡ q = (query_eq_tells (b.1).1 q).0 (both_first (query_eq (b.1).1 q) (t (b.1).0) b.4) in
        list_any_with of_one ls b.1 (b.0, b.2, b.3)
        (both (is_filtered (b.1).1 && path_eq ((b.1).1).path p) (s (b.1).1 && t (b.1).0)
        (both (is_filtered (b.1).1) (path_eq ((b.1).1).path p) (ap is_filtered same ∙ is.0)
        (subst (λ z. path_eq ((b.1).1).path z ≡ true) (ap (λ (x : Query). x.path) same ∙ is.1) (path_eq-same ((b.1).1).path)))
        (both (s (b.1).1) (t (b.1).0) (ap s same ∙ both_first (s q) (list_any t (a.1).1) a.4) (both_second (query_eq (b.1).1 q) (t (b.1).0) b.4)))

    back : list_any of_one ls ≡ true → list_any of_entry es ≡ true
    back e =
        let a = Any-from_list_any of_one ls e in
        let l : Registered = a.1 in
        let first = both_first (is_filtered l.1 && path_eq (l.1).path p) (s l.1 && t l.0) a.4 in
        let rest = both_second (is_filtered l.1 && path_eq (l.1).path p) (s l.1 && t l.0) a.4 in
        let own : is_filtered l.1 ≡ true = both_first (is_filtered l.1) (path_eq (l.1).path p) first in
        let at : (l.1).path ≡ p = path_eq-is (l.1).path p (both_second (is_filtered l.1) (path_eq (l.1).path p) first) in
        let heard : list_any t (numbers forms l.1) ≡ true =
        ap (list_any t) (held.numbers l.1 ∙ ap (numbers_of ls) (form_filtered l.1 own)) ∙ of_numbers l.1 t ls
        ∙ list_any_with (λ (x : Registered). query_eq x.1 l.1 && t x.0) ls l (a.0, a.2, a.3)
        (both (query_eq l.1 l.1) (t l.0) ((query_eq_tells l.1 l.1).1 refl) (both_second (s l.1) (t l.0) rest)) in
        elim (are.each l.1 own at) [
          | inl none ↦ absurd (true≢false (sym heard ∙ ap (list_any t) none))
          | inr has ↦ list_any_with of_entry es (l.1, numbers forms l.1) has (both (s l.1) (list_any t (numbers forms l.1)) (both_first (s l.1) (t l.0) rest) heard)
        ]

and_no : (b : Bool) → (b && false) ≡ false
and_no true = refl
and_no false = refl

-- a test that another follows from needs no word beside it
pub absorbed : (a b c : Bool) → (b ≡ true → a ≡ true) → (a && (b && c)) ≡ (b && c)
absorbed a true c h = ap (λ x. x && c) (h refl)
absorbed a false c h = and_no a

-- a wider range, and left
pub wider_left : (p : Path) (q : Query) (ended : ℕ → Bool) (ls : List Registered) → p ≡ q.path
    → list_any (λ (l : Registered). (is_filtered l.1 && path_eq (l.1).path p) && ((not (query_eq l.1 q) && takes_in l.1 q) && not (ended l.0))) ls
    ≡ list_any (λ (l : Registered). not (query_eq l.1 q) && takes_in l.1 q) (left (λ (l : Registered). ended l.0) ls)
wider_left p q ended ls is =
    list_any_agreed (λ (l : Registered). (is_filtered l.1 && path_eq (l.1).path p) && (wider l && not (ended l.0))) (λ (l : Registered). not (ended l.0) && wider l) ls
    (λ l _. absorbed (is_filtered l.1 && path_eq (l.1).path p) (wider l) (not (ended l.0)) (there l) ∙ turned (wider l) (not (ended l.0)))
    ∙ list_any_filtered (λ (l : Registered). not (ended l.0)) wider ls
  where
    wider : Registered → Bool
    wider l = not (query_eq l.1 q) && takes_in l.1 q

    turned : (a b : Bool) → (a && b) ≡ (b && a)
    turned true true = refl
    turned true false = refl
    turned false true = refl
    turned false false = refl

    there : (l : Registered) → wider l ≡ true → (is_filtered l.1 && path_eq (l.1).path p) ≡ true
    there l e =
        let t = taken_in l.1 q (both_second (not (query_eq l.1 q)) (takes_in l.1 q) e) in
        both (is_filtered l.1) (path_eq (l.1).path p) t.outer (subst (λ z. path_eq (l.1).path z ≡ true) (t.paths ∙ sym is) (path_eq-same (l.1).path))

-- ---- for whom a listen starts

-- by the number of one that is registered
pub begins_one : (ends : Registered → Bool) (ls : List Registered) → Rise ls → (p : ℕ → Bool) (l : Registered) → Contains ls l
    → begins_at ends ls p l.0 ≡ ((not (ends l) && not (is_replaced ends ls l)) && p l.0)
begins_one ends ls rise p l m = ap (λ o. option_map_or (λ (x : Registered). (not (ends x) && not (is_replaced ends ls x)) && p l.0) o false) (find_one (λ (x : Registered). x.0) ls l rise m)

-- none of a number begins where no listener has it
pub none_at : (ended : ℕ → Bool) (ls : List Registered) (p : ℕ → Bool) (n : ℕ) → None ≡ find (λ (l : Registered). l.0 == n) ls
    → begins_at (λ (l : Registered). ended l.0) ls p n ≡ false
none_at ended ls p n none = sym (ap (λ (o : Option Registered). option_map_or (λ l. (not (ended l.0) && not (is_replaced (λ (m : Registered). ended m.0) ls l)) && p n) o false) none)

-- for none whose listener ends
pub none_begin : (ended : ℕ → Bool) (ls : List Registered) (p : ℕ → Bool) (ns : List ℕ) → list_any (λ m. not (ended m)) ns ≡ false
    → list_any (begins_at (λ (l : Registered). ended l.0) ls p) ns ≡ false
none_begin ended ls p ns none = fails (list_any begins ns) (λ e.
    let a = Any-from_list_any begins ns e in
    true≢false (sym (list_any_with (λ m. not (ended m)) ns a.1 (a.0, a.2, a.3) (at a.1 (find (λ (l : Registered). l.0 == a.1) ls) (found a.1 ls) a.4)) ∙ none))
  where
    begins : ℕ → Bool
    begins = begins_at (λ (l : Registered). ended l.0) ls p

    fails : (b : Bool) → (b ≡ true → ⊥) → b ≡ false
    fails true h = absurd (h refl)
    fails false h = refl

    -- who is found by a number has it
    found : (n : ℕ) (xs : List Registered) → IfSome (find (λ (l : Registered). l.0 == n) xs) (λ l. l.0 ≡ n)
    found n [] = tt
    found n (x ∷ xs) = elim (x.0 == n) as (λ b. (x.0 == n) ≡ b → IfSome (cond b (Some x) (find (λ (l : Registered). l.0 == n) xs)) (λ l. l.0 ≡ n)) [
      | true ↦ λ e. eqb-true x.0 n e
      | false ↦ λ _. found n xs
    ] refl

    at : (n : ℕ) (o : Option Registered) → IfSome o (λ l. l.0 ≡ n)
        → option_map_or (λ (l : Registered). (not (ended l.0) && not (is_replaced (λ (x : Registered). ended x.0) ls l)) && p n) o false ≡ true → not (ended n) ≡ true
    at n None h e = absurd (true≢false (sym e))
    at n (Some l) h e = ap (λ m. not (ended m)) (sym h)
        ∙ both_first (not (ended l.0)) (not (is_replaced (λ (x : Registered). ended x.0) ls l)) (both_first (not (ended l.0) && not (is_replaced (λ (x : Registered). ended x.0) ls l)) (p n) e)

-- of a listen that is lost
pub supplied_begin : (ends : Registered → Bool) (ls : List Registered) → Rise ls → (p : ℕ → Bool) (k : Tagged)
    → list_any (λ (l : Registered). does_supply k.form l.1 && begins_at ends ls p l.0) ls ≡ begins_after ends ls p k
supplied_begin ends ls rise p k =
    list_any_agreed (λ (l : Registered). does_supply k.form l.1 && begins_at ends ls p l.0)
    (λ (l : Registered). does_supply k.form l.1 && ((not (ends l) && not (is_replaced ends ls l)) && p l.0)) ls
    (λ l m. ap (λ b. does_supply k.form l.1 && b) (begins_one ends ls rise p l m))

-- whom a plain one supplies
pub under_supplied : (ls : List Registered) (t : ℕ → Bool) (k : Tagged) → is_filtered k.form ≡ false
    → list_any (λ (l : Registered). is_at_or_above (k.form).path (l.1).path && t l.0) ls ≡ list_any (λ (l : Registered). does_supply k.form l.1 && t l.0) ls
under_supplied ls t k flat =
    list_any_agreed (λ (l : Registered). is_at_or_above (k.form).path (l.1).path && t l.0) (λ (l : Registered). does_supply k.form l.1 && t l.0) ls
    (λ l m. ap (λ b. b && t l.0) (sym (supply_unfiltered k.form l.1 flat)))

-- and another one
pub filtered_supplied : (ls : List Registered) (t : ℕ → Bool) (k : Tagged) (path : Path) → path ≡ (k.form).path → is_filtered k.form ≡ true
    → list_any (λ (l : Registered). (is_filtered l.1 && path_eq (l.1).path path) && (does_supply k.form l.1 && t l.0)) ls
    ≡ list_any (λ (l : Registered). does_supply k.form l.1 && t l.0) ls
filtered_supplied ls t k path is own =
    list_any_agreed (λ (l : Registered). (is_filtered l.1 && path_eq (l.1).path path) && (does_supply k.form l.1 && t l.0)) (λ (l : Registered). does_supply k.form l.1 && t l.0) ls
    (λ l m. absorbed (is_filtered l.1 && path_eq (l.1).path path) (does_supply k.form l.1) (t l.0) (there l))
  where
    there : (l : Registered) → does_supply k.form l.1 ≡ true → (is_filtered l.1 && path_eq (l.1).path path) ≡ true
    there l e = both (is_filtered l.1) (path_eq (l.1).path path) (supplied_is_filtered k.form l.1 own e)
        (subst (λ z. path_eq (l.1).path z ≡ true) (sym (supplied_has_path k.form l.1 own e) ∙ sym is) (path_eq-same (l.1).path))

-- ---- a listener more

-- those of lesser numbers, and those of greater ones
halves : (n : ℕ) (ls : List Registered) → Rise ls → is_registered ls n ≡ false
    → filter (λ (l : Registered). nat_lt l.0 n) ls ++ filter (λ (l : Registered). nat_lt n l.0) ls ≡ ls
halves n [] rise free = refl
halves n (l ∷ ls) rise free =
    elim (nat_lt l.0 n) as (λ b. nat_lt l.0 n ≡ b → cond b (l ∷ filter lo ls) (filter lo ls) ++ cond (nat_lt n l.0) (l ∷ filter hi ls) (filter hi ls) ≡ l ∷ ls) [
      | true ↦ λ e. (λ i. l ∷ (filter lo ls ++ cond (lt_false n l.0 (omega (arith, ltb-true l.0 n e)) i) (l ∷ filter hi ls) (filter hi ls)))
          ∙ ap (λ z. l ∷ z) (halves n ls (AllPairs-rest (λ (x y : Registered). x.0 < y.0) l ls rise) (second (l.0 == n) (is_registered ls n) free))
      | false ↦ λ e. let above : n < l.0 = apart (ltb-false l.0 n e) in
          (λ i. none above i ++ cond (lt_true n l.0 above i) (l ∷ every above i) (every above i))
    ] refl
  where
    lo : Registered → Bool
    lo x = nat_lt x.0 n

    hi : Registered → Bool
    hi x = nat_lt n x.0

    first : (a b : Bool) → (a || b) ≡ false → a ≡ false
    first true b e = absurd (true≢false e)
    first false b e = refl

    second : (a b : Bool) → (a || b) ≡ false → b ≡ false
    second true b e = absurd (true≢false e)
    second false b e = e

    apart : n ≤ l.0 → n < l.0
    apart le = elim (nat_lt n l.0) as (λ b. nat_lt n l.0 ≡ b → n < l.0) [
      | true ↦ λ t. ltb-true n l.0 t
      | false ↦ λ t. absurd (true≢false (sym (eq-eqb l.0 n (omega (arith, le, ltb-false n l.0 t))) ∙ first (l.0 == n) (is_registered ls n) free))
    ] refl

    rest_above : n < l.0 → All (λ (x : Registered). n < x.0) ls
    rest_above lt = All-weaker (λ (x : Registered). l.0 < x.0) (λ (x : Registered). n < x.0) (λ x more. omega (arith, lt, more)) ls
        (AllPairs-first (λ (x y : Registered). x.0 < y.0) l ls rise)

    none : n < l.0 → filter lo ls ≡ []
    none lt = filter_none lo ls (All-weaker (λ (x : Registered). n < x.0) (λ (x : Registered). lo x ≡ false) (λ x more. lt_false x.0 n (omega (arith, more))) ls (rest_above lt))

    every : n < l.0 → filter hi ls ≡ ls
    every lt = filter_all hi ls (All-weaker (λ (x : Registered). n < x.0) (λ (x : Registered). hi x ≡ true) (λ x more. lt_true n x.0 more) ls (rest_above lt))

-- of some listeners by their numbers
numbers_filtered : (t : ℕ → Bool) (g : Query) (ls : List Registered) → numbers_of (filter (λ (l : Registered). t l.0) ls) g ≡ filter t (numbers_of ls g)
numbers_filtered t g [] = refl
numbers_filtered t g (l ∷ ls) =
    let rest = numbers_filtered t g ls in
    elim (query_eq l.1 g) as (λ b. query_eq l.1 g ≡ b → numbers_of (cond (t l.0) (l ∷ filter (λ (x : Registered). t x.0) ls) (filter (λ (x : Registered). t x.0) ls)) g
    ≡ filter t (map (λ (x : Registered). x.0) (cond b (l ∷ filter (λ (x : Registered). query_eq x.1 g) ls) (filter (λ (x : Registered). query_eq x.1 g) ls)))) [
      | true ↦ λ e. elim (t l.0) as (λ c. numbers_of (cond c (l ∷ filter (λ (x : Registered). t x.0) ls) (filter (λ (x : Registered). t x.0) ls)) g ≡ cond c (l.0 ∷ filter t (numbers_of ls g)) (filter t (numbers_of ls g))) [
        | true ↦ has e (filter (λ (x : Registered). t x.0) ls) ∙ ap (λ z. l.0 ∷ z) rest
        | false ↦ rest
      ]
      | false ↦ λ e. elim (t l.0) as (λ c. numbers_of (cond c (l ∷ filter (λ (x : Registered). t x.0) ls) (filter (λ (x : Registered). t x.0) ls)) g ≡ filter t (numbers_of ls g)) [
        | true ↦ lacks e (filter (λ (x : Registered). t x.0) ls) ∙ rest
        | false ↦ rest
      ]
    ] refl
  where
    has : query_eq l.1 g ≡ true → (xs : List Registered) → numbers_of (l ∷ xs) g ≡ l.0 ∷ numbers_of xs g
    has e xs = ap (λ b. map (λ (x : Registered). x.0) (cond b (l ∷ filter (λ (x : Registered). query_eq x.1 g) xs) (filter (λ (x : Registered). query_eq x.1 g) xs))) e

    lacks : query_eq l.1 g ≡ false → (xs : List Registered) → numbers_of (l ∷ xs) g ≡ numbers_of xs g
    lacks e xs = ap (λ b. map (λ (x : Registered). x.0) (cond b (l ∷ filter (λ (x : Registered). query_eq x.1 g) xs) (filter (λ (x : Registered). query_eq x.1 g) xs))) e

-- of two lists
numbers_append : (g : Query) (xs ys : List Registered) → numbers_of (xs ++ ys) g ≡ numbers_of xs g ++ numbers_of ys g
numbers_append g xs ys = ap (map (λ (l : Registered). l.0)) (filter-append (λ (l : Registered). query_eq l.1 g) xs ys)
    ∙ map-append (λ (l : Registered). l.0) (filter (λ (l : Registered). query_eq l.1 g) xs) (filter (λ (l : Registered). query_eq l.1 g) ys)

pub numbers_with : (ls : List Registered) (n : ℕ) (f g : Query) → Rise ls → is_registered ls n ≡ false
    → numbers_of (with_listener ls n f) g ≡ cond (query_eq f g) (with_number n (numbers_of ls g)) (numbers_of ls g)
numbers_with ls n f g rise free =
    numbers_append g lo ((n, f) ∷ hi)
    ∙ elim (query_eq f g) as (λ b. numbers_of lo g ++ map (λ (x : Registered). x.0) (cond b ((n, f) ∷ filter (λ (x : Registered). query_eq x.1 g) hi) (filter (λ (x : Registered). query_eq x.1 g) hi))
    ≡ cond b (with_number n (numbers_of ls g)) (numbers_of ls g)) [
      | true ↦ (λ i. numbers_filtered (λ m. nat_lt m n) g ls i ++ n ∷ numbers_filtered (λ m. nat_lt n m) g ls i)
      | false ↦ sym (numbers_append g lo hi) ∙ ap (λ z. numbers_of z g) (halves n ls rise free)
    ]
  where
    lo : List Registered
    lo = filter (λ (l : Registered). nat_lt l.0 n) ls

    hi : List Registered
    hi = filter (λ (l : Registered). nat_lt n l.0) ls

turned : (f g : Query) → query_eq f g ≡ query_eq g f
turned f g = same_tests (query_eq f g) (query_eq g f) (λ e. (query_eq_tells g f).1 (sym ((query_eq_tells f g).0 e))) (λ e. (query_eq_tells f g).1 (sym ((query_eq_tells g f).0 e)))

shares : (q f : Query) → form f ≡ f → share_form q f ≡ query_eq f (form q)
shares q f own = ap (λ g. query_eq (form q) g) own ∙ turned (form q) f

-- a listener more in both
pub more_held : (ls : List Registered) (old new : Forms) (n : ℕ) (f : Query) → IsHeld ls old → Rise ls → is_registered ls n ≡ false → form f ≡ f
    → ((q : Query) → numbers new q ≡ cond (share_form q f) (with_number n (numbers old q)) (numbers old q)) → count new ≡ count old + 1
    → IsHeld (with_listener ls n f) new
more_held ls old new n f held rise free own more one = record {
  numbers = λ q. more q ∙ (λ i. cond (shares q f own i) (with_number n (held.numbers q i)) (held.numbers q i)) ∙ sym (numbers_with ls n f (form q) rise free);
  count =
      let all : length (lo ++ (n, f) ∷ hi) ≡ length lo + suc (length hi) = length-append lo ((n, f) ∷ hi) in
      let two : length (lo ++ hi) ≡ length lo + length hi = length-append lo hi in
      let is : length (lo ++ hi) ≡ length ls = ap length (halves n ls rise free) in
      omega (arith, one, held.count, all, two, is);
}
  where
    lo : List Registered
    lo = filter (λ (l : Registered). nat_lt l.0 n) ls

    hi : List Registered
    hi = filter (λ (l : Registered). nat_lt n l.0) ls

-- none of the form has the number
pub free_of : (ls : List Registered) (forms : Forms) (n : ℕ) (f : Query) → IsHeld ls forms → is_registered ls n ≡ false → form f ≡ f
    → list_any (λ m. m == n) (numbers forms f) ≡ false
free_of ls forms n f held free own = ap (list_any (λ m. m == n)) (held.numbers f ∙ ap (numbers_of ls) own) ∙ of_numbers f (λ m. m == n) ls
    ∙ no (list_any (λ (l : Registered). query_eq l.1 f && (l.0 == n)) ls) (λ t. true≢false (sym (list_any_implied (λ (l : Registered). query_eq l.1 f && (l.0 == n)) (λ (l : Registered). l.0 == n)
    (λ l e. both_second (query_eq l.1 f) (l.0 == n) e) ls t) ∙ free))
  where
    no : (b : Bool) → (b ≡ true → ⊥) → b ≡ false
    no true h = absurd (h refl)
    no false h = refl

-- ---- a listener less

middle : {X : Type 0} (a : List X) (x : X) (b : List X) → Contains (a ++ x ∷ b) x
middle [] x b = Contains-head x b
middle (y ∷ a) x b = Contains-later y (a ++ x ∷ b) x (middle a x b)

-- the others stay
pub without_one : (a : List Registered) (l : Registered) (b : List Registered) → Rise (a ++ l ∷ b) → filter (λ (x : Registered). not (x.0 == l.0)) (a ++ l ∷ b) ≡ a ++ b
without_one [] l b rise =
    (λ i. cond (not (eq-eqb l.0 l.0 refl i)) (l ∷ filter (λ (x : Registered). not (x.0 == l.0)) b) (filter (λ (x : Registered). not (x.0 == l.0)) b))
    ∙ filter_all (λ (x : Registered). not (x.0 == l.0)) b
    (All-weaker (λ (x : Registered). l.0 < x.0) (λ (x : Registered). not (x.0 == l.0) ≡ true) (λ x lt. ap not (differ x.0 l.0 (λ e. omega (arith, e, lt)))) b
    (AllPairs-first (λ (x y : Registered). x.0 < y.0) l b rise))
  where
    differ : (m n : ℕ) → m ≢ n → (m == n) ≡ false
    differ m n h = elim (m == n) as (λ t. (m == n) ≡ t → t ≡ false) [
      | true ↦ λ e. absurd (h (eqb-true m n e))
      | false ↦ λ _. refl
    ] refl
without_one (y ∷ a) l b rise =
    let lt : y.0 < l.0 = All-contains (λ (x : Registered). y.0 < x.0) (a ++ l ∷ b) l (AllPairs-first (λ (x z : Registered). x.0 < z.0) y (a ++ l ∷ b) rise) (middle a l b) in
    ap (λ t. cond (not t) (y ∷ filter (λ (x : Registered). not (x.0 == l.0)) (a ++ l ∷ b)) (filter (λ (x : Registered). not (x.0 == l.0)) (a ++ l ∷ b)))
    (differ y.0 l.0 (λ e. omega (arith, e, lt)))
    ∙ ap (λ z. y ∷ z) (without_one a l b (AllPairs-rest (λ (x z : Registered). x.0 < z.0) y (a ++ l ∷ b) rise))
  where
    differ : (m n : ℕ) → m ≢ n → (m == n) ≡ false
    differ m n h = elim (m == n) as (λ t. (m == n) ≡ t → t ≡ false) [
      | true ↦ λ e. absurd (h (eqb-true m n e))
      | false ↦ λ _. refl
    ] refl

pub less_rise : (a : List Registered) (l : Registered) (b : List Registered) → Rise (a ++ l ∷ b) → Rise (a ++ b)
less_rise a l b rise = subst (AllPairs (λ (x y : Registered). x.0 < y.0)) (without_one a l b rise)
    (AllPairs-filter (λ (x y : Registered). x.0 < y.0) (λ (x : Registered). not (x.0 == l.0)) (a ++ l ∷ b) rise)

pub less_own : (a : List Registered) (l : Registered) (b : List Registered) → Rise (a ++ l ∷ b) → Own (a ++ l ∷ b) → Own (a ++ b)
less_own a l b rise own = subst (All (λ (x : Registered). form x.1 ≡ x.1)) (without_one a l b rise)
    (All-filter (λ (x : Registered). not (x.0 == l.0)) (λ (x : Registered). form x.1 ≡ x.1) (a ++ l ∷ b) own)

numbers_less : (a : List Registered) (l : Registered) (b : List Registered) (g : Query) → Rise (a ++ l ∷ b)
    → cond (query_eq l.1 g) (without_number l.0 (numbers_of (a ++ l ∷ b) g)) (numbers_of (a ++ l ∷ b) g) ≡ numbers_of (a ++ b) g
numbers_less a l b g rise =
    elim (query_eq l.1 g) as (λ t. query_eq l.1 g ≡ t → cond t (without_number l.0 (numbers_of (a ++ l ∷ b) g)) (numbers_of (a ++ l ∷ b) g) ≡ numbers_of (a ++ b) g) [
      | true ↦ λ _. sym (numbers_filtered (λ m. not (m == l.0)) g (a ++ l ∷ b)) ∙ ap (λ z. numbers_of z g) (without_one a l b rise)
      | false ↦ λ e. numbers_append g a (l ∷ b)
          ∙ ap (λ t. numbers_of a g ++ map (λ (x : Registered). x.0) (cond t (l ∷ filter (λ (x : Registered). query_eq x.1 g) b) (filter (λ (x : Registered). query_eq x.1 g) b))) e
          ∙ sym (numbers_append g a b)
    ] refl

-- a listener less in both
pub less_held : (a : List Registered) (l : Registered) (b : List Registered) (old new : Forms) → IsHeld (a ++ l ∷ b) old → Rise (a ++ l ∷ b) → form l.1 ≡ l.1
    → ((q : Query) → numbers new q ≡ cond (share_form q l.1) (without_number l.0 (numbers old q)) (numbers old q)) → count new + 1 ≡ count old
    → IsHeld (a ++ b) new
less_held a l b old new held rise own less one = record {
  numbers = λ q. less q ∙ (λ i. cond (shares q l.1 own i) (without_number l.0 (held.numbers q i)) (held.numbers q i)) ∙ numbers_less a l b (form q) rise;
  count =
      let all : length (a ++ l ∷ b) ≡ length a + suc (length b) = length-append a (l ∷ b) in
      let two : length (a ++ b) ≡ length a + length b = length-append a b in
      omega (arith, one, held.count, all, two);
}

-- it is there
pub there_of : (a : List Registered) (l : Registered) (b : List Registered) (forms : Forms) → IsHeld (a ++ l ∷ b) forms → form l.1 ≡ l.1
    → list_any (λ m. m == l.0) (numbers forms l.1) ≡ true
there_of a l b forms held own = ap (list_any (λ m. m == l.0)) (held.numbers l.1 ∙ ap (numbers_of (a ++ l ∷ b)) own) ∙ of_numbers l.1 (λ m. m == l.0) (a ++ l ∷ b)
    ∙ list_any_with (λ (x : Registered). query_eq x.1 l.1 && (x.0 == l.0)) (a ++ l ∷ b) l (middle a l b)
    (both (query_eq l.1 l.1) (l.0 == l.0) ((query_eq_tells l.1 l.1).1 refl) (eq-eqb l.0 l.0 refl))

-- ---- one after another

-- so many were looked at, and of them those that end are gone
abbrev pub walked : (Registered → Bool) → ℕ → List Registered → List Registered
walked ends i ls = left ends (take i ls) ++ drop i ls

-- what the tree keeps on the way
pub record IsWalked (ls : List Registered) (forms : Forms) : Type 0 where
  pub held : IsHeld ls forms
  pub rise : AllPairs (λ (l m : Registered). l.0 < m.0) ls
  pub own : All (λ (l : Registered). form l.1 ≡ l.1) ls

pub here_is : (ends : Registered → Bool) (ls : List Registered) (i : ℕ) (l : Registered) → i < length ls → l ≡ get_or ls i l
    → walked ends i ls ≡ left ends (take i ls) ++ l ∷ drop (i + 1) ls
here_is ends ls i l lt is = ap (λ z. left ends (take i ls) ++ z) (drop_more ls i l lt ∙ ap (λ x. x ∷ drop (i + 1) ls) (sym is))

next_is : (ends : Registered → Bool) (ls : List Registered) (i : ℕ) (l : Registered) → i < length ls → l ≡ get_or ls i l
    → walked ends (i + 1) ls ≡ (left ends (take i ls) ++ left ends (l ∷ [])) ++ drop (i + 1) ls
next_is ends ls i l lt is = ap (λ z. z ++ drop (i + 1) ls) (ap (left ends) (take_more ls i l lt ∙ ap (λ x. take i ls ++ x ∷ []) (sym is))
    ∙ filter-append (λ (x : Registered). not (ends x)) (take i ls) (l ∷ []))

pub next_ended : (ends : Registered → Bool) (ls : List Registered) (i : ℕ) (l : Registered) → i < length ls → l ≡ get_or ls i l → ends l ≡ true
    → walked ends (i + 1) ls ≡ left ends (take i ls) ++ drop (i + 1) ls
next_ended ends ls i l lt is e = next_is ends ls i l lt is
    ∙ ap (λ t. (left ends (take i ls) ++ cond (not t) (l ∷ []) []) ++ drop (i + 1) ls) e
    ∙ ap (λ z. z ++ drop (i + 1) ls) (append-nil (left ends (take i ls)))

pub next_left : (ends : Registered → Bool) (ls : List Registered) (i : ℕ) (l : Registered) → i < length ls → l ≡ get_or ls i l → ends l ≡ false
    → walked ends (i + 1) ls ≡ walked ends i ls
next_left ends ls i l lt is e = next_is ends ls i l lt is
    ∙ ap (λ t. (left ends (take i ls) ++ cond (not t) (l ∷ []) []) ++ drop (i + 1) ls) e
    ∙ append_assoc (left ends (take i ls)) (l ∷ []) (drop (i + 1) ls)
    ∙ sym (here_is ends ls i l lt is)

pub own_here : (a : List Registered) (l : Registered) (b : List Registered) → Own (a ++ l ∷ b) → form l.1 ≡ l.1
own_here a l b own = All-contains (λ (x : Registered). form x.1 ≡ x.1) (a ++ l ∷ b) l own (middle a l b)

-- one that ends is there
pub there_at : (ends : Registered → Bool) (ls : List Registered) (i : ℕ) (l : Registered) (forms : Forms) → i < length ls → l ≡ get_or ls i l
    → IsWalked (walked ends i ls) forms → list_any (λ m. m == l.0) (numbers forms l.1) ≡ true
there_at ends ls i l forms lt is w =
    let here = here_is ends ls i l lt is in
    there_of (left ends (take i ls)) l (drop (i + 1) ls) forms (subst (λ z. IsHeld z forms) here w.held)
    (own_here (left ends (take i ls)) l (drop (i + 1) ls) (subst Own here w.own))

-- and goes
pub step_ended : (ends : Registered → Bool) (ls : List Registered) (i : ℕ) (l : Registered) (old new : Forms) → i < length ls → l ≡ get_or ls i l → ends l ≡ true
    → IsWalked (walked ends i ls) old
    → ((q : Query) → numbers new q ≡ cond (share_form q l.1) (without_number l.0 (numbers old q)) (numbers old q)) → count new + 1 ≡ count old
    → IsWalked (walked ends (i + 1) ls) new
step_ended ends ls i l old new lt is e w less one =
    let here = here_is ends ls i l lt is in
    let a = left ends (take i ls) in
    let b = drop (i + 1) ls in
    let rise : Rise (a ++ l ∷ b) = subst Rise here w.rise in
    let own : Own (a ++ l ∷ b) = subst Own here w.own in
    subst (λ z. IsWalked z new) (sym (next_ended ends ls i l lt is e)) (record {
      held = less_held a l b old new (subst (λ z. IsHeld z old) here w.held) rise (own_here a l b own) less one;
      rise = less_rise a l b rise;
      own = less_own a l b rise own;
    })

-- another one stays
pub step_left : (ends : Registered → Bool) (ls : List Registered) (i : ℕ) (l : Registered) (old new : Forms) → i < length ls → l ≡ get_or ls i l → ends l ≡ false
    → IsWalked (walked ends i ls) old → new ≡ old → IsWalked (walked ends (i + 1) ls) new
step_left ends ls i l old new lt is e w same = subst (λ z. IsWalked z new) (sym (next_left ends ls i l lt is e)) (subst (IsWalked (walked ends i ls)) (sym same) w)

-- ---- the last, and one that goes again

-- one of a greater number than all stands behind them
with_last : (xs : List Registered) (x : Registered) (rest : List Registered) → Rise (xs ++ x ∷ rest) → with_listener xs x.0 x.1 ≡ xs ++ x ∷ []
with_last [] x rest rise = refl
with_last (y ∷ xs) x rest rise =
    let lt : y.0 < x.0 = All-contains (λ (z : Registered). y.0 < z.0) (xs ++ x ∷ rest) x (AllPairs-first (λ (w z : Registered). w.0 < z.0) y (xs ++ x ∷ rest) rise) (middle xs x rest) in
    (λ i. cond (lt_true y.0 x.0 lt i) (y ∷ filter (λ (z : Registered). nat_lt z.0 x.0) xs) (filter (λ (z : Registered). nat_lt z.0 x.0) xs)
    ++ x ∷ cond (lt_false x.0 y.0 (omega (arith, lt)) i) (y ∷ filter (λ (z : Registered). nat_lt x.0 z.0) xs) (filter (λ (z : Registered). nat_lt x.0 z.0) xs))
    ∙ ap (λ z. y ∷ z) (with_last xs x rest (AllPairs-rest (λ (w z : Registered). w.0 < z.0) y (xs ++ x ∷ rest) rise))

free_last : (xs : List Registered) (x : Registered) (rest : List Registered) → Rise (xs ++ x ∷ rest) → is_registered xs x.0 ≡ false
free_last [] x rest rise = refl
free_last (y ∷ xs) x rest rise =
    let lt : y.0 < x.0 = All-contains (λ (z : Registered). y.0 < z.0) (xs ++ x ∷ rest) x (AllPairs-first (λ (w z : Registered). w.0 < z.0) y (xs ++ x ∷ rest) rise) (middle xs x rest) in
    ap (λ t. t || is_registered xs x.0) (differ (y.0 == x.0) (λ t. omega (arith, lt, eqb-true y.0 x.0 t)))
    ∙ free_last xs x rest (AllPairs-rest (λ (w z : Registered). w.0 < z.0) y (xs ++ x ∷ rest) rise)
  where
    differ : (t : Bool) → (t ≡ true → ⊥) → t ≡ false
    differ true h = absurd (h refl)
    differ false h = refl

in_front : {X : Type 0} (xs ys : List X) (x : X) → Contains xs x → Contains (xs ++ ys) x
in_front [] ys x m = absurd (omega (arith, m.1))
in_front (y ∷ xs) ys x m = elim (Contains-cases y xs x m) [
  | inl e ↦ subst (Contains (y ∷ (xs ++ ys))) e (Contains-head y (xs ++ ys))
  | inr k ↦ Contains-later y (xs ++ ys) x (in_front xs ys x k)
]

front_rises : (xs ys : List Registered) → Rise (xs ++ ys) → Rise xs
front_rises [] ys rise = AllPairs-nil (λ (l m : Registered). l.0 < m.0)
front_rises (x ∷ xs) ys rise = AllPairs-cons (λ (l m : Registered). l.0 < m.0) x xs
    (All-from_contained (λ (y : Registered). x.0 < y.0) xs (λ y m.
    All-contains (λ (z : Registered). x.0 < z.0) (xs ++ ys) y (AllPairs-first (λ (l m : Registered). l.0 < m.0) x (xs ++ ys) rise) (in_front xs ys y m)))
    (front_rises xs ys (AllPairs-rest (λ (l m : Registered). l.0 < m.0) x (xs ++ ys) rise))

-- so many were copied
pub record IsNext (ls : List Registered) (i : ℕ) (l : Registered) : Type 0 where
  pub rise : AllPairs (λ (x y : Registered). x.0 < y.0) (take i ls)
  pub free : is_registered (take i ls) l.0 ≡ false
  pub more : with_listener (take i ls) l.0 l.1 ≡ take (i + 1) ls

pub is_next : (ls : List Registered) (i : ℕ) (l : Registered) → Rise ls → i < length ls → l ≡ get_or ls i l → IsNext ls i l
is_next ls i l rise lt is = record {
  rise = front_rises (take i ls) (l ∷ drop (i + 1) ls) all;
  free = free_last (take i ls) l (drop (i + 1) ls) all;
  more = with_last (take i ls) l (drop (i + 1) ls) all ∙ sym (take_more ls i l lt ∙ ap (λ x. take i ls ++ x ∷ []) (sym is));
}
  where
    all : Rise (take i ls ++ l ∷ drop (i + 1) ls)
    all = subst (AllPairs (λ (x y : Registered). x.0 < y.0))
        (sym (take-append-drop i ls) ∙ ap (λ z. take i ls ++ z) (drop_more ls i l lt ∙ ap (λ x. x ∷ drop (i + 1) ls) (sym is))) rise

-- with one more all have forms
pub with_own : (ls : List Registered) (n : ℕ) (f : Query) → Own ls → form f ≡ f → Own (with_listener ls n f)
with_own ls n f own is = subst (λ g. Own (with_listener ls n g)) is (with_listener_forms ls n f own)

-- a listener that came goes again
pub taken_back : (ls : List Registered) (n : ℕ) (f : Query) → Rise ls → is_registered ls n ≡ false
    → left (λ (l : Registered). list_any (λ m. m == l.0) (n ∷ [])) (with_listener ls n f) ≡ ls
taken_back ls n f rise free =
    filter_agreeing (λ (l : Registered). not ((n == l.0) || false)) (λ (l : Registered). not (l.0 == n)) (with_listener ls n f)
    (All-from_contained (λ (l : Registered). not ((n == l.0) || false) ≡ not (l.0 == n)) (with_listener ls n f) (λ l m. ap not (same n l.0)))
    ∙ without_one (filter (λ (l : Registered). nat_lt l.0 n) ls) (n, f) (filter (λ (l : Registered). nat_lt n l.0) ls) (with_listener_rises ls n f rise)
    ∙ halves n ls rise free
  where
    same : (m k : ℕ) → ((m == k) || false) ≡ (k == m)
    same m k = same_tests ((m == k) || false) (k == m)
        (λ e. eq-eqb k m (sym (eqb-true m k (or_no (m == k) e))))
        (λ e. ap (λ b. b || false) (eq-eqb m k (sym (eqb-true k m e))))
      where
        or_no : (b : Bool) → (b || false) ≡ true → b ≡ true
        or_no true e = refl
        or_no false e = e

-- ---- all of a form

-- its numbers are of its listeners alone
of_form : (ls : List Registered) → Rise ls → (f : Query) (l : Registered) → Contains ls l → list_any (λ n. n == l.0) (numbers_of ls f) ≡ query_eq l.1 f
of_form ls rise f l m = of_numbers f (λ n. n == l.0) ls
    ∙ same_tests (list_any (λ (x : Registered). query_eq x.1 f && (x.0 == l.0)) ls) (query_eq l.1 f)
    (λ e.
    let a = Any-from_list_any (λ (x : Registered). query_eq x.1 f && (x.0 == l.0)) ls e in
    let at : (a.1).0 ≡ l.0 = eqb-true (a.1).0 l.0 (both_second (query_eq (a.1).1 f) ((a.1).0 == l.0) a.4) in
    let is : a.1 ≡ l = elim (AllPairs-three (λ (x y : Registered). x.0 < y.0) ls a.1 l rise (a.0, a.2, a.3) m) [
      | inl lt ↦ absurd (omega (arith, lt, at))
      | inr r ↦ elim r [ inl lt ↦ absurd (omega (arith, lt, at)) | inr e ↦ e ]
    ] in
    subst (λ (x : Registered). query_eq x.1 f ≡ true) is (both_first (query_eq (a.1).1 f) ((a.1).0 == l.0) a.4))
    (λ e. list_any_with (λ (x : Registered). query_eq x.1 f && (x.0 == l.0)) ls l m (both (query_eq l.1 f) (l.0 == l.0) e (eq-eqb l.0 l.0 refl)))

-- so their end is that of the form
pub form_left : (ls : List Registered) → Rise ls → (f : Query)
    → left (λ (l : Registered). list_any (λ n. n == l.0) (numbers_of ls f)) ls ≡ without_form ls f
form_left ls rise f = filter_agreeing (λ (l : Registered). not (list_any (λ n. n == l.0) (numbers_of ls f))) (λ (l : Registered). not (query_eq l.1 f)) ls
    (All-from_contained (λ (l : Registered). not (list_any (λ n. n == l.0) (numbers_of ls f)) ≡ not (query_eq l.1 f)) ls (λ l m. ap not (of_form ls rise f l m)))

form_lost : (ls : List Registered) → Rise ls → (f : Query) (kept : List Tagged)
    → lost (λ (l : Registered). list_any (λ n. n == l.0) (numbers_of ls f)) kept ls ≡ lost (λ (l : Registered). query_eq l.1 f) kept ls
form_lost ls rise f kept = filter_agreeing (λ (k : Tagged). not (is_left_form (λ (l : Registered). list_any (λ n. n == l.0) (numbers_of ls f)) ls k.form))
    (λ (k : Tagged). not (is_left_form (λ (l : Registered). query_eq l.1 f) ls k.form)) kept
    (All-from_contained (λ (k : Tagged). not (is_left_form (λ (l : Registered). list_any (λ n. n == l.0) (numbers_of ls f)) ls k.form)
    ≡ not (is_left_form (λ (l : Registered). query_eq l.1 f) ls k.form)) kept (λ k _. ap not
    (list_any_agreed (λ (l : Registered). query_eq l.1 k.form && not (list_any (λ n. n == l.0) (numbers_of ls f))) (λ (l : Registered). query_eq l.1 k.form && not (query_eq l.1 f)) ls
    (λ l m. ap (λ b. query_eq l.1 k.form && not b) (of_form ls rise f l m)))))

-- of a kept tag
pub tag_left : (c : Cover) → IsSound c → (tag : ℕ) (ended : List ℕ) → ended ≡ ended_by c tag → is_some (listen_at c tag) ≡ true
    → left (λ (l : Registered). list_any (λ n. n == l.0) ended) c.listeners ≡ left_after c tag
tag_left c s tag ended is known =
    (λ i. left (λ (l : Registered). list_any (λ n. n == l.0) (is i)) c.listeners)
    ∙ by (listen_at c tag) known
  where
    by : (o : Option Tagged) → is_some o ≡ true
        → left (λ (l : Registered). list_any (λ n. n == l.0) (option_map_or (λ (k : Tagged). numbers_of c.listeners k.form) o [])) c.listeners
        ≡ option_map_or (λ (k : Tagged). without_form c.listeners k.form) o c.listeners
    by None h = absurd (true≢false (sym h))
    by (Some k) h = form_left c.listeners s.listeners k.form

pub tag_lost : (c : Cover) → IsSound c → (tag : ℕ) (ended : List ℕ) → ended ≡ ended_by c tag → is_some (listen_at c tag) ≡ true
    → tag ∷ [] ≡ map (λ (k : Tagged). k.tag) (lost (λ (l : Registered). list_any (λ n. n == l.0) ended) c.kept c.listeners)
tag_lost c s tag ended is known =
    by (listen_at c tag) refl known
    ∙ (λ i. map (λ (k : Tagged). k.tag) (lost (λ (l : Registered). list_any (λ n. n == l.0) (sym is i)) c.kept c.listeners))
  where
    by : (o : Option Tagged) → listen_at c tag ≡ o → is_some o ≡ true
        → tag ∷ [] ≡ map (λ (k : Tagged). k.tag) (lost (λ (l : Registered). list_any (λ n. n == l.0) (ended_by c tag)) c.kept c.listeners)
    by None e h = absurd (true≢false (sym h))
    by (Some k) e h =
        lost_of_form c s k.form tag (known_tag c.kept tag k.form (ap (option_map (λ (x : Tagged). x.form)) e))
        ∙ ap (map (λ (x : Tagged). x.tag)) (sym (form_lost c.listeners s.listeners k.form c.kept))
        ∙ (λ i. map (λ (x : Tagged). x.tag) (lost (λ (l : Registered). list_any (λ n. n == l.0) (option_map_or (λ (x : Tagged). numbers_of c.listeners x.form) (sym e i) [])) c.kept c.listeners))

-- ---- one of them

pub own_at : (ls : List Registered) → Own ls → (n : ℕ) (l : Registered) → find (λ (x : Registered). x.0 == n) ls ≡ Some l → form l.1 ≡ l.1
own_at ls own n l e = All-contains (λ (x : Registered). form x.1 ≡ x.1) ls l own (found_number ls n l e).0

-- the form of a kept listen
pub kept_own : (c : Cover) → IsSound c → (tag : ℕ) (k : Tagged) → find (λ (j : Tagged). j.tag == tag) c.kept ≡ Some k → form k.form ≡ k.form
kept_own c s tag k e = kept_is_form c s k (found_tag c.kept tag k e)
  where
    found_tag : (ks : List Tagged) (t : ℕ) (x : Tagged) → find (λ (j : Tagged). j.tag == t) ks ≡ Some x → Contains ks x
    found_tag [] t x e = cc
    found_tag (j ∷ ks) t x e = elim (j.tag == t) as (λ b. cond b (Some j) (find (λ (y : Tagged). y.tag == t) ks) ≡ Some x → Contains (j ∷ ks) x) [
      | true ↦ λ f. subst (Contains (j ∷ ks)) (ap (λ o. option_map_or (λ (y : Tagged). y) o j) f) (Contains-head j ks)
      | false ↦ λ f. Contains-later j ks x (found_tag ks t x f)
    ] e

-- those of all of them
pub all_own : (c : Cover) → IsSound c → All (λ (k : Tagged). form k.form ≡ k.form) c.kept
all_own c s = All-from_contained (λ (k : Tagged). form k.form ≡ k.form) c.kept (kept_is_form c s)
