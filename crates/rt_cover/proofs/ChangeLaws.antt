-- What the end of some listeners loses and starts, as the code finds it: by the numbers of those that
-- end, and by the paths of the listens that are lost.
use Rattle.std.proofs.Common.{◌≡◌, ◌≢◌, ℕ, ◌<◌, ◌≤◌, ◌==◌, nat_lt, Bool, true, false, cond, not, ◌&&◌, ◌||◌, inl, inr, List, [], ◌∷◌, map, refl, sym, ap, subst, ◌∙◌, arith, ltb-true, eqb-true, eq-eqb, Option, Some, None, IfSome, IfNone}
use mathlib.Core.Bool.{true≢false}
use Rattle.std.specs.List.{filter, find, list_any, AllPairs, Contains}
use Rattle.std.specs.Option.{option_map, option_map_or}
use Rattle.std.proofs.lemmas.Bool.Decides.{nat_tests}
use Rattle.std.proofs.lemmas.List.Elements.{All-contains}
use Rattle.std.proofs.lemmas.List.Folds.{Any-from_list_any, list_any_none}
use Rattle.std.proofs.lemmas.List.Kept.{AllPairs-filter}
use Rattle.rt_tree.specs.TreeEq.{both, both_first, both_second}
use Rattle.rt_query.specs.Queries.{Query}
use Rattle.rt_query.specs.QueryEq.{query_eq}
use Rattle.rt_query.specs.Supply.{form, does_supply}
use Rattle.rt_query.specs.laws.QueryEq.{query_eq_tells}
use Rattle.rt_cover.specs.Cover.{Registered, Tagged, forms, first_listener}
use Rattle.rt_cover.specs.State.{Cover}
use Rattle.rt_cover.specs.inside.Endings.{is_replaced, starts, is_left_form, is_first, is_lost_by, lost, beginners, begins_after}
use Rattle.rt_cover.specs.inside.Picked.{picked}
use Rattle.rt_cover.specs.inside.Sound.{IsSound}
use Rattle.rt_cover.specs.laws.CoverLaws.{Contains-filter, Contains-from_filter}
use Rattle.rt_cover.specs.laws.FormLaws.{same_tests}
use Rattle.rt_cover.specs.laws.Pairs.{Contains-head, Contains-later, AllPairs-map, AllPairs-three, All-from_contained}
use Rattle.rt_cover.specs.laws.ShownLaws.{found, first_least, form_in}
use Rattle.rt_cover.proofs.StartLaws.{list_any_with, list_any_agreeing, list_any_either, list_any_filtered}
use Rattle.rt_cover.proofs.EndLaws.{starts_as, lost_by_ended}
use Rattle.rt_cover.proofs.NewLaws.{kept_registered}
use Rattle.rt_cover.proofs.PickLaws.{rising_any, picked_same}
use Rattle.rt_cover.proofs.ByPathLaws.{list_any_agreed}

-- ---- tests of lists

fails : (b : Bool) → (b ≡ true → ⊥) → b ≡ false
fails true h = absurd (h refl)
fails false h = refl

not_true : (b : Bool) → not b ≡ true → b ≡ false
not_true true e = absurd (true≢false (sym e))
not_true false e = refl

-- what a test has beside it
pub list_any_beside : {X : Type 0} (p : X → Bool) (b : Bool) (xs : List X) → list_any (λ x. p x && b) xs ≡ (list_any p xs && b)
list_any_beside p b [] = refl
list_any_beside p b (x ∷ xs) = ap (λ r. (p x && b) || r) (list_any_beside p b xs) ∙ spread (p x) (list_any p xs) b
  where
    spread : (a c d : Bool) → ((a && d) || (c && d)) ≡ ((a || c) && d)
    spread true true true = refl
    spread true true false = refl
    spread true false true = refl
    spread true false false = refl
    spread false c d = refl

-- two lists, one after the other
pub list_any_swapped : {X Y : Type 0} (f : X → Y → Bool) (xs : List X) (ys : List Y)
    → list_any (λ x. list_any (f x) ys) xs ≡ list_any (λ y. list_any (λ x. f x y) xs) ys
list_any_swapped {Y = Y} f [] ys = sym (list_any_none (λ (y : Y). false) ys (λ k d lt. refl))
list_any_swapped f (x ∷ xs) ys = ap (λ r. list_any (f x) ys || r) (list_any_swapped f xs ys) ∙ sym (list_any_either (f x) (λ y. list_any (λ z. f z y) xs) ys)

pub list_any_map : {X Y : Type 0} (f : X → Y) (p : Y → Bool) (xs : List X) → list_any p (map f xs) ≡ list_any (λ x. p (f x)) xs
list_any_map f p [] = refl
list_any_map f p (x ∷ xs) = ap (λ r. p (f x) || r) (list_any_map f p xs)

never : {X : Type 0} (p : X → Bool) (xs : List X) → ((x : X) → Contains xs x → p x ≡ false) → list_any p xs ≡ false
never {X = X} p xs h = list_any_none p xs (All-from_contained (λ (x : X). p x ≡ false) xs h)

and_assoc : (a b c : Bool) → ((a && b) && c) ≡ (a && (b && c))
and_assoc true b c = refl
and_assoc false b c = refl

and_no : (a : Bool) → (a && false) ≡ false
and_no true = refl
and_no false = refl

turned : (f g : Query) → query_eq f g ≡ query_eq g f
turned f g = same_tests (query_eq f g) (query_eq g f) (λ e. (query_eq_tells g f).1 (sym ((query_eq_tells f g).0 e))) (λ e. (query_eq_tells f g).1 (sym ((query_eq_tells g f).0 e)))

same_number : (m n : ℕ) → (m == n) ≡ (n == m)
same_number m n = grind (arith, nat_tests)

-- ---- the tags of the lost listens

-- of kept forms each is kept once, so a test of those of a form is one of its tag
pub of_one_tag : (kept : List Tagged) → AllPairs (λ (j k : Tagged). j.form ≢ k.form) kept → (f : Query) (t : ℕ)
    → list_any (λ (k : Tagged). query_eq k.form f && k.tag == t) kept ≡ true → (p : ℕ → Bool)
    → list_any (λ (k : Tagged). query_eq k.form f && p k.tag) kept ≡ p t
of_one_tag kept once f t e p = same_tests (list_any (λ (k : Tagged). query_eq k.form f && p k.tag) kept) (p t) there back
  where
    one : (j : Tagged) × Contains kept j × (j.form ≡ f) × (j.tag ≡ t)
    one =
        let a = Any-from_list_any (λ (k : Tagged). query_eq k.form f && k.tag == t) kept e in
        (a.1, (a.0, a.2, a.3), (query_eq_tells (a.1).form f).0 (both_first (query_eq (a.1).form f) ((a.1).tag == t) a.4), eqb-true (a.1).tag t (both_second (query_eq (a.1).form f) ((a.1).tag == t) a.4))

    there : list_any (λ (k : Tagged). query_eq k.form f && p k.tag) kept ≡ true → p t ≡ true
    there h =
        let a = Any-from_list_any (λ (k : Tagged). query_eq k.form f && p k.tag) kept h in
        let same : (a.1).form ≡ f = (query_eq_tells (a.1).form f).0 (both_first (query_eq (a.1).form f) (p (a.1).tag) a.4) in
        let is : a.1 ≡ one.0 = elim (AllPairs-three (λ (x y : Tagged). x.form ≢ y.form) kept a.1 one.0 once (a.0, a.2, a.3) one.1) [
          | inl n ↦ absurd (n (same ∙ sym one.2))
          | inr r ↦ elim r [ inl n ↦ absurd (n (one.2 ∙ sym same)) | inr is ↦ is ]
        ] in
        ap p (sym one.3 ∙ ap (λ (x : Tagged). x.tag) (sym is)) ∙ both_second (query_eq (a.1).form f) (p (a.1).tag) a.4

    back : p t ≡ true → list_any (λ (k : Tagged). query_eq k.form f && p k.tag) kept ≡ true
    back h = list_any_with (λ (k : Tagged). query_eq k.form f && p k.tag) kept one.0 one.1
        (both (query_eq (one.0).form f) (p (one.0).tag) ((query_eq_tells (one.0).form f).1 one.2) (ap p one.3 ∙ h))

-- no listener has the number
pub none_lost_by : (ends : Registered → Bool) (kept : List Tagged) (ls : List Registered) (p : ℕ → Bool) (n : ℕ)
    → find (λ (l : Registered). l.0 == n) ls ≡ None → list_any (is_lost_by ends ls p n) kept ≡ false
none_lost_by ends kept ls p n e = never (is_lost_by ends ls p n) kept (λ k _.
    ap (λ b. b && (not (is_left_form ends ls k.form) && p k.tag)) (missing (λ l. query_eq l.1 k.form && is_first ls l) ls e))
  where
    missing : (t : Registered → Bool) (xs : List Registered) → find (λ (l : Registered). l.0 == n) xs ≡ None → list_any (λ (l : Registered). n == l.0 && t l) xs ≡ false
    missing t [] h = refl
    missing t (x ∷ xs) h = elim (x.0 == n) as (λ b. (x.0 == n) ≡ b → cond b (Some x) (find (λ (l : Registered). l.0 == n) xs) ≡ None → list_any (λ (l : Registered). n == l.0 && t l) (x ∷ xs) ≡ false) [
      | true ↦ λ u f. cc
      | false ↦ λ u f. (λ i. ((same_number n x.0 ∙ u) i && t x) || list_any (λ (l : Registered). n == l.0 && t l) xs) ∙ missing t xs f
    ] refl h

-- the one that has it
has_number : (ls : List Registered) → AllPairs (λ (x y : Registered). x.0 < y.0) ls → (n : ℕ) (l : Registered) → Contains ls l → l.0 ≡ n
    → (t : Registered → Bool) → list_any (λ (m : Registered). n == m.0 && t m) ls ≡ t l
has_number ls rise n l m is t = same_tests (list_any (λ (x : Registered). n == x.0 && t x) ls) (t l)
    (λ e.
    let a = Any-from_list_any (λ (x : Registered). n == x.0 && t x) ls e in
    let at : n ≡ (a.1).0 = eqb-true n (a.1).0 (both_first (n == (a.1).0) (t a.1) a.4) in
    let same : a.1 ≡ l = elim (AllPairs-three (λ (x y : Registered). x.0 < y.0) ls a.1 l rise (a.0, a.2, a.3) m) [
      | inl lt ↦ absurd (omega (arith, lt, at, is))
      | inr r ↦ elim r [ inl lt ↦ absurd (omega (arith, lt, at, is)) | inr e ↦ e ]
    ] in
    subst (λ (x : Registered). t x ≡ true) same (both_second (n == (a.1).0) (t a.1) a.4))
    (λ e. list_any_with (λ (x : Registered). n == x.0 && t x) ls l m (both (n == l.0) (t l) (eq-eqb n l.0 (sym is)) e))

pub found_number : (ls : List Registered) (n : ℕ) (l : Registered) → find (λ (x : Registered). x.0 == n) ls ≡ Some l → Contains ls l × (l.0 ≡ n)
found_number [] n l e = cc
found_number (x ∷ xs) n l e = elim (x.0 == n) as (λ b. (x.0 == n) ≡ b → cond b (Some x) (find (λ (y : Registered). y.0 == n) xs) ≡ Some l → Contains (x ∷ xs) l × (l.0 ≡ n)) [
  | true ↦ λ t f. let is : x ≡ l = ap (λ o. option_map_or (λ (y : Registered). y) o x) f in
      (subst (Contains (x ∷ xs)) is (Contains-head x xs), sym (ap (λ (y : Registered). y.0) is) ∙ eqb-true x.0 n t)
  | false ↦ λ t f. let r = found_number xs n l f in (Contains-later x xs l r.0, r.1)
] refl e

-- of the form and the first of it
abbrev of_first : List Registered → Tagged → Registered → Bool
of_first ls k l = query_eq l.1 k.form && is_first ls l

-- it is not the first of its form
pub seen_lost_by : (c : Cover) → IsSound c → (ends : Registered → Bool) (p : ℕ → Bool) (n : ℕ) (l : Registered)
    → find (λ (x : Registered). x.0 == n) c.listeners ≡ Some l → is_first c.listeners l ≡ false
    → list_any (is_lost_by ends c.listeners p n) c.kept ≡ false
seen_lost_by c s ends p n l e later = never (is_lost_by ends c.listeners p n) c.kept (λ k _.
    let r = found_number c.listeners n l e in
    ap (λ b. b && (not (is_left_form ends c.listeners k.form) && p k.tag))
    (has_number c.listeners s.listeners n l r.0 r.1 (of_first c.listeners k) ∙ ap (λ b. query_eq l.1 k.form && b) later ∙ and_no (query_eq l.1 k.form)))

-- a left listener has its form
pub left_lost_by : (c : Cover) → IsSound c → (ends : Registered → Bool) (p : ℕ → Bool) (n : ℕ) (l : Registered)
    → find (λ (x : Registered). x.0 == n) c.listeners ≡ Some l → is_left_form ends c.listeners l.1 ≡ true
    → list_any (is_lost_by ends c.listeners p n) c.kept ≡ false
left_lost_by c s ends p n l e left = never (is_lost_by ends c.listeners p n) c.kept (λ k _.
    let r = found_number c.listeners n l e in
    let here : Bool = list_any (λ (x : Registered). n == x.0 && of_first c.listeners k x) c.listeners in
    fails (is_lost_by ends c.listeners p n k) (λ t.
    let same : l.1 ≡ k.form = (query_eq_tells l.1 k.form).0 (both_first (query_eq l.1 k.form) (is_first c.listeners l)
    (sym (has_number c.listeners s.listeners n l r.0 r.1 (of_first c.listeners k))
    ∙ both_first here (not (is_left_form ends c.listeners k.form) && p k.tag) t)) in
    let out : is_left_form ends c.listeners k.form ≡ false = not_true (is_left_form ends c.listeners k.form) (both_first (not (is_left_form ends c.listeners k.form)) (p k.tag)
    (both_second here (not (is_left_form ends c.listeners k.form) && p k.tag) t)) in
    true≢false (sym left ∙ ap (is_left_form ends c.listeners) same ∙ out)))

-- it is the first, and none is left: its form's listen, where one is kept
pub is_lost_tag : (c : Cover) → IsSound c → (ends : Registered → Bool) (p : ℕ → Bool) (n : ℕ) (l : Registered)
    → find (λ (x : Registered). x.0 == n) c.listeners ≡ Some l → is_first c.listeners l ≡ true → is_left_form ends c.listeners l.1 ≡ false
    → list_any (is_lost_by ends c.listeners p n) c.kept ≡ list_any (λ (k : Tagged). query_eq k.form l.1 && p k.tag) c.kept
is_lost_tag c s ends p n l e first out = list_any_agreeing (is_lost_by ends c.listeners p n) (λ (k : Tagged). query_eq k.form l.1 && p k.tag) c.kept each
  where
    and_yes : (a : Bool) → (a && true) ≡ a
    and_yes true = refl
    and_yes false = refl

    each : (k : Tagged) → is_lost_by ends c.listeners p n k ≡ (query_eq k.form l.1 && p k.tag)
    each k =
        let r = found_number c.listeners n l e in
        (λ i. (has_number c.listeners s.listeners n l r.0 r.1 (of_first c.listeners k) ∙ ap (λ b. query_eq l.1 k.form && b) first
        ∙ and_yes (query_eq l.1 k.form) ∙ turned l.1 k.form) i && (not (is_left_form ends c.listeners k.form) && p k.tag))
        ∙ elim (query_eq k.form l.1) as (λ b. query_eq k.form l.1 ≡ b → (b && (not (is_left_form ends c.listeners k.form) && p k.tag)) ≡ (b && p k.tag)) [
          | true ↦ λ t. ap (λ b. not b && p k.tag) (ap (is_left_form ends c.listeners) ((query_eq_tells k.form l.1).0 t) ∙ out)
          | false ↦ λ _. refl
        ] refl

-- so the tag that is found of its form tells it
pub lost_tag_is : (c : Cover) → IsSound c → (ends : Registered → Bool) (p : ℕ → Bool) (n : ℕ) (l : Registered)
    → find (λ (x : Registered). x.0 == n) c.listeners ≡ Some l → is_first c.listeners l ≡ true → is_left_form ends c.listeners l.1 ≡ false → (o : Option ℕ)
    → IfSome o (λ t. list_any (λ (k : Tagged). query_eq k.form l.1 && k.tag == t) c.kept ≡ true)
    → IfNone o (list_any (λ (k : Tagged). query_eq k.form l.1) c.kept ≡ false)
    → option_map_or p o false ≡ list_any (is_lost_by ends c.listeners p n) c.kept
lost_tag_is c s ends p n l e first out (Some t) some none = sym (is_lost_tag c s ends p n l e first out ∙ of_one_tag c.kept s.once l.1 t some p)
lost_tag_is c s ends p n l e first out None some none = sym (is_lost_tag c s ends p n l e first out
    ∙ never (λ (k : Tagged). query_eq k.form l.1 && p k.tag) c.kept (λ k m. fails (query_eq k.form l.1 && p k.tag) (λ t.
    true≢false (sym (list_any_with (λ (x : Tagged). query_eq x.form l.1) c.kept k m (both_first (query_eq k.form l.1) (p k.tag) t)) ∙ none))))

-- all numbers: the lost ones
pub lost_by_numbers : (c : Cover) → IsSound c → (ns : List ℕ) (p : ℕ → Bool)
    → list_any (λ n. list_any (is_lost_by (λ (l : Registered). list_any (λ m. m == l.0) ns) c.listeners p n) c.kept) ns
    ≡ list_any p (map (λ (k : Tagged). k.tag) (lost (λ (l : Registered). list_any (λ m. m == l.0) ns) c.kept c.listeners))
lost_by_numbers c s ns p =
    list_any_swapped (λ n k. is_lost_by ends c.listeners p n k) ns c.kept
    ∙ list_any_agreeing (λ (k : Tagged). list_any (λ n. is_lost_by ends c.listeners p n k) ns) (λ (k : Tagged). (ended k && out k) && p k.tag) c.kept each
    ∙ list_any_filtered (λ (k : Tagged). ended k && out k) (λ (k : Tagged). p k.tag) c.kept
    ∙ ap (list_any (λ (k : Tagged). p k.tag)) (lost_by_ended c s ends)
    ∙ sym (list_any_map (λ (k : Tagged). k.tag) p (lost ends c.kept c.listeners))
  where
    ends : Registered → Bool
    ends l = list_any (λ m. m == l.0) ns

    ended : Tagged → Bool
    ended k = list_any (λ (l : Registered). query_eq l.1 k.form) (filter ends c.listeners)

    out : Tagged → Bool
    out k = not (is_left_form ends c.listeners k.form)

    -- the first of a form of which none is left is among those that end
    first_ends : (k : Tagged) → (list_any (λ (l : Registered). ends l && of_first c.listeners k l) c.listeners && out k) ≡ (ended k && out k)
    first_ends k = same_tests (list_any (λ (l : Registered). ends l && of_first c.listeners k l) c.listeners && out k) (ended k && out k)
        (λ e.
        let a = Any-from_list_any (λ (l : Registered). ends l && of_first c.listeners k l) c.listeners (both_first (list_any (λ (l : Registered). ends l && of_first c.listeners k l) c.listeners) (out k) e) in
        both (ended k) (out k)
        (list_any_with (λ (l : Registered). query_eq l.1 k.form) (filter ends c.listeners) a.1
        (Contains-filter ends c.listeners a.1 (a.0, a.2, a.3) (both_first (ends a.1) (of_first c.listeners k a.1) a.4))
        (both_first (query_eq (a.1).1 k.form) (is_first c.listeners a.1) (both_second (ends a.1) (of_first c.listeners k a.1) a.4)))
        (both_second (list_any (λ (l : Registered). ends l && of_first c.listeners k l) c.listeners) (out k) e))
        (λ e.
        let a = Any-from_list_any (λ (l : Registered). query_eq l.1 k.form) (filter ends c.listeners) (both_first (ended k) (out k) e) in
        let gone : out k ≡ true = both_second (ended k) (out k) e in
        let m : Contains c.listeners a.1 = Contains-from_filter ends c.listeners a.1 (a.0, a.2, a.3) in
        let r = found c.listeners k.form (subst (Contains (forms c.listeners)) ((query_eq_tells (a.1).1 k.form).0 a.4) (form_in c.listeners a.1 m)) in
        both (list_any (λ (l : Registered). ends l && of_first c.listeners k l) c.listeners) (out k)
        (list_any_with (λ (l : Registered). ends l && of_first c.listeners k l) c.listeners r.0 r.1
        (both (ends r.0) (of_first c.listeners k r.0)
        (not_fails (ends r.0) (λ stays. true≢false (sym (list_any_with (λ (l : Registered). query_eq l.1 k.form && not (ends l)) c.listeners r.0 r.1
        (both (query_eq (r.0).1 k.form) (not (ends r.0)) ((query_eq_tells (r.0).1 k.form).1 r.2) (ap not stays)))
        ∙ not_true (is_left_form ends c.listeners k.form) gone)))
        (both (query_eq (r.0).1 k.form) (is_first c.listeners r.0) ((query_eq_tells (r.0).1 k.form).1 r.2)
        (ap not (fails (list_any (λ (x : Registered). query_eq x.1 (r.0).1 && nat_lt x.0 (r.0).0) c.listeners) (λ t.
        let b = Any-from_list_any (λ (x : Registered). query_eq x.1 (r.0).1 && nat_lt x.0 (r.0).0) c.listeners t in
        let same : (b.1).1 ≡ k.form = (query_eq_tells (b.1).1 (r.0).1).0 (both_first (query_eq (b.1).1 (r.0).1) (nat_lt (b.1).0 (r.0).0) b.4) ∙ r.2 in
        let less : (b.1).0 < (r.0).0 = ltb-true (b.1).0 (r.0).0 (both_second (query_eq (b.1).1 (r.0).1) (nat_lt (b.1).0 (r.0).0) b.4) in
        let least : first_listener c.listeners k.form ≤ (b.1).0 =
        All-contains (λ (x : Registered). x.1 ≡ k.form → first_listener c.listeners k.form ≤ x.0) c.listeners b.1 (first_least c.listeners k.form s.listeners) (b.0, b.2, b.3) same in
        omega (arith, less, least, r.3)))))))
        gone)
      where
        not_fails : (b : Bool) → (b ≡ false → ⊥) → b ≡ true
        not_fails true h = refl
        not_fails false h = absurd (h refl)

    each : (k : Tagged) → list_any (λ n. is_lost_by ends c.listeners p n k) ns ≡ ((ended k && out k) && p k.tag)
    each k = list_any_beside (λ n. list_any (λ (l : Registered). n == l.0 && of_first c.listeners k l) c.listeners) (out k && p k.tag) ns
        ∙ ap (λ b. b && (out k && p k.tag))
        (list_any_swapped (λ n (l : Registered). n == l.0 && of_first c.listeners k l) ns c.listeners
        ∙ list_any_agreeing (λ (l : Registered). list_any (λ n. n == l.0 && of_first c.listeners k l) ns) (λ (l : Registered). ends l && of_first c.listeners k l) c.listeners
        (λ l. list_any_beside (λ n. n == l.0) (of_first c.listeners k l) ns))
        ∙ sym (and_assoc (list_any (λ (l : Registered). ends l && of_first c.listeners k l) c.listeners) (out k) (p k.tag))
        ∙ ap (λ b. b && p k.tag) (first_ends k)

lost_rises : (c : Cover) → IsSound c → (ends : Registered → Bool) → AllPairs (λ (j k : Tagged). j.tag < k.tag) (lost ends c.kept c.listeners)
lost_rises c s ends = AllPairs-filter (λ (j k : Tagged). j.tag < k.tag) (λ (k : Tagged). not (is_left_form ends c.listeners k.form)) c.kept s.tags

-- tags in order are those of the lost listens
pub lost_tags : (c : Cover) → IsSound c → (ends : Registered → Bool) (tags : List ℕ) → AllPairs (λ a b. a < b) tags
    → ((p : ℕ → Bool) → list_any p tags ≡ list_any p (map (λ (k : Tagged). k.tag) (lost ends c.kept c.listeners)))
    → tags ≡ map (λ (k : Tagged). k.tag) (lost ends c.kept c.listeners)
lost_tags c s ends tags up h = rising_any tags (map (λ (k : Tagged). k.tag) (lost ends c.kept c.listeners)) up
    (AllPairs-map (λ (k : Tagged). k.tag) (λ a b. a < b) (lost ends c.kept c.listeners) (lost_rises c s ends))
    (λ n. h (λ m. m == n))

-- by which they are found
pub lost_picked : (c : Cover) → IsSound c → (ends : Registered → Bool)
    → picked (λ (k : Tagged). k.tag) c.kept (map (λ (k : Tagged). k.tag) (lost ends c.kept c.listeners)) ≡ lost ends c.kept c.listeners
lost_picked c s ends = picked_same (λ (k : Tagged). k.tag) c.kept (lost ends c.kept c.listeners) s.tags
    (All-from_contained (Contains c.kept) (lost ends c.kept c.listeners) (λ k m. Contains-from_filter (λ (x : Tagged). not (is_left_form ends c.listeners x.form)) c.kept k m))

-- a tag's form is kept under it
pub known_tag : (ks : List Tagged) (t : ℕ) (f : Query) → option_map (λ (k : Tagged). k.form) (find (λ (k : Tagged). k.tag == t) ks) ≡ Some f
    → list_any (λ (k : Tagged). query_eq k.form f && k.tag == t) ks ≡ true
known_tag [] t f e = cc
known_tag (k ∷ ks) t f e = elim (k.tag == t) as (λ b. option_map (λ (x : Tagged). x.form) (cond b (Some k) (find (λ (x : Tagged). x.tag == t) ks)) ≡ Some f
    → ((query_eq k.form f && b) || list_any (λ (x : Tagged). query_eq x.form f && x.tag == t) ks) ≡ true) [
      | true ↦ λ h. ap (λ b. (b && true) || list_any (λ (x : Tagged). query_eq x.form f && x.tag == t) ks) ((query_eq_tells k.form f).1 (ap (λ o. option_map_or (λ (q : Query). q) o k.form) h))
      | false ↦ λ h. ap (λ b. (query_eq k.form f && false) || b) (known_tag ks t f h) ∙ or_yes (query_eq k.form f && false)
    ] e
  where
    or_yes : (b : Bool) → (b || true) ≡ true
    or_yes true = refl
    or_yes false = refl

-- where all listeners of a kept form end, and no other, that listen is lost
pub lost_of_form : (c : Cover) → IsSound c → (f : Query) (t : ℕ) → list_any (λ (k : Tagged). query_eq k.form f && k.tag == t) c.kept ≡ true
    → t ∷ [] ≡ map (λ (k : Tagged). k.tag) (lost (λ (l : Registered). query_eq l.1 f) c.kept c.listeners)
lost_of_form c s f t e = lost_tags c s ends (t ∷ []) (λ i j d lt within. absurd (omega (arith, lt, within)))
    (λ p. or_no (p t) ∙ sym (of_one_tag c.kept s.once f t e p)
    ∙ list_any_agreed (λ (k : Tagged). query_eq k.form f && p k.tag) (λ (k : Tagged). not (is_left_form ends c.listeners k.form) && p k.tag) c.kept
    (λ k m. ap (λ b. b && p k.tag) (same k m))
    ∙ list_any_filtered (λ (k : Tagged). not (is_left_form ends c.listeners k.form)) (λ (k : Tagged). p k.tag) c.kept
    ∙ sym (list_any_map (λ (k : Tagged). k.tag) p (lost ends c.kept c.listeners)))
  where
    ends : Registered → Bool
    ends l = query_eq l.1 f

    or_no : (b : Bool) → (b || false) ≡ b
    or_no true = refl
    or_no false = refl

    same : (k : Tagged) → Contains c.kept k → query_eq k.form f ≡ not (is_left_form ends c.listeners k.form)
    same k m = elim (query_eq k.form f) as (λ b. query_eq k.form f ≡ b → b ≡ not (is_left_form ends c.listeners k.form)) [
      | true ↦ λ q. sym (ap not (never (λ (l : Registered). query_eq l.1 k.form && not (ends l)) c.listeners (λ l _.
          ap (λ g. query_eq l.1 k.form && not (query_eq l.1 g)) (sym ((query_eq_tells k.form f).0 q)) ∙ both_ways (query_eq l.1 k.form))))
      | false ↦ λ q.
          let r = found c.listeners k.form (kept_registered c s k m) in
          sym (ap not (list_any_with (λ (l : Registered). query_eq l.1 k.form && not (ends l)) c.listeners r.0 r.1
          (both (query_eq (r.0).1 k.form) (not (ends r.0)) ((query_eq_tells (r.0).1 k.form).1 r.2) (ap not (ap (λ g. query_eq g f) r.2 ∙ q)))))
    ] refl
      where
        both_ways : (b : Bool) → (b && not b) ≡ false
        both_ways true = refl
        both_ways false = refl

-- ---- the numbers of those for whom a listen starts

-- those that a lost listen supplied
pub begin_by_lost : (c : Cover) → IsSound c → (ends : Registered → Bool) (p : ℕ → Bool)
    → list_any (begins_after ends c.listeners p) (lost ends c.kept c.listeners)
    ≡ list_any p (map (λ (l : Registered). l.0) (beginners ends c.kept c.listeners))
begin_by_lost c s ends p =
    list_any_swapped (λ (k : Tagged) (l : Registered). does_supply k.form l.1 && (q l && p l.0)) gone c.listeners
    ∙ list_any_agreed (λ (l : Registered). list_any (λ (k : Tagged). does_supply k.form l.1 && (q l && p l.0)) gone) (λ (l : Registered). starts ends c.kept c.listeners l && p l.0) c.listeners
    (λ l m. list_any_beside (λ (k : Tagged). does_supply k.form l.1) (q l && p l.0) gone
    ∙ sym (and_assoc (list_any (λ (k : Tagged). does_supply k.form l.1) gone) (q l) (p l.0))
    ∙ ap (λ b. b && p l.0) (sym (starts_as c s ends l m)))
    ∙ list_any_filtered (starts ends c.kept c.listeners) (λ (l : Registered). p l.0) c.listeners
    ∙ sym (list_any_map (λ (l : Registered). l.0) p (beginners ends c.kept c.listeners))
  where
    gone : List Tagged
    gone = lost ends c.kept c.listeners

    q : Registered → Bool
    q l = not (ends l) && not (is_replaced ends c.listeners l)

begin_rises : (c : Cover) → IsSound c → (ends : Registered → Bool) → AllPairs (λ (l m : Registered). l.0 < m.0) (beginners ends c.kept c.listeners)
begin_rises c s ends = AllPairs-filter (λ (l m : Registered). l.0 < m.0) (starts ends c.kept c.listeners) c.listeners s.listeners

-- numbers in order are those of whom a listen starts for
pub begin_numbers : (c : Cover) → IsSound c → (ends : Registered → Bool) (ns : List ℕ) → AllPairs (λ a b. a < b) ns
    → ((p : ℕ → Bool) → list_any p ns ≡ list_any p (map (λ (l : Registered). l.0) (beginners ends c.kept c.listeners)))
    → ns ≡ map (λ (l : Registered). l.0) (beginners ends c.kept c.listeners)
begin_numbers c s ends ns up h = rising_any ns (map (λ (l : Registered). l.0) (beginners ends c.kept c.listeners)) up
    (AllPairs-map (λ (l : Registered). l.0) (λ a b. a < b) (beginners ends c.kept c.listeners) (begin_rises c s ends))
    (λ n. h (λ m. m == n))

pub begin_picked : (c : Cover) → IsSound c → (ends : Registered → Bool)
    → picked (λ (l : Registered). l.0) c.listeners (map (λ (l : Registered). l.0) (beginners ends c.kept c.listeners)) ≡ beginners ends c.kept c.listeners
begin_picked c s ends = picked_same (λ (l : Registered). l.0) c.listeners (beginners ends c.kept c.listeners) s.listeners
    (All-from_contained (Contains c.listeners) (beginners ends c.kept c.listeners) (λ l m.
    Contains-from_filter (starts ends c.kept c.listeners) c.listeners l m))
