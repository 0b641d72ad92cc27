-- What the end of some listeners makes of the listens kept: those stop whose form no listener has
-- that is left, and in place of them those forms start that nobody else who is left supplies.
use Rattle.std.proofs.Common.{◌≡◌, ◌≢◌, ℕ, ◌+◌, ◌<◌, ◌≤◌, ◌==◌, nat_lt, Bool, true, false, cond, not, ◌&&◌, inl, inr, List, [], ◌∷◌, ◌++◌, map, length, refl, sym, ap, subst, ◌∙◌, arith, suc, ltb, ltb-true, ltb-false, eqb-true, eq-eqb}
use mathlib.Core.Bool.{true≢false}
use Rattle.std.specs.List.{filter, list_any, enumerate_from, AllPairs, Any, Contains}
use Rattle.std.proofs.lemmas.List.Elements.{All-contains, All-filter}
use Rattle.std.proofs.lemmas.List.Folds.{Any-from_list_any}
use Rattle.std.proofs.lemmas.List.Kept.{AllPairs-filter}
use Rattle.rt_tree.specs.TreeEq.{both, both_first, both_second}
use Rattle.rt_query.specs.Queries.{Query}
use Rattle.rt_query.specs.QueryEq.{query_eq}
use Rattle.rt_query.specs.Supply.{form, does_supply}
use Rattle.rt_query.specs.laws.QueryEq.{query_eq_tells}
use Rattle.rt_cover.specs.Cover.{Registered, Supplies, Tagged, forms, first_listener, is_kept}
use Rattle.rt_cover.specs.State.{Cover, needed_forms, started_for, shown_with, with_listeners, lacks_tag, difference}
use Rattle.rt_cover.specs.Shown.{IsTold}
use Rattle.rt_cover.specs.inside.Endings.{left, comes_before, is_replaced, starts, is_left_form, lost, beginners, tagged_of, told_of}
use Rattle.rt_cover.specs.inside.Sound.{IsSound}
use Rattle.rt_cover.specs.laws.CoverLaws.{is_covered, Contains-filter, Contains-from_filter, passes-from_filter, needed_fewest}
use Rattle.rt_cover.specs.laws.FormLaws.{same_tests}
use Rattle.rt_cover.specs.laws.KeepLaws.{Contains-from_map, length_of_map, Contains-from_test, test-from_Contains, forms_are}
use Rattle.rt_cover.specs.laws.Pairs.{Contains-head, Contains-later, AllPairs-three, All-from_contained, filter_agreeing}
use Rattle.rt_cover.specs.laws.ShownLaws.{found, first_least, form_in, needed_alone}
use Rattle.rt_cover.specs.laws.SoundLaws.{HasForm, new_forms, sound_after, told_exactly, is_told}
use Rattle.rt_cover.proofs.StartLaws.{list_any_with, started_by_listeners, lt_true}
use Rattle.rt_cover.proofs.NewLaws.{kept_needed, kept_registered}

not_true : (b : Bool) → not b ≡ true → b ≡ false
not_true true e = absurd (true≢false (sym e))
not_true false e = refl

not_false : (b : Bool) → not b ≡ false → b ≡ true
not_false true e = refl
not_false false e = absurd (true≢false e)

-- a test that cannot pass fails
fails : (b : Bool) → (b ≡ true → ⊥) → b ≡ false
fails true h = absurd (h refl)
fails false h = refl

-- ---- who is left

-- a left listener of the form
left_one : (ends : Registered → Bool) (ls : List Registered) (f : Query) → is_left_form ends ls f ≡ true
    → (l : Registered) × Contains ls l × (l.1 ≡ f) × (ends l ≡ false)
left_one ends ls f e =
    let a = Any-from_list_any (λ (l : Registered). query_eq l.1 f && not (ends l)) ls e in (
      a.1,
      (a.0, a.2, a.3),
      (query_eq_tells (a.1).1 f).0 (both_first (query_eq (a.1).1 f) (not (ends a.1)) a.4),
      not_true (ends a.1) (both_second (query_eq (a.1).1 f) (not (ends a.1)) a.4),
    )

has_left : (ends : Registered → Bool) (ls : List Registered) (l : Registered) → Contains ls l → ends l ≡ false → is_left_form ends ls l.1 ≡ true
has_left ends ls l m e = list_any_with (λ (x : Registered). query_eq x.1 l.1 && not (ends x)) ls l m
    (both (query_eq l.1 l.1) (not (ends l)) ((query_eq_tells l.1 l.1).1 refl) (ap not e))

-- a listener is left
is_in : (ends : Registered → Bool) (ls : List Registered) (l : Registered) → Contains ls l → ends l ≡ false → Contains (left ends ls) l
is_in ends ls l m e = Contains-filter (λ (x : Registered). not (ends x)) ls l m (ap not e)

was_in : (ends : Registered → Bool) (ls : List Registered) (l : Registered) → Contains (left ends ls) l → Contains ls l
was_in ends ls l m = Contains-from_filter (λ (x : Registered). not (ends x)) ls l m

-- a form that is left was registered
was_form : (ends : Registered → Bool) (ls : List Registered) (g : Query) → Contains (forms (left ends ls)) g → Contains (forms ls) g
was_form ends ls g m =
    let r = found (left ends ls) g m in
    subst (Contains (forms ls)) r.2 (form_in ls r.0 (was_in ends ls r.0 r.1))

-- ---- which listens stay

-- a kept listen stays where a listener of its form is left
pub stays_left : (c : Cover) → IsSound c → (ends : Registered → Bool) → (k : Tagged) → Contains c.kept k
    → list_any (query_eq k.form) (needed_forms (left ends c.listeners)) ≡ is_left_form ends c.listeners k.form
stays_left c s ends k m = same_tests (list_any (query_eq k.form) (needed_forms here)) (is_left_form ends c.listeners k.form) there back
  where
    here : List Registered
    here = left ends c.listeners

    there : list_any (query_eq k.form) (needed_forms here) ≡ true → is_left_form ends c.listeners k.form ≡ true
    there e =
        let r = found here k.form (Contains-from_filter (λ x. not (is_covered (forms here) x)) (forms here) k.form (Contains-from_test k.form (needed_forms here) e)) in
        subst (λ f. is_left_form ends c.listeners f ≡ true) r.2
        (has_left ends c.listeners r.0 (was_in ends c.listeners r.0 r.1) (not_true (ends r.0) (passes-from_filter (λ (x : Registered). not (ends x)) c.listeners r.0 r.1)))

    back : is_left_form ends c.listeners k.form ≡ true → list_any (query_eq k.form) (needed_forms here) ≡ true
    back e =
        let l = left_one ends c.listeners k.form e in
        test-from_Contains k.form (needed_forms here)
        (Contains-filter (λ x. not (is_covered (forms here) x)) (forms here) k.form
        (subst (Contains (forms here)) l.2 (form_in here l.0 (is_in ends c.listeners l.0 l.1 l.3)))
        (ap not (fails (is_covered (forms here) k.form) (λ t.
        let a = Any-from_list_any (λ g. not (query_eq g k.form) && does_supply g k.form) (forms here) t in
        let same : a.1 ≡ k.form = needed_alone (forms c.listeners) k.form a.1 (kept_needed c s k m) (was_form ends c.listeners a.1 (a.0, a.2, a.3))
        (both_second (not (query_eq a.1 k.form)) (does_supply a.1 k.form) a.4) in
        true≢false (sym ((query_eq_tells a.1 k.form).1 same) ∙ not_true (query_eq a.1 k.form) (both_first (not (query_eq a.1 k.form)) (does_supply a.1 k.form) a.4))))))

-- a kept listen that is lost had a listener that ends
pub lost_by_ended : (c : Cover) → IsSound c → (ends : Registered → Bool)
    → filter (λ (k : Tagged). list_any (λ (l : Registered). query_eq l.1 k.form) (filter ends c.listeners) && not (is_left_form ends c.listeners k.form)) c.kept
    ≡ lost ends c.kept c.listeners
lost_by_ended c s ends = filter_agreeing (λ (k : Tagged). ended k && not (is_left_form ends c.listeners k.form)) (λ (k : Tagged). not (is_left_form ends c.listeners k.form)) c.kept
    (All-from_contained (λ (k : Tagged). (ended k && not (is_left_form ends c.listeners k.form)) ≡ not (is_left_form ends c.listeners k.form)) c.kept
    (λ k m. same_tests (ended k && not (is_left_form ends c.listeners k.form)) (not (is_left_form ends c.listeners k.form))
    (λ e. both_second (ended k) (not (is_left_form ends c.listeners k.form)) e)
    (λ e. both (ended k) (not (is_left_form ends c.listeners k.form)) (has k m (not_true (is_left_form ends c.listeners k.form) e)) e)))
  where
    ended : Tagged → Bool
    ended k = list_any (λ (l : Registered). query_eq l.1 k.form) (filter ends c.listeners)

    has : (k : Tagged) → Contains c.kept k → is_left_form ends c.listeners k.form ≡ false → ended k ≡ true
    has k m none =
        let r = found c.listeners k.form (kept_registered c s k m) in
        elim (ends r.0) as (λ b. ends r.0 ≡ b → ended k ≡ true) [
          | true ↦ λ e. list_any_with (λ (l : Registered). query_eq l.1 k.form) (filter ends c.listeners) r.0
              (Contains-filter ends c.listeners r.0 r.1 e) ((query_eq_tells (r.0).1 k.form).1 r.2)
          | false ↦ λ e. absurd (true≢false (sym (subst (λ f. is_left_form ends c.listeners f ≡ true) r.2 (has_left ends c.listeners r.0 r.1 e)) ∙ none))
        ] refl

-- ---- what starts

-- each registered form is supplied by a kept listen
kept_supplier : (c : Cover) → IsSound c → (f : Query) → Contains (forms c.listeners) f → (k : Tagged) × Contains c.kept k × (does_supply k.form f ≡ true)
kept_supplier c s f m =
    let by = All-contains (λ r. Any (λ x. Supplies x r) (needed_forms c.listeners)) (forms c.listeners) f
    (needed_fewest (forms c.listeners) (forms_are c.listeners s.forms)).supplying.each m in
    let there = All-contains (Contains (map (λ (k : Tagged). k.form) c.kept)) (needed_forms c.listeners) by.1 s.all (by.0, by.2, by.3) in
    let x = Contains-from_map (λ (k : Tagged). k.form) c.kept there.0 by.1 (subst (λ z. there.0 < z) (length_of_map (λ (k : Tagged). k.form) c.kept) there.1) there.2 in
    (x.0, x.1, subst (λ z. does_supply z f ≡ true) (sym x.2) by.4)

registered_is_form : (c : Cover) → IsSound c → (l : Registered) → Contains c.listeners l → form l.1 ≡ l.1
registered_is_form c s l m = All-contains (λ (x : Registered). form x.1 ≡ x.1) c.listeners l s.forms m

-- a kept form is that of a kept listen
of_kept : (kept : List Tagged) (f : Query) → is_kept kept f ≡ true → (k : Tagged) × Contains kept k × (k.form ≡ f)
of_kept kept f e =
    let a = Any-from_list_any (λ (k : Tagged). query_eq k.form f) kept e in
    (a.1, (a.0, a.2, a.3), (query_eq_tells (a.1).form f).0 a.4)

-- a listen is lost
abbrev gone : Cover → (Registered → Bool) → List Tagged
gone c ends = lost ends c.kept c.listeners

abbrev was_supplied : Cover → (Registered → Bool) → Registered → Bool
was_supplied c ends l = list_any (λ (k : Tagged). does_supply k.form l.1) (gone c ends)

-- the lost listen that supplied it
record Supplier (c : Cover) (ends : Registered → Bool) (f : Query) : Type 0 where
  listen : Tagged
  is_kept : Contains c.kept listen
  is_lost : is_left_form ends c.listeners listen.form ≡ false
  supplies : does_supply listen.form f ≡ true

supplier_of : (c : Cover) (ends : Registered → Bool) (l : Registered) → was_supplied c ends l ≡ true → Supplier c ends l.1
supplier_of c ends l e =
    let a = Any-from_list_any (λ (k : Tagged). does_supply k.form l.1) (gone c ends) e in
    let m : Contains (gone c ends) a.1 = (a.0, a.2, a.3) in
    record {
      listen = a.1;
      is_kept = Contains-from_filter (λ (k : Tagged). not (is_left_form ends c.listeners k.form)) c.kept a.1 m;
      is_lost = not_true (is_left_form ends c.listeners (a.1).form) (passes-from_filter (λ (k : Tagged). not (is_left_form ends c.listeners k.form)) c.kept a.1 m);
      supplies = a.4;
    }

supplied_by : (c : Cover) (ends : Registered → Bool) (l : Registered) (k : Tagged) → Contains c.kept k → is_left_form ends c.listeners k.form ≡ false
    → does_supply k.form l.1 ≡ true → was_supplied c ends l ≡ true
supplied_by c ends l k m out e = list_any_with (λ (x : Tagged). does_supply x.form l.1) (gone c ends) k
    (Contains-filter (λ (x : Tagged). not (is_left_form ends c.listeners x.form)) c.kept k m (ap not out)) e

-- a listener for which a listen starts was supplied by one that is lost
starts_bereft : (c : Cover) → IsSound c → (ends : Registered → Bool) (l : Registered) → Contains c.listeners l → ends l ≡ false
    → is_kept c.kept l.1 ≡ false → is_replaced ends c.listeners l ≡ false → was_supplied c ends l ≡ true
starts_bereft c s ends l m stay new first =
    let k = kept_supplier c s l.1 (form_in c.listeners l m) in
    supplied_by c ends l k.0 k.1 (fails (is_left_form ends c.listeners (k.0).form) (λ e.
    let o = left_one ends c.listeners (k.0).form e in
    true≢false (sym (list_any_with (λ (x : Registered). not (ends x) && comes_before x l) c.listeners o.0 o.1
    (both (not (ends o.0)) (comes_before o.0 l) (ap not o.3) (before o.0 o.2))) ∙ first))) k.2
  where
    before : (o : Registered) → o.1 ≡ (kept_supplier c s l.1 (form_in c.listeners l m)).0.form → comes_before o l ≡ true
    before o same =
        let k = kept_supplier c s l.1 (form_in c.listeners l m) in
        elim (query_eq o.1 l.1) as (λ b. query_eq o.1 l.1 ≡ b → cond b (nat_lt o.0 l.0) (does_supply o.1 l.1) ≡ true) [
          | true ↦ λ e. absurd (true≢false (sym (list_any_with (λ (x : Tagged). query_eq x.form l.1) c.kept k.0 k.1
              (ap (λ f. query_eq f l.1) (sym same) ∙ e)) ∙ new))
          | false ↦ λ e. ap (λ f. does_supply f l.1) same ∙ k.2
        ] refl

-- one that was is not kept
bereft_new : (c : Cover) → IsSound c → (ends : Registered → Bool) (l : Registered) → Contains c.listeners l → ends l ≡ false
    → was_supplied c ends l ≡ true → is_kept c.kept l.1 ≡ false
bereft_new c s ends l m stay e = fails (is_kept c.kept l.1) (λ t.
    let k = supplier_of c ends l e in
    let j = of_kept c.kept l.1 t in
    let same : (k.listen).form ≡ (j.0).form = needed_alone (forms c.listeners) (j.0).form (k.listen).form (kept_needed c s j.0 j.1) (kept_registered c s k.listen k.is_kept)
    (subst (λ f. does_supply (k.listen).form f ≡ true) (sym j.2) k.supplies) in
    true≢false (sym (subst (λ f. is_left_form ends c.listeners f ≡ true) (sym (same ∙ j.2)) (has_left ends c.listeners l m stay)) ∙ k.is_lost))

-- so one starts for each of those that is left, and that none replaces
pub starts_as : (c : Cover) → IsSound c → (ends : Registered → Bool) (l : Registered) → Contains c.listeners l
    → starts ends c.kept c.listeners l
    ≡ (list_any (λ (k : Tagged). does_supply k.form l.1) (lost ends c.kept c.listeners) && (not (ends l) && not (is_replaced ends c.listeners l)))
starts_as c s ends l m = same_tests (starts ends c.kept c.listeners l) (was && (not (ends l) && not other)) there back
  where
    was : Bool
    was = was_supplied c ends l

    other : Bool
    other = is_replaced ends c.listeners l

    there : starts ends c.kept c.listeners l ≡ true → (was && (not (ends l) && not other)) ≡ true
    there e =
        let stay : not (ends l) ≡ true = both_first (not (ends l)) (not (is_kept c.kept l.1) && not other) e in
        let rest : (not (is_kept c.kept l.1) && not other) ≡ true = both_second (not (ends l)) (not (is_kept c.kept l.1) && not other) e in
        let first : not other ≡ true = both_second (not (is_kept c.kept l.1)) (not other) rest in
        both was (not (ends l) && not other)
        (starts_bereft c s ends l m (not_true (ends l) stay) (not_true (is_kept c.kept l.1) (both_first (not (is_kept c.kept l.1)) (not other) rest)) (not_true other first))
        (both (not (ends l)) (not other) stay first)

    back : (was && (not (ends l) && not other)) ≡ true → starts ends c.kept c.listeners l ≡ true
    back e =
        let sup : was ≡ true = both_first was (not (ends l) && not other) e in
        let rest : (not (ends l) && not other) ≡ true = both_second was (not (ends l) && not other) e in
        let stay : not (ends l) ≡ true = both_first (not (ends l)) (not other) rest in
        both (not (ends l)) (not (is_kept c.kept l.1) && not other) stay
        (both (not (is_kept c.kept l.1)) (not other) (ap not (bereft_new c s ends l m (not_true (ends l) stay) sup)) (both_second (not (ends l)) (not other) rest))

-- ---- the change

abbrev who : Cover → (Registered → Bool) → List Registered
who c ends = beginners ends c.kept c.listeners

starting : (c : Cover) → IsSound c → (ends : Registered → Bool)
    → new_forms c.kept (needed_forms (left ends c.listeners)) ≡ map (λ (l : Registered). l.1) (who c ends)
starting c s ends = started_by_listeners ends c.kept c.listeners s.listeners

-- the next tags, one for each
numbered_by : (n : ℕ) (ls : List Registered)
    → map (λ (x : ℕ × Query). record { tag = x.0; form = x.1 }) (enumerate_from n (map (λ (l : Registered). l.1) ls)) ≡ map tagged_of (enumerate_from n ls)
numbered_by n [] = refl
numbered_by n (l ∷ ls) = ap (λ z. record { tag = n; form = l.1 } ∷ z) (numbered_by (n + 1) ls)

shown_by : (here : List Registered) (n : ℕ) (ls : List Registered) → ((l : Registered) → Contains ls l → first_listener here l.1 ≡ l.0)
    → map (shown_with here) (map tagged_of (enumerate_from n ls)) ≡ map told_of (enumerate_from n ls)
shown_by here n [] h = refl
shown_by here n (l ∷ ls) h = λ i. record { tag = n; query = l.1; listener = h l (Contains-head l ls) i } ∷ shown_by here (n + 1) ls (λ x m. h x (Contains-later l ls x m)) i

length_by : (n : ℕ) (ls : List Registered) → length (map tagged_of (enumerate_from n ls)) ≡ length ls
length_by n [] = refl
length_by n (l ∷ ls) = ap suc (length_by (n + 1) ls)

-- one for whom a listen starts is the first of its form
is_first : (c : Cover) → IsSound c → (ends : Registered → Bool) (l : Registered) → Contains (who c ends) l → first_listener (left ends c.listeners) l.1 ≡ l.0
is_first c s ends l m =
    let here : List Registered = left ends c.listeners in
    let rise : AllPairs (λ (x y : Registered). x.0 < y.0) here = AllPairs-filter (λ (x y : Registered). x.0 < y.0) (λ (x : Registered). not (ends x)) c.listeners s.listeners in
    let there : Contains c.listeners l = Contains-from_filter (starts ends c.kept c.listeners) c.listeners l m in
    let passes : starts ends c.kept c.listeners l ≡ true = passes-from_filter (starts ends c.kept c.listeners) c.listeners l m in
    let stay : ends l ≡ false = not_true (ends l) (both_first (not (ends l)) (not (is_kept c.kept l.1) && not (is_replaced ends c.listeners l)) passes) in
    let first : is_replaced ends c.listeners l ≡ false = not_true (is_replaced ends c.listeners l) (both_second (not (is_kept c.kept l.1)) (not (is_replaced ends c.listeners l))
    (both_second (not (ends l)) (not (is_kept c.kept l.1) && not (is_replaced ends c.listeners l)) passes)) in
    let mine : Contains here l = is_in ends c.listeners l there stay in
    let r = found here l.1 (form_in here l mine) in
    let least : first_listener here l.1 ≤ l.0 = All-contains (λ (x : Registered). x.1 ≡ l.1 → first_listener here l.1 ≤ x.0) here l (first_least here l.1 rise) mine refl in
    elim (ltb (first_listener here l.1) l.0) as (λ b. ltb (first_listener here l.1) l.0 ≡ b → first_listener here l.1 ≡ l.0) [
      | false ↦ λ e. omega (arith, least, ltb-false (first_listener here l.1) l.0 e)
      | true ↦ λ e. absurd (true≢false (sym (list_any_with (λ (x : Registered). not (ends x) && comes_before x l) c.listeners r.0 (was_in ends c.listeners r.0 r.1)
          (both (not (ends r.0)) (comes_before r.0 l) (passes-from_filter (λ (x : Registered). not (ends x)) c.listeners r.0 r.1)
          (ap (λ b. cond b (nat_lt (r.0).0 l.0) (does_supply (r.0).1 l.1)) ((query_eq_tells (r.0).1 l.1).1 r.2)
          ∙ lt_true (r.0).0 l.0 (omega (arith, ltb-true (first_listener here l.1) l.0 e, r.3))))) ∙ first))
    ] refl

-- the tags of the lost ones are no other's
lost_by_tag : (c : Cover) → IsSound c → (ends : Registered → Bool)
    → filter (λ (k : Tagged). list_any (query_eq k.form) (needed_forms (left ends c.listeners))) c.kept
    ≡ filter (λ (k : Tagged). not (list_any (λ (j : Tagged). j.tag == k.tag) (lost ends c.kept c.listeners))) c.kept
lost_by_tag c s ends = filter_agreeing (λ (k : Tagged). list_any (query_eq k.form) (needed_forms (left ends c.listeners)))
    (λ (k : Tagged). not (among k)) c.kept
    (All-from_contained (λ (k : Tagged). list_any (query_eq k.form) (needed_forms (left ends c.listeners)) ≡ not (among k)) c.kept
    (λ k m. stays_left c s ends k m ∙ sym (not_not (is_left_form ends c.listeners k.form)) ∙ ap not (same k m)))
  where
    not_not : (b : Bool) → not (not b) ≡ b
    not_not true = refl
    not_not false = refl

    among : Tagged → Bool
    among k = list_any (λ (j : Tagged). j.tag == k.tag) (lost ends c.kept c.listeners)

    same : (k : Tagged) → Contains c.kept k → not (is_left_form ends c.listeners k.form) ≡ among k
    same k m = same_tests (not (is_left_form ends c.listeners k.form)) (among k)
        (λ e. list_any_with (λ (j : Tagged). j.tag == k.tag) (lost ends c.kept c.listeners) k
        (Contains-filter (λ (j : Tagged). not (is_left_form ends c.listeners j.form)) c.kept k m e) (eq-eqb k.tag k.tag refl))
        (λ e.
        let a = Any-from_list_any (λ (j : Tagged). j.tag == k.tag) (lost ends c.kept c.listeners) e in
        let ma : Contains (lost ends c.kept c.listeners) a.1 = (a.0, a.2, a.3) in
        let tags : (a.1).tag ≡ k.tag = eqb-true (a.1).tag k.tag a.4 in
        let is : a.1 ≡ k = elim (AllPairs-three (λ (x y : Tagged). x.tag < y.tag) c.kept a.1 k s.tags
        (Contains-from_filter (λ (j : Tagged). not (is_left_form ends c.listeners j.form)) c.kept a.1 ma) m) [
          | inl lt ↦ absurd (omega (arith, lt, tags))
          | inr more ↦ elim more [ inl gt ↦ absurd (omega (arith, gt, tags)) | inr eq ↦ eq ]
        ] in
        subst (λ (x : Tagged). not (is_left_form ends c.listeners x.form) ≡ true) is
        (passes-from_filter (λ (j : Tagged). not (is_left_form ends c.listeners j.form)) c.kept a.1 ma))

-- what is left, and what is told
pub record IsEnded (c : Cover) (ends : Registered → Bool) : Type 0 where
  pub cover : with_listeners c (left ends c.listeners)
      ≡ record {
        listeners = left ends c.listeners;
        kept = filter (λ (k : Tagged). not (list_any (λ (j : Tagged). j.tag == k.tag) (lost ends c.kept c.listeners))) c.kept
            ++ map tagged_of (enumerate_from c.next_tag (who c ends));
        next_tag = c.next_tag + length (who c ends);
        last_tag = c.last_tag;
      }
  pub delta : difference c (with_listeners c (left ends c.listeners))
      ≡ record {
        started = map told_of (enumerate_from c.next_tag (who c ends));
        stopped = map (λ (k : Tagged). k.tag) (lost ends c.kept c.listeners);
      }
  pub count : length (started_for c (left ends c.listeners)) ≡ length (who c ends)

numbered : ℕ → List Query → List Tagged
numbered n fs = map (λ (x : ℕ × Query). record { tag = x.0; form = x.1 }) (enumerate_from n fs)

pub is_ended : (c : Cover) → IsSound c → (ends : Registered → Bool) → IsEnded c ends
unfolding numbered
is_ended c s ends = record {
  cover = λ i. record {
    listeners = here;
    kept = lost_by_tag c s ends i ++ started i;
    next_tag = c.next_tag + count i;
    last_tag = c.last_tag;
  };
  delta = told_exactly c here s
      ∙ (λ i. record { started = map (shown_with here) (started i); stopped = map (λ (k : Tagged). k.tag) (leaving i) })
      ∙ (λ i. record { started = shown_by here c.next_tag (who c ends) (is_first c s ends) i; stopped = map (λ (k : Tagged). k.tag) (lost ends c.kept c.listeners) });
  count = count;
}
  where
    here : List Registered
    here = left ends c.listeners

    started : started_for c here ≡ map tagged_of (enumerate_from c.next_tag (who c ends))
    started = ap (numbered c.next_tag) (starting c s ends) ∙ numbered_by c.next_tag (who c ends)

    count : length (started_for c here) ≡ length (who c ends)
    count = ap length started ∙ length_by c.next_tag (who c ends)

    leaving : filter (λ (k : Tagged). not (list_any (query_eq k.form) (needed_forms here))) c.kept ≡ lost ends c.kept c.listeners
    leaving = filter_agreeing (λ (k : Tagged). not (list_any (query_eq k.form) (needed_forms here))) (λ (k : Tagged). not (is_left_form ends c.listeners k.form)) c.kept
        (All-from_contained (λ (k : Tagged). not (list_any (query_eq k.form) (needed_forms here)) ≡ not (is_left_form ends c.listeners k.form)) c.kept (λ k m. ap not (stays_left c s ends k m)))

-- ---- what is left is sound

pub sound_without : (c : Cover) → IsSound c → (ends : Registered → Bool) → lacks_tag c (left ends c.listeners) ≡ false → IsSound (with_listeners c (left ends c.listeners))
sound_without c s ends room = sound_after c (left ends c.listeners) s (AllPairs-filter (λ (l m : Registered). l.0 < m.0) (λ (l : Registered). not (ends l)) c.listeners s.listeners)
    (All-filter (λ (l : Registered). not (ends l)) HasForm c.listeners s.forms) room

pub told_without : (c : Cover) → IsSound c → (ends : Registered → Bool) → IsTold c.next_tag (difference c (with_listeners c (left ends c.listeners)))
told_without c s ends = is_told c (left ends c.listeners) s (AllPairs-filter (λ (l m : Registered). l.0 < m.0) (λ (l : Registered). not (ends l)) c.listeners s.listeners)

pub tags_left : (c : Cover) (ends : Registered → Bool) → IsEnded c ends → lacks_tag c (left ends c.listeners) ≡ false → c.next_tag + length (who c ends) ≤ c.last_tag + 1
tags_left c ends h room = omega (arith, ltb-false (c.last_tag + 1) (c.next_tag + length (started_for c (left ends c.listeners))) room, h.count)
