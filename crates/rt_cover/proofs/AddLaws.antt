-- A new listener starts one listen, where no kept one supplies its query, and else none.
use Rattle.std.proofs.Common.{◌≡◌, ◌≢◌, ℕ, ◌+◌, ◌<◌, ◌≤◌, ◌==◌, nat_lt, Bool, true, false, not, ◌&&◌, ◌⊎◌, inl, inr, List, [], ◌∷◌, map, length, refl, sym, ap, subst, ◌∙◌, arith, ltb-true, ltb-false, eqb-true, eq-eqb, Option, Some, None, IfSome, IfNone}
use mathlib.Core.Bool.{true≢false}
use Rattle.std.specs.List.{filter, All, AllPairs, Any, Contains}
use Rattle.std.specs.Option.{is_none}
use Rattle.std.proofs.lemmas.List.Elements.{All-contains, Contains-append_left, Contains-append_right, Contains-append_cases}
use Rattle.std.proofs.lemmas.List.Folds.{Any-from_list_any}
use Rattle.std.proofs.lemmas.List.Kept.{AllPairs-filter}
use Rattle.rt_tree.specs.TreeEq.{both_first, both_second}
use Rattle.rt_query.specs.Queries.{Query}
use Rattle.rt_query.specs.QueryEq.{query_eq}
use Rattle.rt_query.specs.Supply.{form, does_supply}
use Rattle.rt_query.specs.laws.QueryEq.{query_eq_tells}
use Rattle.rt_cover.specs.Cover.{Registered, Supplies, Tagged, forms, is_kept}
use Rattle.rt_cover.specs.State.{Cover, is_registered, with_listener, needed_forms, started_for, lacks_tag, supplier}
use Rattle.rt_cover.specs.Shown.{IsLeastSupplier}
use Rattle.rt_cover.specs.inside.Sound.{IsSound}
use Rattle.rt_cover.specs.laws.CoverLaws.{is_covered, Contains-filter, Contains-from_filter, passes-from_filter, needed_fewest, supplies_itself, supplies_trans}
use Rattle.rt_cover.specs.laws.FormLaws.{same_tests}
use Rattle.rt_cover.specs.laws.KeepLaws.{Contains-from_map, Contains-map, length_of_map, form_is_form, forms_are}
use Rattle.rt_cover.specs.laws.Pairs.{Contains-head, Contains-later, Contains-cases, AllPairs-first, All-from_contained}
use Rattle.rt_cover.specs.laws.ShownLaws.{found, form_in, needed_alone, supplies_form}
use Rattle.rt_cover.specs.laws.SoundLaws.{new_forms, distinct_apart}
use Rattle.rt_cover.proofs.StartLaws.{list_any_with, started_count, lt_true, lt_false}
use Rattle.rt_cover.proofs.SupplierLaws.{first_is_least, none_supplies}

not_true : (b : Bool) → not b ≡ true → b ≡ false
not_true true e = absurd (true≢false (sym e))
not_true false e = refl

-- ---- the listeners with a new one

-- each is the new one or was there
pub members : (ls : List Registered) (n : ℕ) (f : Query) (l : Registered) → Contains (with_listener ls n f) l → ((n, f) ≡ l) ⊎ Contains ls l
members ls n f l m =
    elim (Contains-append_cases (filter (λ (x : Registered). nat_lt x.0 n) ls) ((n, f) ∷ filter (λ (x : Registered). nat_lt n x.0) ls) l m) [
      | inl a ↦ inr (Contains-from_filter (λ (x : Registered). nat_lt x.0 n) ls l a)
      | inr b ↦ elim (Contains-cases (n, f) (filter (λ (x : Registered). nat_lt n x.0) ls) l b) [
        | inl e ↦ inl e
        | inr k ↦ inr (Contains-from_filter (λ (x : Registered). nat_lt n x.0) ls l k)
      ]
    ]

-- the new one is there
pub new_member : (ls : List Registered) (n : ℕ) (f : Query) → Contains (with_listener ls n f) (n, f)
new_member ls n f = Contains-append_right (filter (λ (x : Registered). nat_lt x.0 n) ls) ((n, f) ∷ filter (λ (x : Registered). nat_lt n x.0) ls) (n, f)
    (Contains-head (n, f) (filter (λ (x : Registered). nat_lt n x.0) ls))

-- and each listener that was registered is one of them
pub old_member : (ls : List Registered) (n : ℕ) (f : Query) → is_registered ls n ≡ false → (l : Registered) → Contains ls l → Contains (with_listener ls n f) l
old_member ls n f free l m =
    elim (nat_lt l.0 n) as (λ b. nat_lt l.0 n ≡ b → Contains (with_listener ls n f) l) [
      | true ↦ λ e. Contains-append_left (filter (λ (x : Registered). nat_lt x.0 n) ls) ((n, f) ∷ filter (λ (x : Registered). nat_lt n x.0) ls) l
          (Contains-filter (λ (x : Registered). nat_lt x.0 n) ls l m e)
      | false ↦ λ e. Contains-append_right (filter (λ (x : Registered). nat_lt x.0 n) ls) ((n, f) ∷ filter (λ (x : Registered). nat_lt n x.0) ls) l
          (Contains-later (n, f) (filter (λ (x : Registered). nat_lt n x.0) ls) l
          (Contains-filter (λ (x : Registered). nat_lt n x.0) ls l m (above e)))
    ] refl
  where
    other : l.0 ≢ n
    other same = true≢false (sym (list_any_with (λ (x : Registered). x.0 == n) ls l m (eq-eqb l.0 n same)) ∙ free)

    above : nat_lt l.0 n ≡ false → nat_lt n l.0 ≡ true
    above e = elim (nat_lt n l.0) as (λ b. nat_lt n l.0 ≡ b → b ≡ true) [
      | true ↦ λ _. refl
      | false ↦ λ g. absurd (other (omega (arith, ltb-false l.0 n e, ltb-false n l.0 g)))
    ] refl

-- a form that was registered still is
pub old_form : (ls : List Registered) (n : ℕ) (f : Query) → is_registered ls n ≡ false → (g : Query) → Contains (forms ls) g → Contains (forms (with_listener ls n f)) g
old_form ls n f free g m =
    let r = found ls g m in
    subst (Contains (forms (with_listener ls n f))) r.2
    (form_in (with_listener ls n f) r.0 (old_member ls n f free r.0 r.1))

-- ---- the new forms

kept_form : (kept : List Tagged) (g : Query) → Contains (map (λ (k : Tagged). k.form) kept) g → is_kept kept g ≡ true
kept_form kept g m =
    let x = Contains-from_map (λ (k : Tagged). k.form) kept m.0 g (subst (λ z. m.0 < z) (length_of_map (λ (k : Tagged). k.form) kept) m.1) m.2 in
    list_any_with (λ (k : Tagged). query_eq k.form g) kept x.0 x.1 ((query_eq_tells (x.0).form g).1 x.2)

-- the forms that a new listener makes needed, and that are not kept
abbrev pub fresh : Cover → ℕ → Query → List Query
fresh c n f = new_forms c.kept (needed_forms (with_listener c.listeners n f))

is_needed : (c : Cover) (n : ℕ) (f g : Query) → Contains (fresh c n f) g → Contains (needed_forms (with_listener c.listeners n f)) g
is_needed c n f g m = Contains-from_filter (λ x. not (is_kept c.kept x)) (needed_forms (with_listener c.listeners n f)) g m

is_new : (c : Cover) (n : ℕ) (f g : Query) → Contains (fresh c n f) g → is_kept c.kept g ≡ false
is_new c n f g m = not_true (is_kept c.kept g) (passes-from_filter (λ x. not (is_kept c.kept x)) (needed_forms (with_listener c.listeners n f)) g m)

-- such a form is the new listener's
pub fresh_form : (c : Cover) → IsSound c → (n : ℕ) (f : Query) → is_registered c.listeners n ≡ false → (g : Query) → Contains (fresh c n f) g → f ≡ g
fresh_form c s n f free g m =
    let ls : List Registered = with_listener c.listeners n f in
    let need : Contains (needed_forms ls) g = is_needed c n f g m in
    let r = found ls g (Contains-from_filter (λ x. not (is_covered (forms ls) x)) (forms ls) g need) in
    elim (members c.listeners n f r.0 r.1) [
      | inl e ↦ ap (λ (l : Registered). l.1) e ∙ r.2
      | inr old ↦ absurd (true≢false (sym (kept_form c.kept g
          (All-contains (Contains (map (λ (k : Tagged). k.form) c.kept)) (needed_forms c.listeners) g s.all
          (needed_before need (subst (Contains (forms c.listeners)) r.2 (form_in c.listeners r.0 old)))))
          ∙ is_new c n f g m))
    ]
  where
    needed_before : Contains (needed_forms (with_listener c.listeners n f)) g → Contains (forms c.listeners) g → Contains (needed_forms c.listeners) g
    needed_before need there =
        elim (is_covered (forms c.listeners) g) as (λ b. is_covered (forms c.listeners) g ≡ b → Contains (needed_forms c.listeners) g) [
          | false ↦ λ e. Contains-filter (λ x. not (is_covered (forms c.listeners) x)) (forms c.listeners) g there (ap not e)
          | true ↦ λ e.
              let a = Any-from_list_any (λ x. not (query_eq x g) && does_supply x g) (forms c.listeners) e in
              let h : Query = a.1 in
              let same : h ≡ g = needed_alone (forms (with_listener c.listeners n f)) g h need
              (old_form c.listeners n f free h (a.0, a.2, a.3)) (both_second (not (query_eq h g)) (does_supply h g) a.4) in
              absurd (true≢false (sym ((query_eq_tells h g).1 same) ∙ not_true (query_eq h g) (both_first (not (query_eq h g)) (does_supply h g) a.4)))
        ] refl

-- so there is one at most
pub fresh_one : (c : Cover) → IsSound c → (n : ℕ) (f : Query) → is_registered c.listeners n ≡ false → length (fresh c n f) ≤ 1
fresh_one c s n f free = one (fresh c n f) (fresh_form c s n f free)
    (AllPairs-filter (λ x y. x ≢ y) (λ x. not (is_kept c.kept x)) (needed_forms ls)
    (AllPairs-filter (λ x y. x ≢ y) (λ x. not (is_covered (forms ls) x)) (forms ls)
    (distinct_apart (map (λ (l : Registered). l.1) ls))))
  where
    ls : List Registered
    ls = with_listener c.listeners n f

    one : (fs : List Query) → ((g : Query) → Contains fs g → f ≡ g) → AllPairs (λ x y. x ≢ y) fs → length fs ≤ 1
    one [] h p = omega arith
    one (x ∷ []) h p = omega arith
    one (x ∷ (y ∷ fs)) h p = absurd (All-contains (λ z. x ≢ z) (y ∷ fs) y (AllPairs-first (λ u v. u ≢ v) x (y ∷ fs) p) (Contains-head y fs)
        (sym (h x (Contains-head x (y ∷ fs))) ∙ h y (Contains-later x (y ∷ fs) y (Contains-head y fs))))

-- no listen starts where a kept one supplies the form
pub fresh_none : (c : Cover) → IsSound c → (n : ℕ) (f : Query) → is_registered c.listeners n ≡ false
    → (k : Tagged) → Contains c.kept k → Supplies k.form f → length (fresh c n f) ≡ 0
fresh_none c s n f free k m sup = none (fresh c n f) (λ g there. there)
  where
    ls : List Registered
    ls = with_listener c.listeners n f

    registered : Contains (forms ls) k.form
    registered = old_form c.listeners n f free k.form (Contains-from_filter (λ x. not (is_covered (forms c.listeners) x)) (forms c.listeners) k.form
        (of_kept c.kept m s.only))
      where
        of_kept : (kept : List Tagged) → Contains kept k → All (Contains (needed_forms c.listeners)) (map (λ (x : Tagged). x.form) kept) → Contains (needed_forms c.listeners) k.form
        of_kept kept there h = All-contains (Contains (needed_forms c.listeners)) (map (λ (x : Tagged). x.form) kept) k.form h
            (Contains-map (λ (x : Tagged). x.form) kept there.0 k there.1 there.2)

    none : (fs : List Query) → ((g : Query) → Contains fs g → Contains (fresh c n f) g) → length fs ≡ 0
    none [] h = refl
    none (g ∷ fs) h =
        let there : Contains (fresh c n f) g = h g (Contains-head g fs) in
        let is : f ≡ g = fresh_form c s n f free g there in
        let same : k.form ≡ g = needed_alone (forms ls) g k.form (is_needed c n f g there) registered (subst (Supplies k.form) is sup) in
        absurd (true≢false (sym (list_any_with (λ (x : Tagged). query_eq x.form g) c.kept k m ((query_eq_tells k.form g).1 same)) ∙ is_new c n f g there))

-- a listen of the form starts where no kept one supplies it
pub fresh_some : (c : Cover) → IsSound c → (n : ℕ) (f : Query) → form f ≡ f → is_registered c.listeners n ≡ false
    → All (λ (k : Tagged). does_supply k.form f ≡ false) c.kept → Contains (fresh c n f) f
fresh_some c s n f own free none = Contains-filter (λ x. not (is_kept c.kept x)) (needed_forms ls) f
    (Contains-filter (λ x. not (is_covered (forms ls) x)) (forms ls) f (form_in ls (n, f) (new_member c.listeners n f)) (ap not uncovered))
    (ap not unkept)
  where
    ls : List Registered
    ls = with_listener c.listeners n f

    -- no needed form supplies it
    alone : (g : Query) → Contains (needed_forms c.listeners) g → does_supply g f ≡ false
    alone g m =
        let there = All-contains (Contains (map (λ (k : Tagged). k.form) c.kept)) (needed_forms c.listeners) g s.all m in
        let x = Contains-from_map (λ (k : Tagged). k.form) c.kept there.0 g (subst (λ z. there.0 < z) (length_of_map (λ (k : Tagged). k.form) c.kept) there.1) there.2 in
        subst (λ z. does_supply z f ≡ false) x.2 (All-contains (λ (k : Tagged). does_supply k.form f ≡ false) c.kept x.0 none x.1)

    unkept : is_kept c.kept f ≡ false
    unkept = elim (is_kept c.kept f) as (λ b. is_kept c.kept f ≡ b → b ≡ false) [
      | false ↦ λ _. refl
      | true ↦ λ e.
          let a = Any-from_list_any (λ (k : Tagged). query_eq k.form f) c.kept e in
          absurd (true≢false (sym (subst (λ z. Supplies z f) (sym ((query_eq_tells (a.1).form f).0 a.4)) (supplies_itself f own))
          ∙ All-contains (λ (k : Tagged). does_supply k.form f ≡ false) c.kept a.1 none (a.0, a.2, a.3)))
    ] refl

    uncovered : is_covered (forms ls) f ≡ false
    uncovered = elim (is_covered (forms ls) f) as (λ b. is_covered (forms ls) f ≡ b → b ≡ false) [
      | false ↦ λ _. refl
      | true ↦ λ e.
          let a = Any-from_list_any (λ g. not (query_eq g f) && does_supply g f) (forms ls) e in
          let g : Query = a.1 in
          let sup : Supplies g f = both_second (not (query_eq g f)) (does_supply g f) a.4 in
          let differs : query_eq g f ≡ false = not_true (query_eq g f) (both_first (not (query_eq g f)) (does_supply g f) a.4) in
          let r = found ls g (a.0, a.2, a.3) in
          elim (members c.listeners n f r.0 r.1) [
            | inl same ↦ absurd (true≢false (sym ((query_eq_tells g f).1 (sym (ap (λ (l : Registered). l.1) same ∙ r.2))) ∙ differs))
            | inr old ↦
                let are = forms_are c.listeners s.forms in
                let there : Contains (forms c.listeners) g = subst (Contains (forms c.listeners)) r.2 (form_in c.listeners r.0 old) in
                let by = All-contains (λ x. Any (λ y. Supplies y x) (needed_forms c.listeners)) (forms c.listeners) g (needed_fewest (forms c.listeners) are).supplying.each there in
                absurd (true≢false (sym (supplies_trans by.1 g f (All-contains (λ x. form x ≡ x) (forms c.listeners) g are there) by.4 sup)
                ∙ alone by.1 (by.0, by.2, by.3)))
          ]
    ] refl

-- ---- whether a tag is lacking

pub lacks_to_add : (c : Cover) → IsSound c → (given n : ℕ) (q : Query) → c.next_tag ≡ given + 1 → is_registered c.listeners n ≡ false
    → (given == c.last_tag && is_none (supplier c q)) ≡ lacks_tag c (with_listener c.listeners n (form q))
lacks_to_add c s given n q next free = by (supplier c q) (first_is_least c.kept q s.tags) (none_supplies c.kept q)
  where
    ls : List Registered
    ls = with_listener c.listeners n (form q)

    count : length (started_for c ls) ≡ length (fresh c n (form q))
    count = started_count c ls

    within : given ≤ c.last_tag
    within = omega (arith, next, s.next)

    by : (o : Option ℕ) → IfSome o (IsLeastSupplier c.kept q) → IfNone o (All (λ (k : Tagged). does_supply k.form q ≡ false) c.kept)
        → (given == c.last_tag && is_none o) ≡ lacks_tag c ls
    by (Some t) h _ = never (given == c.last_tag)
        ∙ sym (lt_false (c.last_tag + 1) (c.next_tag + length (started_for c ls)) (omega (arith, s.next, count, nothing)))
      where
        nothing : length (fresh c n (form q)) ≡ 0
        nothing = fresh_none c s n (form q) free h.listen h.is_kept (supplies_form h.listen.form q ∙ h.supplies)

        never : (b : Bool) → (b && false) ≡ false
        never true = refl
        never false = refl
    by None _ h = always (given == c.last_tag)
        ∙ same_tests (given == c.last_tag) (nat_lt (c.last_tag + 1) (c.next_tag + length (started_for c ls)))
        (λ e. lt_true (c.last_tag + 1) (c.next_tag + length (started_for c ls)) (omega (arith, eqb-true given c.last_tag e, next, count, one)))
        (λ e. eq-eqb given c.last_tag (omega (
          arith,
          ltb-true (c.last_tag + 1) (c.next_tag + length (started_for c ls)) e,
          within,
          next,
          count,
          one,
        )))
      where
        none : All (λ (k : Tagged). does_supply k.form (form q) ≡ false) c.kept
        none = All-from_contained (λ (k : Tagged). does_supply k.form (form q) ≡ false) c.kept (λ k m.
            supplies_form k.form q ∙ All-contains (λ (x : Tagged). does_supply x.form q ≡ false) c.kept k h m)

        one : length (fresh c n (form q)) ≡ 1
        one = let some = fresh_some c s n (form q) (form_is_form q) free none in
            omega (arith, some.1, fresh_one c s n (form q) free)

        always : (b : Bool) → (b && true) ≡ b
        always true = refl
        always false = refl
