-- What a new listener makes of the listens kept: where one of them supplies its form, nothing; else
-- its form starts, in place of the forms that it supplies.
use Rattle.std.proofs.Common.{◌≡◌, ℕ, ◌+◌, ◌<◌, ◌≤◌, Bool, true, false, not, ◌&&◌, ◌||◌, inl, inr, List, [], ◌∷◌, ◌++◌, map, length, refl, sym, ap, subst, ◌∙◌, arith, ltb-false, append-nil, Option, Some, None, is_some, IfSome, IfNone}
use mathlib.Core.Bool.{true≢false}
use Rattle.std.specs.List.{filter, list_any, enumerate_from, All, Any, Contains}
use Rattle.std.proofs.lemmas.List.Elements.{All-contains}
use Rattle.std.proofs.lemmas.List.Folds.{Any-from_list_any}
use Rattle.rt_tree.specs.TreeEq.{both_first, both_second}
use Rattle.rt_query.specs.Queries.{Query}
use Rattle.rt_query.specs.QueryEq.{query_eq}
use Rattle.rt_query.specs.Supply.{form, does_supply}
use Rattle.rt_query.specs.laws.QueryEq.{query_eq_tells}
use Rattle.rt_cover.specs.Cover.{Registered, Supplies, Tagged, forms, first_listener}
use Rattle.rt_cover.specs.State.{Cover, is_registered, with_listener, needed_forms, started_for, supplier, shown_with, with_listeners, lacks_tag, difference}
use Rattle.rt_cover.specs.Shown.{IsLeastSupplier, IsTold}
use Rattle.rt_cover.specs.inside.Sound.{IsSound}
use Rattle.rt_cover.specs.laws.CoverLaws.{is_covered, Contains-filter, Contains-from_filter, supplies_itself, supplies_trans, supplies_antisymm, needed_fewest}
use Rattle.rt_cover.specs.laws.FormLaws.{same_tests}
use Rattle.rt_cover.specs.laws.KeepLaws.{Contains-map, Contains-from_map, length_of_map, Contains-from_test, test-from_Contains, forms_are}
use Rattle.rt_cover.specs.laws.Pairs.{Contains-cases, All-from_contained, filter_none, filter_all, filter_agreeing}
use Rattle.rt_cover.specs.laws.ShownLaws.{found, form_in, needed_alone}
use Rattle.rt_cover.specs.laws.SoundLaws.{HasForm, sound_after, told_exactly, is_told, with_listener_rises, with_listener_forms}
use Rattle.rt_cover.proofs.SupplierLaws.{first_is_least, none_supplies}
use Rattle.rt_cover.proofs.AddLaws.{members, new_member, old_form, fresh, fresh_one, fresh_none, fresh_some}

not_true : (b : Bool) → not b ≡ true → b ≡ false
not_true true e = absurd (true≢false (sym e))
not_true false e = refl

or_true : (b : Bool) → (b || true) ≡ true
or_true true = refl
or_true false = refl

-- ---- kept forms

pub kept_needed : (c : Cover) → IsSound c → (k : Tagged) → Contains c.kept k → Contains (needed_forms c.listeners) k.form
kept_needed c s k m = All-contains (Contains (needed_forms c.listeners)) (map (λ (x : Tagged). x.form) c.kept) k.form s.only
    (Contains-map (λ (x : Tagged). x.form) c.kept m.0 k m.1 m.2)

pub kept_registered : (c : Cover) → IsSound c → (k : Tagged) → Contains c.kept k → Contains (forms c.listeners) k.form
kept_registered c s k m = Contains-from_filter (λ x. not (is_covered (forms c.listeners) x)) (forms c.listeners) k.form (kept_needed c s k m)

pub kept_is_form : (c : Cover) → IsSound c → (k : Tagged) → Contains c.kept k → form k.form ≡ k.form
kept_is_form c s k m = All-contains (λ x. form x ≡ x) (forms c.listeners) k.form (forms_are c.listeners s.forms) (kept_registered c s k m)

-- ---- which listens stay

-- a kept listen stays, unless the new form is another and supplies it
stays_exactly : (c : Cover) → IsSound c → (n : ℕ) (f : Query) → is_registered c.listeners n ≡ false → (k : Tagged) → Contains c.kept k
    → list_any (query_eq k.form) (needed_forms (with_listener c.listeners n f)) ≡ (query_eq f k.form || not (does_supply f k.form))
stays_exactly c s n f free k m =
    same_tests (list_any (query_eq k.form) (needed_forms ls)) (query_eq f k.form || not (does_supply f k.form)) there back
  where
    ls : List Registered
    ls = with_listener c.listeners n f

    there : list_any (query_eq k.form) (needed_forms ls) ≡ true → (query_eq f k.form || not (does_supply f k.form)) ≡ true
    there e = elim (does_supply f k.form) as (λ b. does_supply f k.form ≡ b → (query_eq f k.form || not b) ≡ true) [
      | true ↦ λ sup. ap (λ b. b || false) ((query_eq_tells f k.form).1
          (needed_alone (forms ls) k.form f (Contains-from_test k.form (needed_forms ls) e) (form_in ls (n, f) (new_member c.listeners n f)) sup))
      | false ↦ λ _. or_true (query_eq f k.form)
    ] refl

    uncovered : (query_eq f k.form || not (does_supply f k.form)) ≡ true → is_covered (forms ls) k.form ≡ false
    uncovered e = elim (is_covered (forms ls) k.form) as (λ b. is_covered (forms ls) k.form ≡ b → b ≡ false) [
      | false ↦ λ _. refl
      | true ↦ λ t.
          let a = Any-from_list_any (λ g. not (query_eq g k.form) && does_supply g k.form) (forms ls) t in
          let g : Query = a.1 in
          let sup : does_supply g k.form ≡ true = both_second (not (query_eq g k.form)) (does_supply g k.form) a.4 in
          let differs : query_eq g k.form ≡ false = not_true (query_eq g k.form) (both_first (not (query_eq g k.form)) (does_supply g k.form) a.4) in
          let r = found ls g (a.0, a.2, a.3) in
          elim (members c.listeners n f r.0 r.1) [
            | inl same ↦
                let is : f ≡ g = ap (λ (l : Registered). l.1) same ∙ r.2 in
                absurd (true≢false (sym e ∙ ap (λ x. query_eq x k.form || not (does_supply x k.form)) is ∙ (λ i. differs i || not (sup i))))
            | inr old ↦
                let same : g ≡ k.form = needed_alone (forms c.listeners) k.form g (kept_needed c s k m)
                (subst (Contains (forms c.listeners)) r.2 (form_in c.listeners r.0 old)) sup in
                absurd (true≢false (sym ((query_eq_tells g k.form).1 same) ∙ differs))
          ]
    ] refl

    back : (query_eq f k.form || not (does_supply f k.form)) ≡ true → list_any (query_eq k.form) (needed_forms ls) ≡ true
    back e = test-from_Contains k.form (needed_forms ls)
        (Contains-filter (λ x. not (is_covered (forms ls) x)) (forms ls) k.form (old_form c.listeners n f free k.form (kept_registered c s k m)) (ap not (uncovered e)))

-- ---- a form that is supplied

-- all stay
all_stay : (c : Cover) → IsSound c → (n : ℕ) (f : Query) → form f ≡ f → is_registered c.listeners n ≡ false → (j : Tagged) → Contains c.kept j → Supplies j.form f
    → (k : Tagged) → Contains c.kept k → list_any (query_eq k.form) (needed_forms (with_listener c.listeners n f)) ≡ true
all_stay c s n f own free j mj sup k m = stays_exactly c s n f free k m
    ∙ elim (does_supply f k.form) as (λ b. does_supply f k.form ≡ b → (query_eq f k.form || not b) ≡ true) [
      | true ↦ λ e. ap (λ b. b || false) ((query_eq_tells f k.form).1 (same e))
      | false ↦ λ _. or_true (query_eq f k.form)
    ] refl
  where
    same : does_supply f k.form ≡ true → f ≡ k.form
    same e =
        let one : j.form ≡ k.form = needed_alone (forms c.listeners) k.form j.form (kept_needed c s k m) (kept_registered c s j mj)
        (supplies_trans j.form f k.form own sup e) in
        supplies_antisymm f k.form own (kept_is_form c s k m) e (subst (λ x. Supplies x f) one sup)

nil : {X : Type 0} (xs : List X) → length xs ≡ 0 → xs ≡ []
nil [] h = refl
nil (x ∷ xs) h = absurd (omega (arith, h))

numbered : ℕ → List Query → List Tagged
numbered n fs = map (λ (x : ℕ × Query). record { tag = x.0; form = x.1 }) (enumerate_from n fs)

-- what is left and what is told, where the kept listen j supplies the form
pub record IsAdmitted (c : Cover) (n : ℕ) (f : Query) : Type 0 where
  pub cover : with_listeners c (with_listener c.listeners n f)
      ≡ record { listeners = with_listener c.listeners n f; kept = c.kept; next_tag = c.next_tag; last_tag = c.last_tag }
  pub delta : difference c (with_listeners c (with_listener c.listeners n f)) ≡ record { started = []; stopped = [] }

admitted_by : (c : Cover) → IsSound c → (n : ℕ) (f : Query) → form f ≡ f → is_registered c.listeners n ≡ false → (j : Tagged) → Contains c.kept j → Supplies j.form f
    → IsAdmitted c n f
unfolding numbered
admitted_by c s n f own free j mj sup = record {
  cover = λ i. record {
    listeners = ls;
    kept = ((λ k. (staying k ++ none k)) ∙ append-nil c.kept) i;
    next_tag = (ap (λ ss. c.next_tag + length ss) none ∙ zero_more) i;
    last_tag = c.last_tag;
  };
  delta = told_exactly c ls s ∙ (λ i. record { started = map (shown_with ls) (none i); stopped = map (λ (k : Tagged). k.tag) (leaving i) });
}
  where
    ls : List Registered
    ls = with_listener c.listeners n f

    none : started_for c ls ≡ []
    none = ap (numbered c.next_tag) (nil (fresh c n f) (fresh_none c s n f free j mj sup))

    zero_more : c.next_tag + 0 ≡ c.next_tag
    zero_more = omega arith

    stay : (k : Tagged) → Contains c.kept k → list_any (query_eq k.form) (needed_forms ls) ≡ true
    stay = all_stay c s n f own free j mj sup

    staying : filter (λ (k : Tagged). list_any (query_eq k.form) (needed_forms ls)) c.kept ≡ c.kept
    staying = filter_all (λ (k : Tagged). list_any (query_eq k.form) (needed_forms ls)) c.kept
        (All-from_contained (λ (k : Tagged). list_any (query_eq k.form) (needed_forms ls) ≡ true) c.kept stay)

    leaving : filter (λ (k : Tagged). not (list_any (query_eq k.form) (needed_forms ls))) c.kept ≡ []
    leaving = filter_none (λ (k : Tagged). not (list_any (query_eq k.form) (needed_forms ls))) c.kept
        (All-from_contained (λ (k : Tagged). not (list_any (query_eq k.form) (needed_forms ls)) ≡ false) c.kept (λ k m. ap not (stay k m)))

pub admitted : (c : Cover) → IsSound c → (n : ℕ) (f : Query) → form f ≡ f → is_registered c.listeners n ≡ false → is_some (supplier c f) ≡ true → IsAdmitted c n f
admitted c s n f own free some = by (supplier c f) refl some
  where
    by : (o : Option ℕ) → supplier c f ≡ o → is_some o ≡ true → IsAdmitted c n f
    by None e h = absurd (true≢false (sym h))
    by (Some t) e h =
        let l = subst (λ o. IfSome o (IsLeastSupplier c.kept f)) e (first_is_least c.kept f s.tags) in
        admitted_by c s n f own free l.listen l.is_kept l.supplies

-- ---- a form that none supplies

-- it starts, in place of those that it supplies
pub record IsStarted (c : Cover) (n : ℕ) (f : Query) : Type 0 where
  pub one : started_for c (with_listener c.listeners n f) ≡ record { tag = c.next_tag; form = f } ∷ []
  pub cover : with_listeners c (with_listener c.listeners n f)
      ≡ record {
        listeners = with_listener c.listeners n f;
        kept = filter (λ (k : Tagged). not (does_supply f k.form)) c.kept ++ record { tag = c.next_tag; form = f } ∷ [];
        next_tag = c.next_tag + 1;
        last_tag = c.last_tag;
      }
  pub delta : difference c (with_listeners c (with_listener c.listeners n f))
      ≡ record {
        started = record { tag = c.next_tag; query = f; listener = n } ∷ [];
        stopped = map (λ (k : Tagged). k.tag) (filter (λ (k : Tagged). does_supply f k.form) c.kept);
      }

single : (f : Query) (fs : List Query) → length fs ≤ 1 → Contains fs f → fs ≡ f ∷ []
single f [] h m = absurd (omega (arith, m.1))
single f (x ∷ []) h m = elim (Contains-cases x [] f m) [
  | inl e ↦ ap (λ z. z ∷ []) e
  | inr k ↦ absurd (omega (arith, k.1))
]
single f (x ∷ (y ∷ fs)) h m = absurd (omega (arith, h))

pub is_started : (c : Cover) → IsSound c → (n : ℕ) (f : Query) → form f ≡ f → is_registered c.listeners n ≡ false → supplier c f ≡ None → IsStarted c n f
unfolding numbered
is_started c s n f own free unsupplied = record {
  one = one;
  cover = λ i. record {
    listeners = ls;
    kept = staying i ++ one i;
    next_tag = c.next_tag + length (one i);
    last_tag = c.last_tag;
  };
  delta = told_exactly c ls s
      ∙ (λ i. record { started = map (shown_with ls) (one i); stopped = map (λ (k : Tagged). k.tag) (leaving i) })
      ∙ (λ i. record { started = record { tag = c.next_tag; query = f; listener = least i } ∷ []; stopped = map (λ (k : Tagged). k.tag) (filter (λ (k : Tagged). does_supply f k.form) c.kept) });
}
  where
    ls : List Registered
    ls = with_listener c.listeners n f

    none : All (λ (k : Tagged). does_supply k.form f ≡ false) c.kept
    none = subst (λ o. IfNone o (All (λ (k : Tagged). does_supply k.form f ≡ false) c.kept)) unsupplied (none_supplies c.kept f)

    one : started_for c ls ≡ record { tag = c.next_tag; form = f } ∷ []
    one = ap (numbered c.next_tag) (single f (fresh c n f) (fresh_one c s n f free) (fresh_some c s n f own free none))

    other : (k : Tagged) → Contains c.kept k → query_eq f k.form ≡ false
    other k m = elim (query_eq f k.form) as (λ b. query_eq f k.form ≡ b → b ≡ false) [
      | false ↦ λ _. refl
      | true ↦ λ e. absurd (true≢false (sym (subst (λ x. does_supply x f ≡ true) ((query_eq_tells f k.form).0 e) (supplies_itself f own))
          ∙ All-contains (λ (x : Tagged). does_supply x.form f ≡ false) c.kept k none m))
    ] refl

    stay : (k : Tagged) → Contains c.kept k → list_any (query_eq k.form) (needed_forms ls) ≡ not (does_supply f k.form)
    stay k m = stays_exactly c s n f free k m ∙ ap (λ b. b || not (does_supply f k.form)) (other k m)

    not_not : (b : Bool) → not (not b) ≡ b
    not_not true = refl
    not_not false = refl

    staying : filter (λ (k : Tagged). list_any (query_eq k.form) (needed_forms ls)) c.kept ≡ filter (λ (k : Tagged). not (does_supply f k.form)) c.kept
    staying = filter_agreeing (λ (k : Tagged). list_any (query_eq k.form) (needed_forms ls)) (λ (k : Tagged). not (does_supply f k.form)) c.kept
        (All-from_contained (λ (k : Tagged). list_any (query_eq k.form) (needed_forms ls) ≡ not (does_supply f k.form)) c.kept stay)

    leaving : filter (λ (k : Tagged). not (list_any (query_eq k.form) (needed_forms ls))) c.kept ≡ filter (λ (k : Tagged). does_supply f k.form) c.kept
    leaving = filter_agreeing (λ (k : Tagged). not (list_any (query_eq k.form) (needed_forms ls))) (λ (k : Tagged). does_supply f k.form) c.kept
        (All-from_contained (λ (k : Tagged). not (list_any (query_eq k.form) (needed_forms ls)) ≡ does_supply f k.form) c.kept
        (λ k m. ap not (stay k m) ∙ not_not (does_supply f k.form)))

    -- its listener is the new one, since it was not registered
    least : first_listener ls f ≡ n
    least =
        let r = found ls f (form_in ls (n, f) (new_member c.listeners n f)) in
        elim (members c.listeners n f r.0 r.1) [
          | inl same ↦ r.3 ∙ ap (λ (l : Registered). l.0) (sym same)
          | inr old ↦ absurd (unregistered (subst (Contains (forms c.listeners)) r.2 (form_in c.listeners r.0 old)))
        ]
      where
        unregistered : Contains (forms c.listeners) f → ⊥
        unregistered m =
            let few = (needed_fewest (forms c.listeners) (forms_are c.listeners s.forms)).supplying.each in
            let by = All-contains (λ r. Any (λ x. Supplies x r) (needed_forms c.listeners)) (forms c.listeners) f few m in
            let there = All-contains (Contains (map (λ (k : Tagged). k.form) c.kept)) (needed_forms c.listeners) by.1 s.all (by.0, by.2, by.3) in
            let x = Contains-from_map (λ (k : Tagged). k.form) c.kept there.0 by.1 (subst (λ z. there.0 < z) (length_of_map (λ (k : Tagged). k.form) c.kept) there.1) there.2 in
            true≢false (sym (subst (λ z. does_supply z f ≡ true) (sym x.2) by.4) ∙ All-contains (λ (k : Tagged). does_supply k.form f ≡ false) c.kept x.0 none x.1)

-- ---- what is left is sound

pub sound_with : (c : Cover) → IsSound c → (n : ℕ) (f : Query) → form f ≡ f → lacks_tag c (with_listener c.listeners n f) ≡ false
    → IsSound (with_listeners c (with_listener c.listeners n f))
sound_with c s n f own room = sound_after c (with_listener c.listeners n f) s (with_listener_rises c.listeners n f s.listeners)
    (subst (λ x. All HasForm (with_listener c.listeners n x)) own (with_listener_forms c.listeners n f s.forms)) room

pub told_with : (c : Cover) → IsSound c → (n : ℕ) (f : Query) → IsTold c.next_tag (difference c (with_listeners c (with_listener c.listeners n f)))
told_with c s n f = is_told c (with_listener c.listeners n f) s (with_listener_rises c.listeners n f s.listeners)

-- a tag is left for it
pub tag_left : (c : Cover) (n : ℕ) (f : Query) → IsStarted c n f → lacks_tag c (with_listener c.listeners n f) ≡ false → c.next_tag ≤ c.last_tag
tag_left c n f h room =
    let size : length (started_for c (with_listener c.listeners n f)) ≡ 1 = ap length h.one in
    omega (arith, ltb-false (c.last_tag + 1) (c.next_tag + length (started_for c (with_listener c.listeners n f))) room, size)
