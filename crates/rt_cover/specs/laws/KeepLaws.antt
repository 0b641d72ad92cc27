-- The listens kept for some forms have just these forms; for the needed ones they are the fewest.
use Rattle.std.proofs.Common.{◌≡◌, ℕ, zero, suc, ◌<◌, true, false, cond, not, inl, inr, List, []}
use Rattle.std.proofs.Common.{◌∷◌, ◌++◌, map, length, ◌+◌, refl, sym, ap, subst, ◌∙◌, arith}
use Rattle.std.proofs.Common.{slice_index_or}
use Rattle.std.specs.List.{filter, list_any, enumerate_from, All, Contains}
use Rattle.std.proofs.lemmas.List.{map-append}
use Rattle.std.proofs.lemmas.List.Elements.{All-head, All-tail, All-cons, All-map, All-contains}
use Rattle.std.proofs.lemmas.List.Elements.{All-filter, All-weaker, Contains-get_or}
use Rattle.std.proofs.lemmas.List.Elements.{Contains-append_left, Contains-append_right}
use Rattle.std.proofs.lemmas.List.Elements.{Contains-append_cases}
use Rattle.std.proofs.lemmas.List.Folds.{Any-from_list_any, list_any_at}
use Rattle.rt_query.specs.Queries.{Query, is_filtered, plain}
use Rattle.rt_query.specs.QueryEq.{query_eq}
use Rattle.rt_query.specs.Supply.{form}
use Rattle.rt_cover.specs.Cover.{IsFewest, needed, distinct, Registered, forms, Tagged, is_kept}
use Rattle.rt_cover.specs.Cover.{started, kept_for}
use Rattle.rt_query.specs.laws.QueryEq.{query_eq_tells}
use Rattle.rt_cover.specs.laws.CoverLaws.{IsForm, Contains-filter, Contains-from_filter}
use Rattle.rt_cover.specs.laws.CoverLaws.{passes-from_filter, needed_fewest, needed_in}

-- ---- lists

pub Contains-from_map : {X Y : Type 0} (f : X → Y) (xs : List X) (k : ℕ) (y : Y) → k < length xs
    → slice_index_or (map f xs) k y ≡ y → (x : X) × Contains xs x × (f x ≡ y)
Contains-from_map f [] k y lt e = absurd (omega arith)
Contains-from_map f (x ∷ xs) zero y lt e = (x, (0, omega arith, refl), e)
Contains-from_map f (x ∷ xs) (suc k) y lt e =
    let m = Contains-from_map f xs k y (omega arith) e in
    (m.0, (suc (m.1).0, omega (arith, (m.1).1), (m.1).2), m.2)

pub Contains-map : {X Y : Type 0} (f : X → Y) (xs : List X) (k : ℕ) (x : X) → k < length xs
    → slice_index_or xs k x ≡ x → Contains (map f xs) (f x)
Contains-map f [] k x lt e = absurd (omega arith)
Contains-map f (y ∷ xs) zero x lt e = (0, omega arith, ap f e)
Contains-map f (y ∷ xs) (suc k) x lt e = let m = Contains-map f xs k x (omega arith) e in
    (suc m.0, omega (arith, m.1), m.2)

pub length_of_map : {X Y : Type 0} (f : X → Y) (xs : List X) → length (map f xs) ≡ length xs
length_of_map f [] = refl
length_of_map f (x ∷ xs) = ap suc (length_of_map f xs)

-- a form that a list has, by its test
pub Contains-from_test : (f : Query) (fs : List Query) → list_any (query_eq f) fs ≡ true → Contains fs f
Contains-from_test f fs e =
    let a = Any-from_list_any (query_eq f) fs e in
    subst (Contains fs) (sym ((query_eq_tells f a.1).0 a.4)) (a.0, a.2, a.3)

pub test-from_Contains : (f : Query) (fs : List Query) → Contains fs f → list_any (query_eq f) fs ≡ true
test-from_Contains f fs m = list_any_at (query_eq f) fs m.0 f m.1 (ap (query_eq f) m.2
    ∙ (query_eq_tells f f).1 refl)

-- ---- forms

pub form_is_form : (q : Query) → IsForm (form q)
form_is_form q =
    elim (is_filtered q) as (λ b. is_filtered q ≡ b → IsForm (form q)) [
      | true ↦ λ e. ap form (ap (λ b. cond b q (plain q.path)) e)
      | false ↦ λ e. let same : form q ≡ plain q.path = ap (λ b. cond b q (plain q.path)) e in
          ap form same ∙ sym same
    ] refl

All-distinct : (P : Query → Type 0) (xs : List Query) → All P xs → All P (distinct query_eq xs)
All-distinct P [] h = h
All-distinct P (x ∷ xs) h =
    All-cons P x (filter (λ y. not (query_eq x y)) (distinct query_eq xs)) (All-head P x xs h)
    (All-filter (λ y. not (query_eq x y)) P (distinct query_eq xs)
    (All-distinct P xs (All-tail P x xs h)))

-- the registered forms are forms, where the listeners have forms
pub forms_are : (ls : List Registered) → All (λ (l : Registered). form l.1 ≡ l.1) ls
    → All IsForm (forms ls)
forms_are ls h = All-distinct IsForm (map (λ l. l.1) ls) (All-map IsForm (λ (l : Registered). l.1) ls h)

-- ---- the listens kept

forms_of : List Tagged → List Query
forms_of kept = map (λ k. k.form) kept

pub forms-started : (n : ℕ) (fs : List Query)
    → map (λ (k : Tagged). k.form) (map (λ (x : ℕ × Query). record { tag = x.0; form = x.1 })
    (enumerate_from n fs)) ≡ fs
forms-started n [] = refl
forms-started n (f ∷ fs) = ap (λ z. f ∷ z) (forms-started (n + 1) fs)

-- what is kept is needed
pub kept_for_needed : (n : ℕ) (kept : List Tagged) (fs : List Query)
    → All (Contains fs) (map (λ (k : Tagged). k.form) (kept_for n kept fs))
unfolding forms_of
kept_for_needed n kept fs k d lt = at (Contains-get_or (forms_of (kept_for n kept fs)) k d lt)
  where
    old : (f : Query) → Contains (forms_of (filter (λ k. list_any (query_eq k.form) fs) kept)) f
        → Contains fs f
    old f m =
        let x = Contains-from_map (λ (k : Tagged). k.form)
        (filter (λ k. list_any (query_eq k.form) fs) kept) m.0 f
        (subst (λ z. m.0 < z) (length_of_map (λ (k : Tagged). k.form) _) m.1) m.2 in
        subst (Contains fs) x.2
        (Contains-from_test (x.0).form fs
        (passes-from_filter (λ (k : Tagged). list_any (query_eq k.form) fs) kept x.0 x.1))

    new : (f : Query) → Contains (forms_of (started n kept fs)) f → Contains fs f
    new f m = Contains-from_filter (λ f. not (is_kept kept f)) fs f
        (subst (λ z. Contains z f) (forms-started n (filter (λ f. not (is_kept kept f)) fs)) m)

    at : {f : Query} → Contains (forms_of (kept_for n kept fs)) f → Contains fs f
    at {f} m =
        elim (Contains-append_cases (forms_of (filter (λ k. list_any (query_eq k.form) fs) kept))
        (forms_of (started n kept fs)) f
        (subst (λ z. Contains z f)
        (map-append (λ (k : Tagged). k.form) (filter (λ k. list_any (query_eq k.form) fs) kept)
        (started n kept fs)) m)) [
          | inl x ↦ old f x
          | inr x ↦ new f x
        ]

-- what is needed is kept
needed_is_kept : (n : ℕ) (kept : List Tagged) (fs : List Query) (f : Query) → Contains fs f
    → Contains (map (λ (k : Tagged). k.form) (kept_for n kept fs)) f
unfolding forms_of
needed_is_kept n kept fs f m =
    subst (λ z. Contains z f)
    (sym (map-append (λ (k : Tagged). k.form) (filter (λ k. list_any (query_eq k.form) fs) kept)
    (started n kept fs)))
    (elim (is_kept kept f) as (λ b. is_kept kept f ≡ b
    → Contains (forms_of (filter (λ k. list_any (query_eq k.form) fs) kept)
    ++ forms_of (started n kept fs)) f) [
      | true ↦ λ e.
          let a = Any-from_list_any (λ k. query_eq k.form f) kept e in
          let same : (a.1).form ≡ f = (query_eq_tells (a.1).form f).0 a.4 in
          let stays = Contains-filter (λ (k : Tagged). list_any (query_eq k.form) fs) kept a.1 (
            a.0,
            a.2,
            a.3,
          ) (ap (λ g. list_any (query_eq g) fs) same ∙ test-from_Contains f fs m) in
          Contains-append_left _ _ f
          (subst (Contains (forms_of (filter (λ k. list_any (query_eq k.form) fs) kept))) same
          (Contains-map (λ (k : Tagged). k.form)
          (filter (λ (k : Tagged). list_any (query_eq k.form) fs) kept) stays.0 a.1 stays.1
          stays.2))
      | false ↦ λ e.
          Contains-append_right _ _ f
          (subst (λ z. Contains z f)
          (sym (forms-started n (filter (λ f. not (is_kept kept f)) fs)))
          (Contains-filter (λ f. not (is_kept kept f)) fs f m (ap not e)))
    ] refl)

pub needed_kept_for : (n : ℕ) (kept : List Tagged) (fs : List Query)
    → All (Contains (map (λ (k : Tagged). k.form) (kept_for n kept fs))) fs
needed_kept_for n kept fs k d lt = needed_is_kept n kept fs (slice_index_or fs k d)
    (Contains-get_or fs k d lt)

-- a listen whose form stays needed stays
pub stays : (n : ℕ) (kept : List Tagged) (fs : List Query) (k : Tagged) → Contains kept k
    → Contains fs k.form → Contains (kept_for n kept fs) k
stays n kept fs k m is =
    Contains-append_left _ _ k
    (Contains-filter (λ (x : Tagged). list_any (query_eq x.form) fs) kept k m
    (test-from_Contains k.form fs is))

-- forms that are just the needed ones are the fewest
pub fewest_kept : (registered kept : List Query) → All IsForm registered
    → All (Contains (needed registered)) kept → All (Contains kept) (needed registered)
    → IsFewest kept registered
fewest_kept registered kept are only all =
    let few = needed_fewest registered are in
    record {
      supplying = record {
        part = All-weaker (Contains (needed registered)) (Contains registered) (λ f m.
            Contains-from_filter _ registered f m) kept only;
        each = λ k d lt.
            let a = few.supplying.each k d lt in
            let m = All-contains (Contains kept) (needed registered) a.1 all (a.0, a.2, a.3) in
            (m.0, a.1, m.1, m.2, a.4);
      };
      least = λ others sup. All-weaker (Contains (needed registered)) (Contains others) (λ f m.
          needed_in registered others sup f m) kept only;
    }
