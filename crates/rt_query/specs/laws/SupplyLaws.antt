-- What a form supplies, by the tests of a query.
use Rattle.std.proofs.Common.{◌≡◌, Bool, true, false, cond, not, ◌||◌, ◌&&◌, ◌⊎◌, inl, inr}
use Rattle.std.proofs.Common.{refl, sym, ap, subst, ◌∙◌}
use mathlib.Core.Bool.{true≢false}
use Rattle.rt_tree.specs.Assignments.{is_at_or_above}
use Rattle.rt_tree.specs.TreeEq.{both_first, both_second, both}
use Rattle.rt_query.specs.Queries.{Query, plain, is_filtered}
use Rattle.rt_query.specs.QueryEq.{query_eq}
use Rattle.rt_query.specs.Ranges.{takes_in}
use Rattle.rt_query.specs.Supply.{form, does_supply}
use Rattle.rt_query.specs.laws.QueryEq.{query_eq_tells}
use Rattle.rt_query.specs.laws.Paths.{is_at_or_above-same}
use Rattle.rt_query.specs.laws.RangeLaws.{taken_in}

-- ---- tests

-- tests that follow from each other are equal
pub same_tests : (a b : Bool) → (a ≡ true → b ≡ true) → (b ≡ true → a ≡ true) → a ≡ b
same_tests true b f g = sym (f refl)
same_tests false true f g = g refl
same_tests false false f g = refl

-- the form of a filtered query is the query
pub form_filtered : (q : Query) → is_filtered q ≡ true → form q ≡ q
form_filtered q e = ap (λ b. cond b q (plain q.path)) e

pub form_unfiltered : (q : Query) → is_filtered q ≡ false → form q ≡ plain q.path
form_unfiltered q e = ap (λ b. cond b q (plain q.path)) e

-- ---- what it takes

-- to supply is to be the form, or to be unfiltered and at or above the path, or to take in the range
pub supplies_cases : (q r : Query) → does_supply q r ≡ true → (q ≡ form r)
    ⊎ (((is_filtered q ≡ false) × (is_at_or_above q.path r.path ≡ true)) ⊎ (takes_in q r ≡ true))
supplies_cases q r h =
    elim (query_eq q (form r)) as (λ b. query_eq q (form r) ≡ b
    → (b || not (is_filtered q) && is_at_or_above q.path r.path || takes_in q r) ≡ true
    → (q ≡ form r)
    ⊎ (((is_filtered q ≡ false) × (is_at_or_above q.path r.path ≡ true)) ⊎ (takes_in q r ≡ true))) [
      | true ↦ λ t _. inl ((query_eq_tells q (form r)).0 t)
      | false ↦ λ _ u. inr (others (not (is_filtered q) && is_at_or_above q.path r.path) refl u)
    ] refl h
  where
    not_true : (b : Bool) → not b ≡ true → b ≡ false
    not_true true e = absurd (true≢false (sym e))
    not_true false e = refl

    others : (b : Bool) → (not (is_filtered q) && is_at_or_above q.path r.path) ≡ b
        → (b || takes_in q r) ≡ true
        → ((is_filtered q ≡ false) × (is_at_or_above q.path r.path ≡ true)) ⊎ (takes_in q r ≡ true)
    others true e u =
        inl (not_true (is_filtered q) (both_first (not (is_filtered q)) _ e), both_second (not (is_filtered q)) _ e)
    others false e u = inr u

or_left : (a b : Bool) → a ≡ true → (a || b) ≡ true
or_left true b e = refl
or_left false b e = absurd (true≢false (sym e))

or_right : (a b : Bool) → b ≡ true → (a || b) ≡ true
or_right true b e = refl
or_right false b e = e

pub supplies_as_form : (q r : Query) → q ≡ form r → does_supply q r ≡ true
supplies_as_form q r e =
    or_left (query_eq q (form r) || not (is_filtered q) && is_at_or_above q.path r.path) (takes_in q r)
    (or_left (query_eq q (form r)) _ ((query_eq_tells q (form r)).1 e))

pub supplies_as_plain : (q r : Query) → is_filtered q ≡ false → is_at_or_above q.path r.path ≡ true
    → does_supply q r ≡ true
supplies_as_plain q r e a =
    or_left (query_eq q (form r) || not (is_filtered q) && is_at_or_above q.path r.path) (takes_in q r)
    (or_right (query_eq q (form r)) _ (both _ _ (ap not e) a))

pub supplies_as_range : (q r : Query) → takes_in q r ≡ true → does_supply q r ≡ true
supplies_as_range q r t =
    or_right (query_eq q (form r) || not (is_filtered q) && is_at_or_above q.path r.path) (takes_in q r) t

-- ---- by whether it is filtered

-- the form of a query that is filtered is the query, so both are
filtered_form : (q : Query) → is_filtered (form q) ≡ true → is_filtered q ≡ true
filtered_form q h = elim (is_filtered q) as (λ b. is_filtered (cond b q (plain q.path)) ≡ true
    → b ≡ true) [ true ↦ λ _. refl | false ↦ λ x. x ] h

-- a filtered listen supplies the same query, and those that it takes in
pub supply_filtered : (f q : Query) → is_filtered f ≡ true
    → does_supply f q ≡ (query_eq f q || takes_in f q)
supply_filtered f q e = same_tests (does_supply f q) (query_eq f q || takes_in f q)
    (λ h. elim (supplies_cases f q h) [
      | inl is ↦ or_left (query_eq f q) (takes_in f q)
          ((query_eq_tells f q).1 (is ∙ form_filtered q (filtered_form q (sym (ap is_filtered is) ∙ e))))
      | inr other ↦ elim other [
        | inl flat ↦ absurd (true≢false (sym e ∙ flat.0))
        | inr t ↦ or_right (query_eq f q) (takes_in f q) t
      ]
    ])
    (λ h. elim (query_eq f q) as (λ b. query_eq f q ≡ b → (b || takes_in f q) ≡ true
    → does_supply f q ≡ true) [
      | true ↦ λ t _.
          let is : f ≡ q = (query_eq_tells f q).0 t in
          supplies_as_form f q (is ∙ sym (form_filtered q (sym (ap is_filtered is) ∙ e)))
      | false ↦ λ _ u. supplies_as_range f q u
    ] refl h)

-- so what it supplies is filtered, and of its path
pub supplied_is_filtered : (f q : Query) → is_filtered f ≡ true → does_supply f q ≡ true
    → is_filtered q ≡ true
supplied_is_filtered f q e h = elim (supplies_cases f q h) [
  | inl is ↦ filtered_form q (sym (ap is_filtered is) ∙ e)
  | inr other ↦ elim other [
    | inl flat ↦ absurd (true≢false (sym e ∙ flat.0))
    | inr t ↦ (taken_in f q t).inner
  ]
]

path_of_form : (q : Query) → (form q).path ≡ q.path
path_of_form q = elim (is_filtered q) as (λ b. (cond b q (plain q.path)).path ≡ q.path)
    [ true ↦ refl | false ↦ refl ]

pub supplied_has_path : (f q : Query) → is_filtered f ≡ true → does_supply f q ≡ true
    → f.path ≡ q.path
supplied_has_path f q e h = elim (supplies_cases f q h) [
  | inl is ↦ ap (λ r. r.path) is ∙ path_of_form q
  | inr other ↦ elim other [
    | inl flat ↦ absurd (true≢false (sym e ∙ flat.0))
    | inr t ↦ (taken_in f q t).paths
  ]
]

-- an unfiltered one supplies what is at or under its path
pub supply_unfiltered : (f q : Query) → is_filtered f ≡ false
    → does_supply f q ≡ is_at_or_above f.path q.path
supply_unfiltered f q e = same_tests (does_supply f q) (is_at_or_above f.path q.path)
    (λ h. elim (supplies_cases f q h) [
      | inl is ↦ subst (λ p. is_at_or_above p q.path ≡ true) (sym (ap (λ r. r.path) is ∙ path_of_form q))
          (is_at_or_above-same q.path)
      | inr other ↦ elim other [
        | inl flat ↦ flat.1
        | inr t ↦ absurd (true≢false (sym (taken_in f q t).outer ∙ e))
      ]
    ])
    (λ h. supplies_as_plain f q e h)
