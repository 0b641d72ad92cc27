-- What a kept listen is shown with, and that the shown ones are the fewest.
use Rattle.std.proofs.Common.{◌≡◌, ◌≢◌, ℕ, zero, suc, ◌<◌, ◌≤◌, Bool, true, false, cond, not, ◌&&◌}
use Rattle.std.proofs.Common.{◌||◌, inl, inr, List, [], ◌∷◌, map, length, refl, sym, ap, subst, ◌∙◌}
use Rattle.std.proofs.Common.{slice_index_or, arith, Some}
use mathlib.Core.Bool.{true≢false}
use Rattle.std.specs.List.{filter, find, All, AllPairs, Any, Contains}
use Rattle.std.specs.Option.{option_map_or}
use Rattle.std.proofs.lemmas.List.Elements.{All-head, All-tail, All-cons, All-contains, All-map}
use Rattle.std.proofs.lemmas.List.Elements.{Contains-get_or}
use Rattle.std.proofs.lemmas.List.Folds.{list_any_at}
use Rattle.std.proofs.lemmas.List.Kept.{AllPairs-cons, AllPairs-filter}
use Rattle.rt_tree.specs.Assignments.{is_at_or_above}
use Rattle.rt_tree.specs.TreeEq.{both}
use Rattle.rt_query.specs.Queries.{Query, plain, is_filtered}
use Rattle.rt_query.specs.QueryEq.{query_eq}
use Rattle.rt_query.specs.Ranges.{takes_in}
use Rattle.rt_query.specs.Supply.{form, does_supply}
use Rattle.rt_query.specs.laws.QueryEq.{query_eq_tells}
use Rattle.rt_query.specs.laws.RangeLaws.{taken_in}
use Rattle.rt_cover.specs.declared.listen.Kept.{Kept}
use Rattle.rt_cover.specs.Cover.{Registered, Supplies, IsFewest, forms, first_listener, needed, Tagged}
use Rattle.rt_cover.specs.State.{Cover, needed_forms, shown_with, shown}
use Rattle.rt_cover.specs.Shown.{AreFewest, IsCertified}
use Rattle.rt_cover.specs.inside.Sound.{IsSound}
use Rattle.rt_cover.specs.laws.CoverLaws.{Contains-filter, Contains-from_filter, passes-from_filter}
use Rattle.rt_cover.specs.laws.CoverLaws.{is_covered}
use Rattle.rt_cover.specs.laws.FormLaws.{form_filtered, form_unfiltered}
use Rattle.rt_cover.specs.laws.KeepLaws.{form_is_form, forms_are, fewest_kept}
use Rattle.rt_cover.specs.laws.Pairs.{Contains-head, Contains-later, Contains-cases, Any-from_map}
use Rattle.rt_cover.specs.laws.Pairs.{All-from_contained, AllPairs-first, AllPairs-rest}
use Rattle.rt_cover.specs.laws.Pairs.{AllPairs-map, AllPairs-nil, AllPairs-weaker}

-- ---- the least-numbered listener of a form

-- the first listener of the form is this one
first_here : (l : Registered) (ls : List Registered) (f : Query) → query_eq l.1 f ≡ true
    → first_listener (l ∷ ls) f ≡ l.0
first_here l ls f e =
    ap (λ b. option_map_or (λ (m : Registered). m.0)
    (cond b (Some l) (find (λ (m : Registered). query_eq m.1 f) ls)) 0) e

-- or it is among the others
first_later : (l : Registered) (ls : List Registered) (f : Query) → query_eq l.1 f ≡ false
    → first_listener (l ∷ ls) f ≡ first_listener ls f
first_later l ls f e =
    ap (λ b. option_map_or (λ (m : Registered). m.0)
    (cond b (Some l) (find (λ (m : Registered). query_eq m.1 f) ls)) 0) e

-- a registered form has a listener, the first
pub found : (ls : List Registered) (f : Query) → Contains (forms ls) f → (l : Registered)
    × Contains ls l × (l.1 ≡ f) × (first_listener ls f ≡ l.0)
found [] f m = absurd (omega (arith, m.1))
found (l ∷ ls) f m =
    elim (query_eq l.1 f) as (λ b. query_eq l.1 f ≡ b → (k : Registered) × Contains (l ∷ ls) k
    × (k.1 ≡ f) × (first_listener (l ∷ ls) f ≡ k.0)) [
      | true ↦ λ e. (l, Contains-head l ls, (query_eq_tells l.1 f).0 e, first_here l ls f e)
      | false ↦ λ e. elim (Contains-cases l.1 (filter (λ g. not (query_eq l.1 g)) (forms ls)) f m) [
        | inl same ↦ absurd (true≢false (sym ((query_eq_tells l.1 f).1 same) ∙ e))
        | inr later ↦
            let r = found ls f (Contains-from_filter (λ g. not (query_eq l.1 g)) (forms ls) f later) in
            (r.0, Contains-later l ls r.0 r.1, r.2, first_later l ls f e ∙ r.3)
      ]
    ] refl

-- it is the least
pub first_least : (ls : List Registered) (f : Query) → AllPairs (λ (l m : Registered). l.0 < m.0) ls
    → All (λ (l : Registered). l.1 ≡ f → first_listener ls f ≤ l.0) ls
first_least [] f h = λ k d lt. absurd (omega arith)
first_least (l ∷ ls) f h =
    elim (query_eq l.1 f) as (λ b. query_eq l.1 f ≡ b
    → All (λ (k : Registered). k.1 ≡ f → first_listener (l ∷ ls) f ≤ k.0) (l ∷ ls)) [
      | true ↦ λ e. All-cons (λ (k : Registered). k.1 ≡ f → first_listener (l ∷ ls) f ≤ k.0) l ls
          (λ _. omega (arith, first_here l ls f e))
          (λ k d lt _. let above : l.0 < (slice_index_or ls k d).0 =
          AllPairs-first (λ (x y : Registered). x.0 < y.0) l ls h k d lt in
          omega (arith, first_here l ls f e, above))
      | false ↦ λ e. All-cons (λ (k : Registered). k.1 ≡ f → first_listener (l ∷ ls) f ≤ k.0) l ls
          (λ same. absurd (true≢false (sym ((query_eq_tells l.1 f).1 same) ∙ e)))
          (λ k d lt same. let rest =
          first_least ls f (AllPairs-rest (λ (x y : Registered). x.0 < y.0) l ls h) k d lt same
          in omega (arith, first_later l ls f e, rest))
    ] refl

-- of two forms the later has the greater first listener
pub first_rises : (ls : List Registered) → AllPairs (λ (l m : Registered). l.0 < m.0) ls
    → AllPairs (λ f g. first_listener ls f < first_listener ls g) (forms ls)
first_rises [] h = AllPairs-nil (λ f g. first_listener [] f < first_listener [] g)
first_rises (l ∷ ls) h =
    AllPairs-cons (λ f g. first_listener (l ∷ ls) f < first_listener (l ∷ ls) g) l.1 others
    (All-from_contained (λ g. first_listener (l ∷ ls) l.1 < first_listener (l ∷ ls) g) others (λ g m.
    let r = found ls g (Contains-from_filter (λ x. not (query_eq l.1 x)) (forms ls) g m) in
    let above : l.0 < (r.0).0 = All-contains (λ (x : Registered). l.0 < x.0) ls r.0
    (AllPairs-first (λ (x y : Registered). x.0 < y.0) l ls h) r.1 in
    omega (
      arith,
      first_here l ls l.1 ((query_eq_tells l.1 l.1).1 refl),
      first_later l ls g (differs g m),
      r.3,
      above,
    )))
    (AllPairs-weaker (λ f g. first_listener ls f < first_listener ls g) (λ f g.
    first_listener (l ∷ ls) f < first_listener (l ∷ ls) g) others
    (λ f g mf mg lt. omega (
      arith,
      first_later l ls f (differs f mf),
      first_later l ls g (differs g mg),
      lt,
    ))
    (AllPairs-filter (λ f g. first_listener ls f < first_listener ls g) (λ x. not (query_eq l.1 x))
    (forms ls) (first_rises ls (AllPairs-rest (λ (x y : Registered). x.0 < y.0) l ls h))))
  where
    others : List Query
    others = filter (λ x. not (query_eq l.1 x)) (forms ls)

    differs : (g : Query) → Contains others g → query_eq l.1 g ≡ false
    differs g m = not_true (query_eq l.1 g) (passes-from_filter (λ x. not (query_eq l.1 x))
        (forms ls) g m)
      where
        not_true : (b : Bool) → not b ≡ true → b ≡ false
        not_true true e = absurd (true≢false (sym e))
        not_true false e = refl

-- a listener's form is registered
pub form_in : (ls : List Registered) (l : Registered) → Contains ls l → Contains (forms ls) l.1
form_in [] l m = absurd (omega (arith, m.1))
form_in (k ∷ ls) l m =
    elim (Contains-cases k ls l m) [
      | inl e ↦ subst (λ (x : Registered). Contains (forms (k ∷ ls)) x.1) e (Contains-head k.1 _)
      | inr later ↦ elim (query_eq k.1 l.1) as (λ b. query_eq k.1 l.1 ≡ b
          → Contains (forms (k ∷ ls)) l.1) [
            | true ↦ λ e. subst (Contains (forms (k ∷ ls))) ((query_eq_tells k.1 l.1).0 e)
                (Contains-head k.1 _)
            | false ↦ λ e. Contains-later k.1 _ l.1 (Contains-filter (λ g. not (query_eq k.1 g))
                (forms ls) l.1 (form_in ls l later) (ap not e))
          ] refl
    ]

-- ---- supply

-- what supplies a query's form supplies the query
pub supplies_form : (s q : Query) → does_supply s (form q) ≡ does_supply s q
supplies_form s q = λ i. query_eq s (form_is_form q i)
    || not (is_filtered s) && is_at_or_above s.path (path i) || ranges (is_filtered q) refl i
  where
    path : (form q).path ≡ q.path
    path = elim (is_filtered q) as (λ b. (cond b q (plain q.path)).path ≡ q.path) [
      | true ↦ refl
      | false ↦ refl
    ]

    no_range : (r : Query) → is_filtered r ≡ false → (b : Bool) → takes_in s r ≡ b → b ≡ false
    no_range r flat true t = absurd (true≢false (sym (taken_in s r t).inner ∙ flat))
    no_range r flat false t = refl

    ranges : (b : Bool) → is_filtered q ≡ b → takes_in s (form q) ≡ takes_in s q
    ranges true e = ap (takes_in s) (form_filtered q e)
    ranges false e =
        no_range (form q) (ap is_filtered (form_unfiltered q e)) (takes_in s (form q)) refl
        ∙ sym (no_range q e (takes_in s q) refl)

-- ---- what is shown

-- shown listens have the kept forms
pub shown_forms : (ls : List Registered) (kept : List Tagged)
    → map (λ (k : Kept). k.query) (map (shown_with ls) kept) ≡ map (λ (k : Tagged). k.form) kept
shown_forms ls [] = refl
shown_forms ls (k ∷ kept) = ap (λ z. k.form ∷ z) (shown_forms ls kept)

pub shown_are_fewest : (c : Cover) → IsSound c → AreFewest c.listeners (shown c)
shown_are_fewest c s = record {
  fewest = subst (λ z. IsFewest z (forms c.listeners)) (sym (shown_forms c.listeners c.kept)) few;
  once = AllPairs-map (shown_with c.listeners) (λ (j k : Kept). j.query ≢ k.query) c.kept s.once;
  by_tag = AllPairs-map (shown_with c.listeners) (λ (j k : Kept). j.tag < k.tag) c.kept s.tags;
  supplied = All-from_contained (λ (l : Registered).
      Any (λ (k : Kept). Supplies k.query l.1) (shown c)) c.listeners (λ l m.
      let a = All-contains (λ r. Any (λ f. Supplies f r) (map (λ (k : Tagged). k.form) c.kept))
      (forms c.listeners) l.1 few.supplying.each (form_in c.listeners l m) in
      Any-from_map (λ (k : Kept). k.query) (λ f. Supplies f l.1) (shown c)
      (subst (Any (λ f. Supplies f l.1)) (sym (shown_forms c.listeners c.kept)) (
        a.0,
        a.1,
        a.2,
        a.3,
        a.4,
      )));
}
  where
    few : IsFewest (map (λ (k : Tagged). k.form) c.kept) (forms c.listeners)
    few = fewest_kept (forms c.listeners) (map (λ (k : Tagged). k.form) c.kept)
        (forms_are c.listeners s.forms) s.only s.all

-- a needed form is supplied by itself alone
pub needed_alone : (fs : List Query) (f g : Query) → Contains (needed fs) f → Contains fs g
    → Supplies g f → g ≡ f
needed_alone fs f g m there sup =
    elim (query_eq g f) as (λ b. query_eq g f ≡ b → g ≡ f) [
      | true ↦ λ e. (query_eq_tells g f).0 e
      | false ↦ λ e. absurd
          (true≢false (sym (list_any_at (λ x. not (query_eq x f)
          && does_supply x f) fs there.0 g there.1
          (ap (λ x. not (query_eq x f) && does_supply x f) there.2 ∙ both _ _ (ap not e) sup))
          ∙ free (is_covered fs f) (passes-from_filter (λ x. not (is_covered fs x)) fs f m)))
    ] refl
  where
    free : (b : Bool) → not b ≡ true → b ≡ false
    free true e = absurd (true≢false (sym e))
    free false e = refl

certified : (ls : List Registered) (k : Tagged) → AllPairs (λ (l m : Registered). l.0 < m.0) ls
    → Contains (needed_forms ls) k.form → IsCertified ls (shown_with ls k)
certified ls k rise m =
    let r = found ls k.form (Contains-from_filter (λ f. not (is_covered (forms ls) f))
    (forms ls) k.form m) in
    record {
      registered = subst (Contains ls) (λ i. (sym r.3 i, r.2 i)) r.1;
      least = first_least ls k.form rise;
      alone = λ i d lt. needed_alone (forms ls) k.form (slice_index_or ls i d).1 m
          (form_in ls (slice_index_or ls i d) (Contains-get_or ls i d lt));
    }

-- each is certified
pub shown_are_certified : (c : Cover) → IsSound c → All (IsCertified c.listeners) (shown c)
shown_are_certified c s =
    All-map (IsCertified c.listeners) (shown_with c.listeners) c.kept
    (λ k d lt. certified c.listeners (slice_index_or c.kept k d) s.listeners
    (needs c.kept k d lt s.only))
  where
    needs : (kept : List Tagged) (k : ℕ) (d : Tagged) → k < length kept
        → All (Contains (needed_forms c.listeners)) (map (λ (x : Tagged). x.form) kept)
        → Contains (needed_forms c.listeners) (slice_index_or kept k d).form
    needs [] k d lt h = absurd (omega arith)
    needs (x ∷ kept) zero d lt h = All-head (Contains (needed_forms c.listeners)) x.form
        (map (λ (y : Tagged). y.form) kept) h
    needs (x ∷ kept) (suc k) d lt h =
        needs kept k d (omega arith) (All-tail (Contains (needed_forms c.listeners)) x.form
        (map (λ (y : Tagged). y.form) kept) h)
