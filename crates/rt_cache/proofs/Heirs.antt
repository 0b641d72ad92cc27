-- To which forms a change of cover hands windows on, and what all that are handed on have.
use Rattle.std.proofs.Common.{◌≡◌, suc, slice_index_or, Bool, true, false, not, ◌&&◌, List, [], ◌∷◌, refl, sym, Option, Some, None, arith}
use mathlib.Core.Bool.{true≢false}
use Rattle.std.specs.Prelude.{IfSome}
use Rattle.std.specs.List.{filter, cons_option, All, Contains}
use Rattle.std.specs.Option.{option_map}
use Rattle.std.proofs.lemmas.List.Elements.{All-nil, All-cons, filter_passes}
use Rattle.rt_tree.specs.TreeEq.{both_first, both_second}
use Rattle.rt_query.specs.Queries.{Query, is_filtered}
use Rattle.rt_query.specs.laws.NeededLaws.{Contains-from_filter, passes-from_filter}
use Rattle.rt_cache.specs.Brought.{Window, Brought, is_supplied, base, knows}
use Rattle.rt_cache.specs.Recover.{is_among, cut, is_lost, heirs, window_left, handed_on}
use Rattle.rt_cache.proofs.Among.{of_among}

pub not_so : (b : Bool) → not b ≡ true → b ≡ false
not_so true e = absurd (true≢false (sym e))
not_so false e = refl

-- the windows that are left are of registered forms
pub left_forms : (registered kept : List Query) (b : Brought) → All (λ (w : Query × Window). Contains registered w.0) (cut registered kept b).windows
left_forms registered kept b k d lt =
    of_among registered (slice_index_or (cut registered kept b).windows k d).0 (filter_passes (λ (w : Query × Window). is_among registered w.0) b.windows k d lt)

-- an heir is registered, and lost what it had; no other form that did supplies it
pub record IsHeir (forms : List Query) (b left : Brought) (q : Query) : Type 0 where
  pub registered : Contains forms q
  pub filtered : is_filtered q ≡ true
  pub knew : knows b q ≡ true
  pub unknown : knows left q ≡ false
  pub alone : is_supplied (filter (is_lost b left) forms) q ≡ false

pub heir_is : (registered : List Query) (b left : Brought) (q : Query) → Contains (heirs registered b left) q → IsHeir registered b left q
heir_is registered b left q m =
    let lost : List Query = filter (is_lost b left) registered in
    let here = Contains-from_filter (λ f. not (is_supplied lost f)) lost q m in
    let is : is_lost b left q ≡ true = passes-from_filter (is_lost b left) registered q here in
    let had : (is_filtered q && knows b q) ≡ true = both_first (is_filtered q && knows b q) (not (knows left q)) is in
    record {
      registered = Contains-from_filter (is_lost b left) registered q here;
      filtered = both_first (is_filtered q) (knows b q) had;
      knew = both_second (is_filtered q) (knows b q) had;
      unknown = not_so (knows left q) (both_second (is_filtered q && knows b q) (not (knows left q)) is);
      alone = not_so (is_supplied lost q) (passes-from_filter (λ f. not (is_supplied lost f)) lost q m);
    }

-- what each window has that is handed on, all have
pub handed_all : (P : Query × Window → Type 0) (b : Brought) (forms : List Query)
    → ((q : Query) → Contains forms q → IfSome (window_left (base b q)) (λ w. P (q, w))) → All P (handed_on b forms)
handed_all P b [] h = All-nil P
handed_all P b (q ∷ forms) h = each (h q (0, omega arith, refl)) (handed_all P b forms (λ x m. h x (suc m.0, omega (arith, m.1), m.2)))
  where
    each : IfSome (window_left (base b q)) (λ w. P (q, w)) → All P (handed_on b forms) → All P (handed_on b (q ∷ forms))
    each e rest = elim (window_left (base b q)) as (λ o. IfSome o (λ w. P (q, w)) → All P (cons_option (option_map (λ w. (q, w)) o) (handed_on b forms))) [
      | None ↦ λ i. rest
      | Some w ↦ λ i. All-cons P (q, w) (handed_on b forms) i rest
    ] e

-- whatever a window is that is handed on, it is an heir's
pub handed_heirs : (P : Query → Type 0) (registered : List Query) (b left : Brought) → ((q : Query) → IsHeir registered b left q → P q)
    → All (λ (w : Query × Window). P w.0) (handed_on b (heirs registered b left))
handed_heirs P registered b left h =
    handed_all (λ (w : Query × Window). P w.0) b (heirs registered b left) (λ q m. each (window_left (base b q)) (h q (heir_is registered b left q m)))
  where
    each : {q : Query} (o : Option Window) → P q → IfSome o (λ w. P q)
    each None p = tt
    each (Some w) p = p
