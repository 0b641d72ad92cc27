-- Listeners that end one after another.
use Rattle.std.proofs.Common.{◌≡◌, ℕ, zero, suc, ◌+◌, ◌<◌, ◌==◌, Bool, true, false, cond, not, ◌&&◌, ◌||◌, List, [], ◌∷◌, ◌++◌, take, drop, length, get_or, refl, sym, ap, subst, ◌∙◌, eqb-true, eq-eqb, Option, Some, None, is_some}
use mathlib.Core.Bool.{true≢false}
use Rattle.std.specs.List.{filter, find, list_any, AllPairs}
use Rattle.std.proofs.lemmas.List.{drop_more, take-append-drop}
use Rattle.std.proofs.lemmas.List.Folds.{list_any-append}
use Rattle.rt_cover.specs.Cover.{Registered}
use Rattle.rt_cover.specs.inside.Endings.{left}
use Rattle.rt_cover.specs.inside.Places.{does_stand, IsTakenOut}
use Rattle.rt_cover.specs.laws.FormLaws.{same_tests}
use Rattle.rt_cover.specs.laws.Pairs.{All-from_contained, filter_agreeing}
use Rattle.rt_cover.proofs.HeldLaws.{without_one}
use Rattle.rt_cover.proofs.SeenLaws.{filter_both}

pub eq_turned : (m n : ℕ) → (m == n) ≡ (n == m)
eq_turned m n = same_tests (m == n) (n == m) (λ e. eq-eqb n m (sym (eqb-true m n e))) (λ e. eq-eqb m n (sym (eqb-true n m e)))

-- one of that number goes
pub without_that : (old new : List Registered) (l : Registered) (n : ℕ) → AllPairs (λ (x y : Registered). x.0 < y.0) old → l.0 ≡ n
    → IsTakenOut old new l → new ≡ left (λ (x : Registered). n == x.0) old
without_that old new l n rise is t =
    t.is
    ∙ sym (ap (filter (λ (x : Registered). not (n == x.0))) t.was
    ∙ filter_agreeing (λ (x : Registered). not (n == x.0)) (λ (x : Registered). not (x.0 == l.0)) (t.before ++ l ∷ t.behind)
    (All-from_contained (λ (x : Registered). not (n == x.0) ≡ not (x.0 == l.0)) (t.before ++ l ∷ t.behind)
    (λ x m. ap not (eq_turned n x.0 ∙ ap (λ k. x.0 == k) (sym is))))
    ∙ without_one t.before l t.behind (subst (AllPairs (λ (x y : Registered). x.0 < y.0)) t.was rise))

-- or there is none
pub without_none : (n : ℕ) (ls : List Registered) → find (λ (x : Registered). x.0 == n) ls ≡ None → ls ≡ left (λ (x : Registered). n == x.0) ls
without_none n [] e = refl
without_none n (k ∷ ls) e =
    elim (k.0 == n) as (λ b. (k.0 == n) ≡ b → cond b (Some k) (find (λ (x : Registered). x.0 == n) ls) ≡ None → k ∷ ls ≡ left (λ (x : Registered). n == x.0) (k ∷ ls)) [
      | true ↦ λ _ f. absurd (true≢false (ap is_some f))
      | false ↦ λ t f. ap (λ z. k ∷ z) (without_none n ls f)
          ∙ ap (λ b. cond (not b) (k ∷ left (λ (x : Registered). n == x.0) ls) (left (λ (x : Registered). n == x.0) ls)) (sym (eq_turned n k.0 ∙ t))
    ] refl e

-- the parts about a place
pub taken_at : (ls new : List Registered) (i : ℕ) (l : Registered) → i < length ls → l ≡ get_or ls i l → new ≡ take i ls ++ drop (i + 1) ls → IsTakenOut ls new l
taken_at ls new i l lt is e = record {
  before = take i ls;
  behind = drop (i + 1) ls;
  was = sym (take-append-drop i ls) ∙ ap (λ z. take i ls ++ z) (drop_more ls i l lt ∙ ap (λ x. x ∷ drop (i + 1) ls) (sym is));
  is = e;
}

-- one number more
pub left_more : (before more : List ℕ) (n : ℕ) (ls new all : List Registered) → more ≡ before ++ n ∷ []
    → ls ≡ left (λ (l : Registered). list_any (λ m. m == l.0) before) all → new ≡ left (λ (l : Registered). n == l.0) ls
    → new ≡ left (λ (l : Registered). list_any (λ m. m == l.0) more) all
left_more before more n ls new all is h e =
    e ∙ ap (left (λ (l : Registered). n == l.0)) h
    ∙ filter_both (λ (l : Registered). not (n == l.0)) (λ (l : Registered). not (list_any (λ m. m == l.0) before)) (λ (l : Registered). not (list_any (λ m. m == l.0) more)) each all
  where
    either : (a b : Bool) → not (a || (b || false)) ≡ (not a && not b)
    either true b = refl
    either false true = refl
    either false false = refl

    each : (l : Registered) → (not (list_any (λ m. m == l.0) before) && not (n == l.0)) ≡ not (list_any (λ m. m == l.0) more)
    each l = sym (ap (λ z. not (list_any (λ m. m == l.0) z)) is ∙ ap not (list_any-append (λ m. m == l.0) before (n ∷ []))
        ∙ either (list_any (λ m. m == l.0) before) (n == l.0))

-- what stands at a place has the number
pub stands_as : (t : ℕ) (ks : List Registered) (i : ℕ) (l : Registered) → does_stand ks i t ≡ true → l ≡ get_or ks i l → l.0 ≡ t
stands_as t [] i l e is = absurd (true≢false (sym e))
stands_as t (k ∷ ks) zero l e is = ap (λ (x : Registered). x.0) is ∙ eqb-true k.0 t e
stands_as t (k ∷ ks) (suc i) l e is = stands_as t ks i l e is
