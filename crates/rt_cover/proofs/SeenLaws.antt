-- The forms as the code finds them: one listener after another.
use Rattle.std.proofs.Common.{◌≡◌, ℕ, ◌+◌, ◌<◌, length, get_or, drop, Bool, true, false, cond, not, ◌&&◌, ◌||◌, List, [], ◌∷◌, ◌++◌, refl, sym, ap, ◌∙◌, append_assoc}
use mathlib.Core.Bool.{true≢false}
use Rattle.std.specs.List.{filter, list_any}
use Rattle.std.proofs.lemmas.List.{drop_more}
use Rattle.std.proofs.lemmas.List.Folds.{list_any-append}
use Rattle.rt_query.specs.Queries.{Query}
use Rattle.rt_query.specs.QueryEq.{query_eq}
use Rattle.rt_query.specs.laws.QueryEq.{query_eq_tells}
use Rattle.rt_cover.specs.Cover.{Registered, forms}
use Rattle.rt_cover.specs.laws.FormLaws.{same_tests}

not_false : (b : Bool) → not b ≡ true → b ≡ false
not_false true e = absurd (true≢false (sym e))
not_false false e = refl

-- ---- one listener after another

-- those that have not been seen
abbrev pub unseen : List Query → List Query → List Query
unseen seen fs = filter (λ f. not (list_any (query_eq f) seen)) fs

-- a filter after a weaker one
filter_stronger : {X : Type 0} (p q : X → Bool) → ((x : X) → p x ≡ true → q x ≡ true) → (xs : List X) → filter p (filter q xs) ≡ filter p xs
filter_stronger p q h [] = refl
filter_stronger p q h (x ∷ xs) =
    elim (q x) as (λ b. q x ≡ b → filter p (cond b (x ∷ filter q xs) (filter q xs)) ≡ cond (p x) (x ∷ filter p xs) (filter p xs)) [
      | true ↦ λ _. ap (λ ys. cond (p x) (x ∷ ys) ys) (filter_stronger p q h xs)
      | false ↦ λ e. filter_stronger p q h xs ∙ ap (λ b. cond b (x ∷ filter p xs) (filter p xs)) (sym (fails (p x) refl e))
    ] refl
  where
    fails : (b : Bool) → p x ≡ b → q x ≡ false → p x ≡ false
    fails true e f = absurd (true≢false (sym (h x e) ∙ f))
    fails false e f = e

-- two filters are one
pub filter_both : {X : Type 0} (p q r : X → Bool) → ((x : X) → (q x && p x) ≡ r x) → (xs : List X) → filter p (filter q xs) ≡ filter r xs
filter_both p q r h [] = refl
filter_both p q r h (x ∷ xs) =
    let rest = filter_both p q r h xs in
    elim (q x) as (λ b. (b && p x) ≡ r x → filter p (cond b (x ∷ filter q xs) (filter q xs)) ≡ cond (r x) (x ∷ filter r xs) (filter r xs)) [
      | true ↦ λ e. ap (λ ys. cond (p x) (x ∷ ys) ys) rest ∙ ap (λ b. cond b (x ∷ filter r xs) (filter r xs)) e
      | false ↦ λ e. rest ∙ ap (λ b. cond b (x ∷ filter r xs) (filter r xs)) e
    ] (h x)

-- a form that was seen is not seen again
pub unseen-again : (seen : List Query) (f : Query) (fs : List Query) → list_any (query_eq f) seen ≡ true → unseen seen (filter (λ g. not (query_eq f g)) fs) ≡ unseen seen fs
unseen-again seen f fs e = filter_stronger (λ g. not (list_any (query_eq g) seen)) (λ g. not (query_eq f g))
    (λ g h. other g (query_eq f g) refl h) fs
  where
    other : (g : Query) (b : Bool) → query_eq f g ≡ b → not (list_any (query_eq g) seen) ≡ true → not (query_eq f g) ≡ true
    other g true same h = absurd (true≢false (sym e ∙ ap (λ x. list_any (query_eq x) seen) ((query_eq_tells f g).0 same) ∙ not_false _ h))
    other g false same h = ap not same

-- a form that is new is seen from then on
pub unseen-new : (seen : List Query) (f : Query) (fs : List Query) → unseen seen (filter (λ g. not (query_eq f g)) fs) ≡ unseen (seen ++ f ∷ []) fs
unseen-new seen f fs = filter_both (λ g. not (list_any (query_eq g) seen)) (λ g. not (query_eq f g)) (λ g. not (list_any (query_eq g) (seen ++ f ∷ [])))
    (λ g. either (query_eq f g) (list_any (query_eq g) seen) ∙ ap not (ap (λ b. list_any (query_eq g) seen || (b || false)) (turned g) ∙ sym (list_any-append (query_eq g) seen (f ∷ [])))) fs
  where
    either : (a b : Bool) → (not a && not b) ≡ not (b || (a || false))
    either true true = refl
    either true false = refl
    either false true = refl
    either false false = refl

    turned : (g : Query) → query_eq f g ≡ query_eq g f
    turned g = same_tests (query_eq f g) (query_eq g f)
        (λ e. (query_eq_tells g f).1 (sym ((query_eq_tells f g).0 e)))
        (λ e. (query_eq_tells f g).1 (sym ((query_eq_tells g f).0 e)))

-- one listener on: its form was seen
pub seen_more : (seen : List Query) (l : Registered) (ls : List Registered) → list_any (query_eq l.1) seen ≡ true → seen ++ unseen seen (forms (l ∷ ls)) ≡ seen ++ unseen seen (forms ls)
seen_more seen l ls e =
    ap (λ z. seen ++ z) (ap (λ b. cond (not b) (l.1 ∷ rest) rest) e ∙ unseen-again seen (l.1) (forms ls) e)
  where
    rest : List Query
    rest = unseen seen (filter (λ g. not (query_eq l.1 g)) (forms ls))

-- or it is new
pub new_more : (seen : List Query) (l : Registered) (ls : List Registered) → list_any (query_eq l.1) seen ≡ false → seen ++ unseen seen (forms (l ∷ ls)) ≡ (seen ++ l.1 ∷ []) ++ unseen (seen ++ l.1 ∷ []) (forms ls)
new_more seen l ls e =
    ap (λ z. seen ++ z) (ap (λ b. cond (not b) (l.1 ∷ rest) rest) e ∙ ap (λ z. l.1 ∷ z) (unseen-new seen (l.1) (forms ls)))
    ∙ sym (append_assoc seen (l.1 ∷ []) (unseen (seen ++ l.1 ∷ []) (forms ls)))
  where
    rest : List Query
    rest = unseen seen (filter (λ g. not (query_eq l.1 g)) (forms ls))

-- nothing was seen before the first
pub unseen_none : (fs : List Query) → unseen [] fs ≡ fs
unseen_none [] = refl
unseen_none (f ∷ fs) = ap (λ z. f ∷ z) (unseen_none fs)

-- one step of the loop
pub forms_more : (seen new : List Query) (ls : List Registered) (i : ℕ) (l : Registered) → i < length ls → l ≡ get_or ls i l
    → new ≡ cond (list_any (query_eq l.1) seen) seen (seen ++ l.1 ∷ [])
    → seen ++ unseen seen (forms (drop i ls)) ≡ forms ls → new ++ unseen new (forms (drop (i + 1) ls)) ≡ forms ls
forms_more seen new ls i l lt is e inv =
    elim (list_any (query_eq l.1) seen) as (λ b. list_any (query_eq l.1) seen ≡ b → new ≡ cond b seen (seen ++ l.1 ∷ []) → new ++ unseen new (forms (drop (i + 1) ls)) ≡ forms ls) [
      | true ↦ λ was same. ap (λ z. z ++ unseen z (forms (drop (i + 1) ls))) same ∙ sym (seen_more seen l (drop (i + 1) ls) was) ∙ here ∙ inv
      | false ↦ λ was same. ap (λ z. z ++ unseen z (forms (drop (i + 1) ls))) same ∙ sym (new_more seen l (drop (i + 1) ls) was) ∙ here ∙ inv
    ] refl e
  where
    here : seen ++ unseen seen (forms (l ∷ drop (i + 1) ls)) ≡ seen ++ unseen seen (forms (drop i ls))
    here = ap (λ z. seen ++ unseen seen (forms z)) (ap (λ x. x ∷ drop (i + 1) ls) is ∙ sym (drop_more ls i l lt))
