-- A form is registered where a listener has it.
use Rattle.std.proofs.Common.{◌≡◌, Bool, true, false, cond, not, ◌||◌, List, [], ◌∷◌, map, refl, sym}
use Rattle.std.proofs.Common.{ap, ◌∙◌}
use mathlib.Core.Bool.{true≢false}
use Rattle.std.specs.List.{filter, list_any}
use Rattle.rt_query.specs.Queries.{Query}
use Rattle.rt_query.specs.QueryEq.{query_eq}
use Rattle.rt_query.specs.laws.QueryEq.{query_eq_tells}
use Rattle.rt_cover.specs.Cover.{Registered, distinct, forms}

-- an element passes a test, or none does, as before, where others were left out that fail it
any_others : (p r : Query → Bool) (xs : List Query) → ((y : Query) → r y ≡ false → p y ≡ false)
    → list_any p (filter r xs) ≡ list_any p xs
any_others p r [] h = refl
any_others p r (x ∷ xs) h =
    elim (r x) as (λ b. r x ≡ b → list_any p (cond b (x ∷ filter r xs) (filter r xs))
    ≡ (p x || list_any p xs)) [
      | true ↦ λ e. ap (λ b. p x || b) (any_others p r xs h)
      | false ↦ λ e. any_others p r xs h ∙ ap (λ b. b || list_any p xs) (sym (h x e))
    ] refl

any_distinct : (f : Query) (xs : List Query)
    → list_any (λ x. query_eq x f) (distinct query_eq xs) ≡ list_any (λ x. query_eq x f) xs
any_distinct f [] = refl
any_distinct f (x ∷ xs) =
    elim (query_eq x f) as (λ b. query_eq x f ≡ b → (b || list_any (λ y. query_eq y f)
    (filter (λ y. not (query_eq x y)) (distinct query_eq xs)))
    ≡ (b || list_any (λ y. query_eq y f) xs)) [
      | true ↦ λ e. refl
      | false ↦ λ e.
          any_others (λ y. query_eq y f) (λ y. not (query_eq x y)) (distinct query_eq xs) (λ y same.
          sym (ap (λ z. query_eq z f) ((query_eq_tells x y).0 (yes (query_eq x y) same))) ∙ e)
          ∙ any_distinct f xs
    ] refl
  where
    yes : (b : Bool) → not b ≡ false → b ≡ true
    yes true e = refl
    yes false e = absurd (true≢false e)

any_listener : (f : Query) (ls : List Registered)
    → list_any (λ x. query_eq x f) (map (λ (l : Registered). l.1) ls)
    ≡ list_any (λ (l : Registered). query_eq l.1 f) ls
any_listener f [] = refl
any_listener f (l ∷ ls) = ap (λ b. query_eq l.1 f || b) (any_listener f ls)

-- it is one of the forms then
pub any_form : (f : Query) (ls : List Registered) → list_any (λ x. query_eq x f) (forms ls)
    ≡ list_any (λ (l : Registered). query_eq l.1 f) ls
any_form f ls = any_distinct f (map (λ (l : Registered). l.1) ls) ∙ any_listener f ls
