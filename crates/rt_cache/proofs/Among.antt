-- Queries among others, and those of them that pass a test.
use Rattle.std.proofs.Common.{◌≡◌, Bool, true, false, cond, not, ◌&&◌, ◌||◌, List, [], ◌∷◌, refl, sym, ap, subst, ◌∙◌}
use Rattle.std.specs.List.{filter, list_any, All, Contains}
use Rattle.std.proofs.lemmas.List.Elements.{All-head, All-tail}
use Rattle.std.proofs.lemmas.List.Folds.{Any-from_list_any, list_any_at}
use Rattle.rt_query.specs.Queries.{Query}
use Rattle.rt_query.specs.QueryEq.{query_eq}
use Rattle.rt_query.specs.Supply.{does_supply}
use Rattle.rt_query.specs.Needed.{needed}
use Rattle.rt_query.specs.laws.QueryEq.{query_eq_tells}
use Rattle.rt_cache.specs.Brought.{is_supplied}
use Rattle.rt_cache.specs.Recover.{is_among}

pub any_with : {X : Type 0} (p : X → Bool) (xs : List X) (x : X) → Contains xs x → p x ≡ true → list_any p xs ≡ true
any_with p xs x m e = list_any_at p xs m.0 x m.1 (ap p m.2 ∙ e)

pub among : (registered : List Query) (q : Query) → Contains registered q → is_among registered q ≡ true
among registered q m = any_with (λ x. query_eq x q) registered q m ((query_eq_tells q q).1 refl)

-- a query among them is one of them
pub of_among : (xs : List Query) (q : Query) → is_among xs q ≡ true → Contains xs q
of_among xs q e =
    let a = Any-from_list_any (λ x. query_eq x q) xs e in
    subst (Contains xs) ((query_eq_tells a.1 q).0 a.4) (a.0, a.2, a.3)

-- one that passes both tests
pub any_passing : {X : Type 0} (p q : X → Bool) (xs : List X) → list_any p (filter q xs) ≡ list_any (λ x. p x && q x) xs
any_passing p q [] = refl
any_passing p q (x ∷ xs) =
    elim (q x) as (λ b. list_any p (cond b (x ∷ filter q xs) (filter q xs)) ≡ ((p x && b) || list_any (λ y. p y && q y) xs)) [
      | true ↦ (λ i. one (p x) (any_passing p q xs i) i)
      | false ↦ any_passing p q xs ∙ sym (ap (λ b. b || list_any (λ y. p y && q y) xs) (no (p x)))
    ]
  where
    one : (a b : Bool) → (a || b) ≡ ((a && true) || b)
    one true b = refl
    one false b = refl

    no : (a : Bool) → (a && false) ≡ false
    no true = refl
    no false = refl

-- tests that agree
pub any_agreeing : {X : Type 0} (p q : X → Bool) (xs : List X) → All (λ x. p x ≡ q x) xs → list_any p xs ≡ list_any q xs
any_agreeing p q [] h = refl
any_agreeing p q (x ∷ xs) h = λ i. All-head (λ y. p y ≡ q y) x xs h i || any_agreeing p q xs (All-tail (λ y. p y ≡ q y) x xs h) i

pub filter_agreeing : {X : Type 0} (p q : X → Bool) (xs : List X) → All (λ x. p x ≡ q x) xs → filter p xs ≡ filter q xs
filter_agreeing p q [] h = refl
filter_agreeing p q (x ∷ xs) h = λ i.
    cond (All-head (λ y. p y ≡ q y) x xs h i) (x ∷ filter_agreeing p q xs (All-tail (λ y. p y ≡ q y) x xs h) i) (filter_agreeing p q xs (All-tail (λ y. p y ≡ q y) x xs h) i)

-- of a list that passes by p where another does by q, the same are needed
pub needed_alike : (xs ys : List Query) → ((p : Query → Bool) → list_any p xs ≡ list_any p ys) → (x : Query) → is_among (needed xs) x ≡ is_among (needed ys) x
needed_alike xs ys same x =
    any_passing (λ q. query_eq q x) (λ f. not (is_supplied xs f)) xs
    ∙ same (λ q. query_eq q x && not (is_supplied xs q))
    ∙ ap (λ (s : Query → Bool). list_any (λ q. query_eq q x && not (s q)) ys) (λ i q. same (λ f. not (query_eq f q) && does_supply f q) i)
    ∙ sym (any_passing (λ q. query_eq q x) (λ f. not (is_supplied ys f)) ys)
