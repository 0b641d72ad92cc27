-- The numbers of places that are found.
use Rattle.std.proofs.Common.{◌≡◌, ℕ, zero, suc, ◌+◌, ◌-◌, ◌<◌, ◌≤◌, Bool, true, false, ◌||◌, List, [], ◌∷◌, ◌++◌, length, take, drop, get_or, map, refl, sym, ap, ◌∙◌, arith}
use Rattle.std.specs.Prelude.{◌==◌}
use Rattle.std.specs.Cmp.{nat_eq_equiv}
use Rattle.std.specs.List.{list_any}
use Rattle.std.specs.Result.{OnOk}
use Rattle.std.specs.declared.result.Result.{Result}
use Rattle.std.specs.declared.result.Result.TheVariants.{Ok, Err}
use Rattle.std.proofs.Math.Seq.{take-length}
use Rattle.std.proofs.lemmas.List.{get_or-map, length-map, length-drop}
use Rattle.std.proofs.lemmas.List.Folds.{list_any-append, list_any_at}
use Rattle.rt_parts.specs.declared.places.ListenerPlace.{ListenerPlace}
use Rattle.rt_parts.specs.inside.Placed.{Keeps}

-- what follows of what an `Ok` ensures
pub on_ok : {A E P Q : Type 0} (r : Result A E) → OnOk r P → (P → Q) → OnOk r Q
on_ok (Ok x) p f = f p
on_ok (Err e) p f = tt

or_true : (b : Bool) → (b || true) ≡ true
or_true true = refl
or_true false = refl

pub or_cases : {Z : Type 0} (a b : Bool) → (a || b) ≡ true → (a ≡ true → Z) → (b ≡ true → Z) → Z
or_cases true b e f g = f refl
or_cases false b e f g = g e

-- the list behind the first
pub rest_is : {X : Type 0} (ls : List X) (first : ℕ) → take (length ls - first) (drop first ls) ≡ drop first ls
rest_is ls first = ap (λ n. take n (drop first ls)) (sym (length-drop first ls)) ∙ take-length (drop first ls)

pub keeps_append : (old more : List ℕ) → Keeps old (old ++ more)
keeps_append old more p e = list_any-append p old more ∙ ap (λ b. b || list_any p more) e

pub keeps_same : (xs : List ℕ) → Keeps xs xs
keeps_same xs p e = e

pub keeps_both : (xs ys zs : List ℕ) → Keeps xs ys → Keeps ys zs → Keeps xs zs
keeps_both xs ys zs a b p e = b p (a p e)

-- one that is found has its number among them
pub has_found : (old : List ℕ) (found : List ListenerPlace) (x : ListenerPlace) (j : ℕ) (d : ListenerPlace) → j < length found → get_or found j d ≡ x
    → list_any (λ n. x.number == n) (old ++ map (λ (y : ListenerPlace). y.number) found) ≡ true
has_found old found x j d lt e =
    list_any-append (λ n. x.number == n) old (map (λ (y : ListenerPlace). y.number) found)
    ∙ ap (λ b. list_any (λ n. x.number == n) old || b)
    (list_any_at (λ n. x.number == n) (map (λ (y : ListenerPlace). y.number) found) j d.number (omega (arith, lt, length-map found (λ (y : ListenerPlace). y.number)))
    (ap (λ n. x.number == n) (get_or-map (λ (y : ListenerPlace). y.number) found j d d.number lt ∙ ap (λ (y : ListenerPlace). y.number) e) ∙ nat_eq_equiv.refl x.number))
    ∙ or_true (list_any (λ n. x.number == n) old)

pub taken_all : {X : Type 0} (n : ℕ) (xs : List X) → length xs ≤ n → take n xs ≡ xs
taken_all zero [] le = refl
taken_all (suc n) [] le = refl
taken_all zero (x ∷ xs) le = absurd (omega (arith, le))
taken_all (suc n) (x ∷ xs) le = ap (λ ys. x ∷ ys) (taken_all n xs (omega (arith, le)))

-- and what follows of two
pub on_both : {A E P Q R : Type 0} (r : Result A E) → OnOk r P → OnOk r Q → (P → Q → R) → OnOk r R
on_both (Ok x) p q f = f p q
on_both (Err e) p q f = tt
