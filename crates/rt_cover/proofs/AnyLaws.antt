-- Lists that are gone over for whether any in them is so.
use Rattle.std.proofs.Common.{◌≡◌, ℕ, ◌+◌, ◌<◌, Bool, true, false, ◌||◌, List, [], ◌∷◌, length, take, drop, get_or, refl, sym, ap, ◌∙◌, arith}
use Rattle.std.specs.List.{list_any}
use Rattle.std.proofs.lemmas.List.{drop_more, take-append-drop}
use Rattle.std.proofs.lemmas.List.Folds.{list_any-append}

or_assoc : (a b c : Bool) → ((a || b) || c) ≡ (a || (b || c))
or_assoc true b c = refl
or_assoc false b c = refl

pub or_no : (b : Bool) → b ≡ (b || false)
or_no true = refl
or_no false = refl

-- whether it is so of the first
pub any_first : {X : Type 0} (f : X → Bool) (xs : List X) (d : X) → 0 < length xs → f (get_or xs 0 d) ≡ list_any f (take 1 xs)
any_first f [] d lt = absurd (omega (arith, lt))
any_first f (x ∷ xs) d lt = or_no (f x)

-- one more of those that are left is told of
pub any_at : {X : Type 0} (f : X → Bool) (done new all : Bool) (xs : List X) (i : ℕ) (d : X)
    → i < length xs → new ≡ (done || f (get_or xs i d))
    → (done || list_any f (drop i xs)) ≡ all → (new || list_any f (drop (i + 1) xs)) ≡ all
any_at f done new all xs i d lt told inv =
    ap (λ b. b || list_any f (drop (i + 1) xs)) told
    ∙ or_assoc done (f (get_or xs i d)) (list_any f (drop (i + 1) xs))
    ∙ ap (λ z. done || list_any f z) (sym (drop_more xs i d lt))
    ∙ inv

pub any_more : {X : Type 0} (f : X → Bool) (done new all : Bool) (xs : List X) (i : ℕ) (x : X)
    → i < length xs → x ≡ get_or xs i x → new ≡ (done || f x)
    → (done || list_any f (drop i xs)) ≡ all → (new || list_any f (drop (i + 1) xs)) ≡ all
any_more f done new all xs i x lt is told inv = any_at f done new all xs i x lt (told ∙ ap (λ y. done || f y) is) inv

-- some in front of those that are left are told of
pub any_front : {X : Type 0} (f : X → Bool) (done new all : Bool) (xs : List X) (n : ℕ) → new ≡ (done || list_any f (take n xs))
    → (done || list_any f xs) ≡ all → (new || list_any f (drop n xs)) ≡ all
any_front f done new all xs n told inv =
    ap (λ b. b || list_any f (drop n xs)) told
    ∙ or_assoc done (list_any f (take n xs)) (list_any f (drop n xs))
    ∙ ap (λ b. done || b) (sym (list_any-append f (take n xs) (drop n xs)) ∙ ap (list_any f) (take-append-drop n xs))
    ∙ inv

-- all are told of
pub any_done : {X : Type 0} (f : X → Bool) (done all : Bool) (xs : List X) → length xs ≡ 0 → (done || list_any f xs) ≡ all → done ≡ all
any_done f done all [] none inv = or_no done ∙ inv
any_done f done all (x ∷ xs) none inv = absurd (omega (arith, none))
