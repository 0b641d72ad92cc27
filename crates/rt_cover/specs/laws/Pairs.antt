-- Lists of which each element stands in a relation with each later one, and filters.
use Rattle.std.proofs.Common.{◌≡◌, ℕ, zero, suc, ◌+◌, ◌<◌, Bool, true, false, cond, ◌⊎◌, inl, inr}
use Rattle.std.proofs.Common.{List, [], ◌∷◌, ◌++◌, map, length, drop, refl, sym, ap, subst, ◌∙◌}
use Rattle.std.proofs.Common.{slice_index_or, arith, append_assoc}
use Rattle.std.specs.List.{filter, All, AllPairs, Any, Contains}
use Rattle.std.proofs.lemmas.List.{drop_more}
use Rattle.std.proofs.lemmas.List.Elements.{All-head, All-tail, All-cons, Contains-get_or}
use Rattle.std.proofs.lemmas.List.Kept.{AllPairs-cons}
use Rattle.rt_cover.specs.laws.KeepLaws.{Contains-from_map, length_of_map}

-- ---- membership

pub Contains-head : {X : Type 0} (x : X) (xs : List X) → Contains (x ∷ xs) x
Contains-head x xs = (0, omega arith, refl)

pub Contains-later : {X : Type 0} (x : X) (xs : List X) (y : X) → Contains xs y → Contains (x ∷ xs) y
Contains-later x xs y m = (suc m.0, omega (arith, m.1), m.2)

pub Contains-cases : {X : Type 0} (x : X) (xs : List X) (y : X) → Contains (x ∷ xs) y → (x ≡ y)
    ⊎ Contains xs y
Contains-cases x xs y m = at m.0 m.1 m.2
  where
    at : (k : ℕ) → k < length (x ∷ xs) → slice_index_or (x ∷ xs) k y ≡ y → (x ≡ y) ⊎ Contains xs y
    at zero lt e = inl e
    at (suc k) lt e = inr (k, omega arith, e)

-- what holds of what a list is mapped to
pub Any-from_map : {X Y : Type 0} (f : X → Y) (P : Y → Type 0) (xs : List X) → Any P (map f xs)
    → Any (λ x. P (f x)) xs
Any-from_map f P xs a =
    let m = Contains-from_map f xs a.0 a.1 (subst (λ n. a.0 < n) (length_of_map f xs) a.2) a.3 in
    ((m.1).0, m.0, (m.1).1, (m.1).2, subst P (sym m.2) a.4)

-- what holds of each that is contained
pub All-from_contained : {X : Type 0} (P : X → Type 0) (xs : List X)
    → ((x : X) → Contains xs x → P x) → All P xs
All-from_contained P xs h k d lt = h (slice_index_or xs k d) (Contains-get_or xs k d lt)

-- ---- pairs

pub AllPairs-nil : {X : Type 0} (R : X → X → Type 0) → AllPairs R []
AllPairs-nil R i j d lt within = absurd (omega arith)

pub AllPairs-first : {X : Type 0} (R : X → X → Type 0) (x : X) (xs : List X) → AllPairs R (x ∷ xs)
    → All (R x) xs
AllPairs-first R x xs h k d lt = h 0 (suc k) d (omega arith) (omega arith)

pub AllPairs-rest : {X : Type 0} (R : X → X → Type 0) (x : X) (xs : List X) → AllPairs R (x ∷ xs)
    → AllPairs R xs
AllPairs-rest R x xs h i j d lt within = h (suc i) (suc j) d (omega arith) (omega arith)

pub AllPairs-append : {X : Type 0} (R : X → X → Type 0) (xs ys : List X) → AllPairs R xs
    → AllPairs R ys → ((x y : X) → Contains xs x → Contains ys y → R x y) → AllPairs R (xs ++ ys)
AllPairs-append {X = X} R [] ys a b across = b
AllPairs-append {X = X} R (x ∷ xs) ys a b across =
    AllPairs-cons R x (xs ++ ys)
    (all (xs) (AllPairs-first R x xs a))
    (AllPairs-append R xs ys (AllPairs-rest R x xs a) b (λ u v mu mv.
    across u v (Contains-later x xs u mu) mv))
  where
    here : All (R x) ys
    here k d lt = across x (slice_index_or ys k d) (Contains-head x xs) (Contains-get_or ys k d lt)

    all : (zs : List X) → All (R x) zs → All (R x) (zs ++ ys)
    all [] h = here
    all (z ∷ zs) h = All-cons (R x) z (zs ++ ys) (All-head (R x) z zs h)
        (all zs (All-tail (R x) z zs h))

-- of the mapped ones, by the relation of what they are mapped to
pub AllPairs-map : {X Y : Type 0} (f : X → Y) (R : Y → Y → Type 0) (xs : List X)
    → AllPairs (λ x y. R (f x) (f y)) xs → AllPairs R (map f xs)
AllPairs-map {X = X} {Y = Y} f R [] h = AllPairs-nil R
AllPairs-map {X = X} {Y = Y} f R (x ∷ xs) h =
    AllPairs-cons R (f x) (map f xs) (mapped xs (AllPairs-first (λ u v. R (f u) (f v)) x xs h))
    (AllPairs-map f R xs (AllPairs-rest (λ u v. R (f u) (f v)) x xs h))
  where
    mapped : (ys : List X) → All (λ y. R (f x) (f y)) ys → All (R (f x)) (map f ys)
    mapped [] a = λ k d lt. absurd (omega arith)
    mapped (y ∷ ys) a = All-cons (R (f x)) (f y) (map f ys) (All-head (λ z. R (f x) (f z)) y ys a)
        (mapped ys (All-tail (λ z. R (f x) (f z)) y ys a))

pub AllPairs-from_map : {X Y : Type 0} (f : X → Y) (R : Y → Y → Type 0) (xs : List X)
    → AllPairs R (map f xs) → AllPairs (λ x y. R (f x) (f y)) xs
AllPairs-from_map {X = X} {Y = Y} f R [] h = AllPairs-nil (λ x y. R (f x) (f y))
AllPairs-from_map {X = X} {Y = Y} f R (x ∷ xs) h =
    AllPairs-cons (λ u v. R (f u) (f v)) x xs (mapped xs (AllPairs-first R (f x) (map f xs) h))
    (AllPairs-from_map f R xs (AllPairs-rest R (f x) (map f xs) h))
  where
    mapped : (ys : List X) → All (R (f x)) (map f ys) → All (λ y. R (f x) (f y)) ys
    mapped [] a = λ k d lt. absurd (omega arith)
    mapped (y ∷ ys) a = All-cons (λ z. R (f x) (f z)) y ys (All-head (R (f x)) (f y) (map f ys) a)
        (mapped ys (All-tail (R (f x)) (f y) (map f ys) a))

-- another relation, where it follows for the elements
pub AllPairs-weaker : {X : Type 0} (R S : X → X → Type 0) (xs : List X)
    → ((x y : X) → Contains xs x → Contains xs y → R x y → S x y) → AllPairs R xs → AllPairs S xs
AllPairs-weaker R S xs f h i j d lt within =
    f (slice_index_or xs i d) (slice_index_or xs j d) (Contains-get_or xs i d (omega arith))
    (Contains-get_or xs j d within) (h i j d lt within)

-- two elements of a list by their places
pub AllPairs-three : {X : Type 0} (R : X → X → Type 0) (xs : List X) (x y : X) → AllPairs R xs
    → Contains xs x → Contains xs y → R x y ⊎ (R y x ⊎ (x ≡ y))
AllPairs-three {X = X} R [] x y h mx my = absurd (omega (arith, mx.1))
AllPairs-three {X = X} R (z ∷ zs) x y h mx my =
    elim (Contains-cases z zs x mx) [
      | inl e ↦ elim (Contains-cases z zs y my) [
        | inl f ↦ inr (inr (sym e ∙ f))
        | inr n ↦ inl (subst (λ u. R u y) e (at y n))
      ]
      | inr m ↦ elim (Contains-cases z zs y my) [
        | inl f ↦ inr (inl (subst (λ u. R u x) f (at x m)))
        | inr n ↦ AllPairs-three R zs x y (AllPairs-rest R z zs h) m n
      ]
    ]
  where
    at : (u : X) → Contains zs u → R z u
    at u m = subst (R z) m.2 (AllPairs-first R z zs h m.0 u m.1)

-- ---- filters

pub filter_none : {X : Type 0} (p : X → Bool) (xs : List X) → All (λ x. p x ≡ false) xs
    → filter p xs ≡ []
filter_none p [] h = refl
filter_none p (x ∷ xs) h = ap (λ b. cond b (x ∷ filter p xs) (filter p xs))
    (All-head (λ y. p y ≡ false) x xs h) ∙ filter_none p xs (All-tail (λ y. p y ≡ false) x xs h)

pub filter_all : {X : Type 0} (p : X → Bool) (xs : List X) → All (λ x. p x ≡ true) xs → filter p xs ≡ xs
filter_all p [] h = refl
filter_all p (x ∷ xs) h = ap (λ b. cond b (x ∷ filter p xs) (filter p xs))
    (All-head (λ y. p y ≡ true) x xs h)
    ∙ ap (λ ys. x ∷ ys) (filter_all p xs (All-tail (λ y. p y ≡ true) x xs h))

pub filter_agreeing : {X : Type 0} (p q : X → Bool) (xs : List X) → All (λ x. p x ≡ q x) xs
    → filter p xs ≡ filter q xs
filter_agreeing p q [] h = refl
filter_agreeing p q (x ∷ xs) h =
    let rest = filter_agreeing p q xs (All-tail (λ y. p y ≡ q y) x xs h) in
    ap (λ b. cond b (x ∷ filter p xs) (filter p xs)) (All-head (λ y. p y ≡ q y) x xs h)
    ∙ ap (λ ys. cond (q x) (x ∷ ys) ys) rest

-- ---- one element after another

-- an element that passes is added
pub filter_takes : {X : Type 0} (p : X → Bool) (done new all xs : List X) (i : ℕ) (x : X)
    → i < length xs → x ≡ slice_index_or xs i x → p x ≡ true → new ≡ done ++ x ∷ []
    → done ++ filter p (drop i xs) ≡ all → new ++ filter p (drop (i + 1) xs) ≡ all
filter_takes p done new all xs i x lt is e added inv =
    ap (λ z. z ++ filter p (drop (i + 1) xs)) added
    ∙ append_assoc done (x ∷ []) (filter p (drop (i + 1) xs))
    ∙ ap (λ z. done ++ z)
    (ap (λ b. cond b (x ∷ filter p (drop (i + 1) xs)) (filter p (drop (i + 1) xs))) (sym e)
    ∙ ap (filter p) (ap (λ y. y ∷ drop (i + 1) xs) is ∙ sym (drop_more xs i x lt)))
    ∙ inv

-- another is left out
pub filter_leaves : {X : Type 0} (p : X → Bool) (done new all xs : List X) (i : ℕ) (x : X)
    → i < length xs → x ≡ slice_index_or xs i x → p x ≡ false → new ≡ done
    → done ++ filter p (drop i xs) ≡ all → new ++ filter p (drop (i + 1) xs) ≡ all
filter_leaves p done new all xs i x lt is e same inv =
    ap (λ z. z ++ filter p (drop (i + 1) xs)) same
    ∙ ap (λ z. done ++ z)
    (ap (λ b. cond b (x ∷ filter p (drop (i + 1) xs)) (filter p (drop (i + 1) xs))) (sym e)
    ∙ ap (filter p) (ap (λ y. y ∷ drop (i + 1) xs) is ∙ sym (drop_more xs i x lt)))
    ∙ inv
