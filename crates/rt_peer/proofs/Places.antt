-- Lists in which each later one stands to an earlier one as asked, and what is put in its place.
use Rattle.std.proofs.Common.{◌≡◌, ℕ, ◌==◌, Bool, true, false, cond, not, ◌||◌, nat_lt, zero, suc}
use Rattle.std.proofs.Common.{List, [], ◌∷◌, ◌++◌, refl, sym, ap, ◌∙◌, arith, map}
use Rattle.std.specs.List.{All, AllPairs, filter, list_any}
use Rattle.std.proofs.lemmas.List.Elements.{All-append, All-cons, All-filter, All-head, All-map, All-tail, filter_passes}
use Rattle.std.proofs.lemmas.List.Folds.{list_any-append}
use Rattle.std.proofs.lemmas.List.Kept.{AllPairs-cons, AllPairs-filter}
use Rattle.rt_peer.specs.Peers.{in_place, is_known}

-- ---- elements

pub filter_with : {X : Type 0} (p : X → Bool) (P Q : X → Type 0) (xs : List X) → All P xs
    → ((x : X) → p x ≡ true → P x → Q x) → All Q (filter p xs)
filter_with p P Q xs h f k d lt = f _ (filter_passes p xs k d lt) (All-filter p P xs h k d lt)

pub all-in_place : {X : Type 0} (P : X → Type 0) (before : X → X → Bool) (x : X) (xs : List X)
    → All P xs → P x → All P (in_place before x xs)
all-in_place P before x xs h px =
    All-append P (filter (λ y. not (before x y)) xs) (x ∷ filter (before x) xs)
    (All-filter (λ y. not (before x y)) P xs h)
    (All-cons P x (filter (before x) xs) px (All-filter (before x) P xs h))

-- ---- pairs

module _ {X : Type 0} (R : X → X → Type 0) where
  pub pairs_head : (x : X) (xs : List X) → AllPairs R (x ∷ xs) → All (R x) xs
  pairs_head x xs h k d lt = h zero (suc k) d (omega arith) (omega arith)

  pub pairs_tail : (x : X) (xs : List X) → AllPairs R (x ∷ xs) → AllPairs R xs
  pairs_tail x xs h i j d lt within = h (suc i) (suc j) d (omega arith) (omega arith)

  pub pairs-append : (xs ys : List X) → AllPairs R xs → AllPairs R ys → All (λ x. All (R x) ys) xs
      → AllPairs R (xs ++ ys)
  pairs-append [] ys h k a = k
  pairs-append (x ∷ xs) ys h k a =
      AllPairs-cons R x (xs ++ ys)
      (All-append (R x) xs ys (pairs_head x xs h) (All-head (λ y. All (R y) ys) x xs a))
      (pairs-append xs ys (pairs_tail x xs h) k (All-tail (λ y. All (R y) ys) x xs a))

  pub pairs-map : (f : X → X) → ((x y : X) → R x y → R (f x) (f y)) → (xs : List X) → AllPairs R xs
      → AllPairs R (map f xs)
  pairs-map f k [] h = h
  pairs-map f k (x ∷ xs) h =
      AllPairs-cons R (f x) (map f xs)
      (All-map (R (f x)) f xs (λ i d lt. k x _ (pairs_head x xs h i d lt)))
      (pairs-map f k xs (pairs_tail x xs h))

  pub pairs-in_place : (before : X → X → Bool) (x : X) (xs : List X) → AllPairs R xs
      → All (λ y. before x y ≡ false → R y x) xs
      → ((y : X) → before x y ≡ true → R x y)
      → ((y z : X) → R y x → R x z → R y z)
      → AllPairs R (in_place before x xs)
  pairs-in_place before x xs h front behind through =
      let fronts = filter (λ y. not (before x y)) xs in
      let behinds = filter (before x) xs in
      let ahead : All (λ y. R y x) fronts =
      filter_with (λ y. not (before x y)) (λ y. before x y ≡ false → R y x) (λ y. R y x) xs front
      (λ y e k. k (not_true (before x y) e)) in
      let after : All (R x) behinds = λ k d lt. behind _ (filter_passes (before x) xs k d lt) in
      pairs-append fronts (x ∷ behinds) (AllPairs-filter R (λ y. not (before x y)) xs h)
      (AllPairs-cons R x behinds after (AllPairs-filter R (before x) xs h))
      (λ k d lt. All-cons (R _) x behinds (ahead k d lt)
      (λ i e within. through _ _ (ahead k d lt) (after i e within)))
    where
      not_true : (b : Bool) → not b ≡ true → b ≡ false
      not_true true e = sym e
      not_true false e = refl

-- ---- known numbers

pub swapped : (a t b : Bool) → (a || (t || b)) ≡ (t || (a || b))
swapped true true b = refl
swapped true false b = refl
swapped false t b = refl

apart : (t a b : Bool) → ((t || a) || b) ≡ (t || (a || b))
apart true a b = refl
apart false a b = refl

pub any-parted : {X : Type 0} (test q : X → Bool) (xs : List X)
    → (list_any test (filter (λ y. not (q y)) xs) || list_any test (filter q xs)) ≡ list_any test xs
any-parted test q [] = refl
any-parted test q (x ∷ xs) =
    let front = filter (λ y. not (q y)) xs in
    let behind = filter q xs in
    let rest : (test x || (list_any test front || list_any test behind))
    ≡ (test x || list_any test xs) =
    ap (λ r. test x || r) (any-parted test q xs) in
    elim (q x) as (λ b. (list_any test (cond (not b) (x ∷ front) front)
    || list_any test (cond b (x ∷ behind) behind)) ≡ (test x || list_any test xs)) [
      | true ↦ swapped (list_any test front) (test x) (list_any test behind) ∙ rest
      | false ↦ apart (test x) (list_any test front) (list_any test behind) ∙ rest
    ]

either_true : (t r : Bool) → r ≡ true → (t || r) ≡ true
either_true true r e = refl
either_true false r e = e

-- a number is still known where another one has come
pub known-in_place : (n k : ℕ) (ms : List ℕ) → is_known ms k ≡ true
    → is_known (in_place nat_lt n ms) k ≡ true
known-in_place n k ms e =
    let test : ℕ → Bool = λ m. m == k in
    let front = filter (λ m. not (nat_lt n m)) ms in
    let behind = filter (nat_lt n) ms in
    list_any-append test front (n ∷ behind)
    ∙ swapped (list_any test front) (test n) (list_any test behind)
    ∙ either_true (test n) (list_any test front || list_any test behind)
    (any-parted test (nat_lt n) ms ∙ e)
