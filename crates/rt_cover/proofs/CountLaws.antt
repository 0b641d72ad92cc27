-- Lists with as many elements of each kind, in whatever order.
use Rattle.std.proofs.Common.{◌≡◌, ℕ, zero, suc, ◌+◌, ◌<◌, ◌≤◌, ◌==◌, nat_lt, Bool, true, false, cond, ◌&&◌, ◌||◌, List, [], ◌∷◌, ◌++◌, map, refl, sym, ap, ◌∙◌, arith, eqb-true, eq-eqb, length, slice_index_or}
use mathlib.Core.Bool.{true≢false}
use Rattle.std.specs.List.{filter, insert, list_any, count_by, AllPairs}
use Rattle.std.specs.List.Sorted.{IsPermutation}
use Rattle.std.proofs.lemmas.Bool.Decides.{nat_tests}
use Rattle.std.proofs.lemmas.List.Sums.{sum_by-append, sum_by-cons, sum_by-insert}
use Rattle.std.proofs.lemmas.List.Sorted.{sum_by-IsPermutation}
use Rattle.std.proofs.lemmas.List.Folds.{Any-from_list_any}
use Rattle.rt_cover.specs.inside.Index.{SameCounts}
use Rattle.rt_cover.specs.laws.Pairs.{AllPairs-first, AllPairs-rest}

-- ---- counts

pub count_append : {X : Type 0} (p : X → Bool) (xs ys : List X) → count_by p (xs ++ ys) ≡ count_by p xs + count_by p ys
count_append p xs ys = sum_by-append (λ x. cond (p x) 1 0) xs ys

pub count_cons : {X : Type 0} (p : X → Bool) (x : X) (xs : List X) → count_by p (x ∷ xs) ≡ cond (p x) 1 0 + count_by p xs
count_cons p x xs = sum_by-cons (λ y. cond (p y) 1 0) x xs

none_more : (n : ℕ) → n ≡ 0 + n
none_more n = omega arith

pub count_filter : {X : Type 0} (p s : X → Bool) (xs : List X) → count_by p (filter s xs) ≡ count_by (λ x. s x && p x) xs
count_filter p s [] = refl
count_filter {X = X} p s (x ∷ xs) =
    elim (s x) as (λ b. count_by p (cond b (x ∷ filter s xs) (filter s xs)) ≡ cond (b && p x) 1 0 + count_by (λ y. s y && p y) xs) [
      | true ↦ count_cons p x (filter s xs) ∙ ap (λ n. cond (p x) 1 0 + n) (count_filter p s xs)
      | false ↦ count_filter p s xs ∙ none_more (count_by (λ y. s y && p y) xs)
    ] ∙ sym (count_cons (λ y. s y && p y) x xs)

pub count_map : {X Y : Type 0} (f : X → Y) (p : Y → Bool) (xs : List X) → count_by p (map f xs) ≡ count_by (λ x. p (f x)) xs
count_map f p [] = refl
count_map f p (x ∷ xs) = count_cons p (f x) (map f xs) ∙ ap (λ n. cond (p (f x)) 1 0 + n) (count_map f p xs) ∙ sym (count_cons (λ y. p (f y)) x xs)

pub any_count : {X : Type 0} (p : X → Bool) (xs : List X) → list_any p xs ≡ nat_lt 0 (count_by p xs)
any_count p [] = refl
any_count p (x ∷ xs) =
    elim (p x) as (λ b. (b || list_any p xs) ≡ nat_lt 0 (cond b 1 0 + count_by p xs)) [
      | true ↦ sym (more (count_by p xs))
      | false ↦ any_count p xs ∙ ap (nat_lt 0) (none_more (count_by p xs))
    ] ∙ ap (nat_lt 0) (sym (count_cons p x xs))
  where
    more : (n : ℕ) → nat_lt 0 (1 + n) ≡ true
    more n = grind (arith, nat_tests)

-- ---- the same counts

pub same_any : {X : Type 0} (p : X → Bool) (xs ys : List X) → SameCounts xs ys → list_any p xs ≡ list_any p ys
same_any p xs ys h = any_count p xs ∙ ap (nat_lt 0) (h p) ∙ sym (any_count p ys)

pub same_filter : {X : Type 0} (s : X → Bool) (xs ys : List X) → SameCounts xs ys → SameCounts (filter s xs) (filter s ys)
same_filter s xs ys h p = count_filter p s xs ∙ h (λ x. s x && p x) ∙ sym (count_filter p s ys)

pub same_map : {X Y : Type 0} (f : X → Y) (xs ys : List X) → SameCounts xs ys → SameCounts (map f xs) (map f ys)
same_map f xs ys h p = count_map f p xs ∙ h (λ x. p (f x)) ∙ sym (count_map f p ys)

pub same_permuted : {X : Type 0} (xs ys : List X) → IsPermutation xs ys → SameCounts ys xs
same_permuted xs ys is p = sum_by-IsPermutation (λ x. cond (p x) 1 0) xs ys is

pub same_trans : {X : Type 0} (xs ys zs : List X) → SameCounts xs ys → SameCounts ys zs → SameCounts xs zs
same_trans xs ys zs a b p = a p ∙ b p

-- one more, wherever it stands
pub same_insert : {X : Type 0} (xs ys : List X) (i : ℕ) (y : X) → SameCounts xs ys → SameCounts (insert xs i y) (ys ++ y ∷ [])
same_insert xs ys i y h p =
    let e = sum_by-insert (λ x. cond (p x) 1 0) xs i y in
    let g = count_append p ys (y ∷ []) ∙ ap (λ n. count_by p ys + n) (count_cons p y []) in
    let m = h p in
    omega (arith, e, g, m)

-- ---- numbers

-- numbers that rise are fixed by how many there are of each
pub rising_same : (xs ys : List ℕ) → AllPairs (λ a b. a ≤ b) xs → AllPairs (λ a b. a < b) ys → SameCounts xs ys → xs ≡ ys
rising_same [] [] a b h = refl
rising_same [] (y ∷ ys) a b h = absurd (true≢false (sym (same_any (λ n. n == y) [] (y ∷ ys) h ∙ ap (λ t. t || list_any (λ n. n == y) ys) (eq-eqb y y refl))))
rising_same (x ∷ xs) [] a b h = absurd (true≢false (sym (ap (λ t. t || list_any (λ n. n == x) xs) (eq-eqb x x refl)) ∙ same_any (λ n. n == x) (x ∷ xs) [] h))
rising_same (x ∷ xs) (y ∷ ys) a b h =
    let e : x ≡ y = omega (arith, lower, upper) in
    (λ i. e i ∷ rising_same xs ys (AllPairs-rest (λ m n. m ≤ n) x xs a) (AllPairs-rest (λ m n. m < n) y ys b) (rest e) i)
  where
    -- the least of the ones is among the others
    upper : x ≤ y
    upper =
        let is = Any-from_list_any (λ n. n == y) (x ∷ xs) (same_any (λ n. n == y) (x ∷ xs) (y ∷ ys) h ∙ ap (λ t. t || list_any (λ n. n == y) ys) (eq-eqb y y refl)) in
        least is.0 is.1 is.2 (eqb-true is.1 y is.4) is.3
      where
        least : (k n : ℕ) → k < length (x ∷ xs) → n ≡ y → slice_index_or (x ∷ xs) k n ≡ n → x ≤ y
        least zero n lt is at = omega (arith, at, is)
        least (suc k) n lt is at =
            let le : x ≤ slice_index_or xs k n = AllPairs-first (λ c d. c ≤ d) x xs a k n (omega arith) in
            omega (arith, le, at, is)

    lower : y ≤ x
    lower =
        let is = Any-from_list_any (λ n. n == x) (y ∷ ys) (sym (same_any (λ n. n == x) (x ∷ xs) (y ∷ ys) h) ∙ ap (λ t. t || list_any (λ n. n == x) xs) (eq-eqb x x refl)) in
        least is.0 is.1 is.2 (eqb-true is.1 x is.4) is.3
      where
        least : (k n : ℕ) → k < length (y ∷ ys) → n ≡ x → slice_index_or (y ∷ ys) k n ≡ n → y ≤ x
        least zero n lt is at = omega (arith, at, is)
        least (suc k) n lt is at =
            let le : y < slice_index_or ys k n = AllPairs-first (λ c d. c < d) y ys b k n (omega arith) in
            omega (arith, le, at, is)

    rest : x ≡ y → SameCounts xs ys
    rest e p =
        let one : ◌≡◌ {A = ℕ} (cond (p x) 1 0) (cond (p y) 1 0) = ap (λ n. cond (p n) 1 0) e in
        let all : ◌≡◌ {A = ℕ} (cond (p x) 1 0 + count_by p xs) (cond (p y) 1 0 + count_by p ys) = sym (count_cons p x xs) ∙ h p ∙ count_cons p y ys in
        omega (arith, one, all)

-- with more behind
pub same_append : {X : Type 0} (xs ys zs : List X) → SameCounts xs ys → SameCounts (xs ++ zs) (ys ++ zs)
same_append xs ys zs h p = count_append p xs zs ∙ ap (λ n. n + count_by p zs) (h p) ∙ sym (count_append p ys zs)
