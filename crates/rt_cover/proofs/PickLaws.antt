-- Elements found by numbers that rise, and numbers fixed by which of them there are.
use Rattle.std.proofs.Common.{◌≡◌, ℕ, zero, suc, ◌<◌, ◌≤◌, ◌==◌, true, false, cond, ◌||◌, inl, inr, List, [], ◌∷◌, map, length, get_or, slice_index_or, refl, sym, ap, subst, ◌∙◌, arith, eqb-true, eq-eqb, Some}
use mathlib.Core.Bool.{true≢false}
use Rattle.std.specs.List.{find, list_any, All, AllPairs, Contains}
use Rattle.std.specs.Option.{option_map_or}
use Rattle.std.proofs.lemmas.List.Elements.{All-contains}
use Rattle.std.proofs.lemmas.List.Folds.{Any-from_list_any, list_any_none}
use Rattle.rt_cover.specs.laws.Pairs.{Contains-cases, AllPairs-first, AllPairs-rest}
use Rattle.rt_cover.proofs.PlaceLaws.{differs}
use Rattle.rt_cover.specs.inside.Picked.{picked}

-- ---- numbers that rise

-- the first of them is the least
least_is : (x : ℕ) (xs : List ℕ) → AllPairs (λ a b. a < b) (x ∷ xs) → (n : ℕ) → list_any (λ m. m == n) (x ∷ xs) ≡ true → x ≤ n
least_is x xs up n e =
    let is = Any-from_list_any (λ m. m == n) (x ∷ xs) e in
    least is.0 is.1 is.2 (eqb-true is.1 n is.4) is.3
  where
    least : (k m : ℕ) → k < length (x ∷ xs) → m ≡ n → slice_index_or (x ∷ xs) k m ≡ m → x ≤ n
    least zero m lt same at = omega (arith, at, same)
    least (suc k) m lt same at =
        let le : x < slice_index_or xs k m = AllPairs-first (λ a b. a < b) x xs up k m (omega arith) in
        omega (arith, le, at, same)

absent : (z : ℕ) (zs : List ℕ) → AllPairs (λ a b. a < b) (z ∷ zs) → (n : ℕ) → z ≡ n → list_any (λ m. m == n) zs ≡ false
absent z zs up n is = list_any_none (λ m. m == n) zs (λ k d lt. differs (get_or zs k d) n (λ same. omega (arith, AllPairs-first (λ a b. a < b) z zs up k d lt, is, same)))

here_is : (x : ℕ) (xs : List ℕ) → list_any (λ m. m == x) (x ∷ xs) ≡ true
here_is x xs = ap (λ t. t || list_any (λ m. m == x) xs) (eq-eqb x x refl)

-- they are fixed by which of them there are
pub rising_any : (xs ys : List ℕ) → AllPairs (λ a b. a < b) xs → AllPairs (λ a b. a < b) ys
    → ((n : ℕ) → list_any (λ m. m == n) xs ≡ list_any (λ m. m == n) ys) → xs ≡ ys
rising_any [] [] a b h = refl
rising_any [] (y ∷ ys) a b h = absurd (true≢false (sym (h y ∙ here_is y ys)))
rising_any (x ∷ xs) [] a b h = absurd (true≢false (sym (here_is x xs) ∙ h x))
rising_any (x ∷ xs) (y ∷ ys) a b h =
    let e : x ≡ y = omega (arith, least_is x xs a y (h y ∙ here_is y ys), least_is y ys b x (sym (h x) ∙ here_is x xs)) in
    (λ i. e i ∷ rising_any xs ys (AllPairs-rest (λ m n. m < n) x xs a) (AllPairs-rest (λ m n. m < n) y ys b) (rest e) i)
  where
    rest : x ≡ y → (n : ℕ) → list_any (λ m. m == n) xs ≡ list_any (λ m. m == n) ys
    rest e n = elim (x == n) as (λ t. (x == n) ≡ t → list_any (λ m. m == n) xs ≡ list_any (λ m. m == n) ys) [
      | true ↦ λ t. absent x xs a n (eqb-true x n t) ∙ sym (absent y ys b n (sym e ∙ eqb-true x n t))
      | false ↦ λ t. sym (ap (λ r. r || list_any (λ m. m == n) xs) t) ∙ h n
          ∙ ap (λ r. r || list_any (λ m. m == n) ys) (subst (λ z. (z == n) ≡ false) e t)
    ] refl

-- ---- elements found by their numbers

pub find_one : {X : Type 0} (key : X → ℕ) (xs : List X) (x : X) → AllPairs (λ (y z : X). key y < key z) xs → Contains xs x
    → find (λ y. key y == key x) xs ≡ Some x
find_one key [] x up m = absurd (omega (arith, m.1))
find_one {X = X} key (y ∷ ys) x up m = elim (Contains-cases y ys x m) [
  | inl e ↦ ap (λ b. cond b (Some y) (find (λ z. key z == key x) ys)) (eq-eqb (key y) (key x) (ap key e)) ∙ ap Some e
  | inr k ↦
      let lt : key y < key x = All-contains (λ (z : X). key y < key z) ys x (AllPairs-first (λ (w z : X). key w < key z) y ys up) k in
      ap (λ b. cond b (Some y) (find (λ z. key z == key x) ys)) (differs (key y) (key x) (λ same. omega (arith, lt, same)))
      ∙ find_one key ys x (AllPairs-rest (λ (w z : X). key w < key z) y ys up) k
]

-- by the numbers of some of them just these are found
pub picked_same : {X : Type 0} (key : X → ℕ) (xs bs : List X) → AllPairs (λ (y z : X). key y < key z) xs → All (Contains xs) bs
    → picked key xs (map key bs) ≡ bs
picked_same key xs [] up there = refl
picked_same {X = X} key xs (b ∷ bs) up there =
    ap (λ o. option_map_or (λ (x : X). x ∷ picked key xs (map key bs)) o (picked key xs (map key bs))) (find_one key xs b up (there 0 b (omega arith)))
    ∙ ap (λ z. b ∷ z) (picked_same key xs bs up (λ k d lt. there (suc k) d (omega (arith, lt))))
