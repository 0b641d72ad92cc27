-- What is left of a list without some places.
use Rattle.std.proofs.Common.{◌≡◌, ℕ, zero, suc, ◌+◌, ◌<◌, ◌≤◌, ◌==◌, arith, length, take, get_or, Bool, true, false, cond, not, ◌||◌, List, [], ◌∷◌, ◌++◌, map, refl, sym, ap, ◌∙◌, eqb-true, eq-eqb}
use Rattle.std.specs.List.{filter, list_any, enumerate_from, remove, All, AllPairs}
use Rattle.std.proofs.lemmas.List.{take_more, get_or-take, get_or_default, length-take}
use Rattle.std.proofs.lemmas.List.Elements.{All-head, All-tail, All-cons}
use Rattle.std.proofs.lemmas.List.Folds.{list_any-append, list_any_none}
use Rattle.rt_query.specs.Queries.{Query}
use Rattle.rt_cache.specs.Recover.{without_places}

differs : (m n : ℕ) → m < n → (m == n) ≡ false
differs m n lt = elim (m == n) as (λ b. (m == n) ≡ b → b ≡ false) [
  | true ↦ λ e. let same : m ≡ n = eqb-true m n e in absurd (omega (arith, lt, same))
  | false ↦ λ e. refl
] refl

-- the elements but for those whose places pass a test; places count from n
abbrev pub left_from : (ℕ → Bool) → ℕ → List Query → List Query
left_from out n xs = map (λ (e : ℕ × Query). e.1) (filter (λ (e : ℕ × Query). not (out e.0)) (enumerate_from n xs))

all_left : (out : ℕ → Bool) (n : ℕ) (xs : List Query) → ((k : ℕ) → n ≤ k → out k ≡ false) → left_from out n xs ≡ xs
all_left out n [] h = refl
all_left out n (x ∷ xs) h =
    ap (λ b. map (λ (e : ℕ × Query). e.1) (cond (not b) ((n, x) ∷ filter (λ (e : ℕ × Query). not (out e.0)) (enumerate_from (n + 1) xs)) (filter (λ (e : ℕ × Query). not (out e.0)) (enumerate_from (n + 1) xs)))) (h n (omega arith))
    ∙ ap (λ ys. x ∷ ys) (all_left out (n + 1) xs (λ k le. h k (omega (arith, le))))

-- one place more, behind the others
one_left : (out more : ℕ → Bool) (n i p : ℕ) (xs : List Query) → p ≡ n + i → i < length xs → ((k : ℕ) → more k ≡ (out k || p == k)) → ((k : ℕ) → p ≤ k → out k ≡ false)
    → left_from more n xs ≡ left_from out n (remove xs i)
one_left out more n i p [] e lt one none = absurd (omega (arith, lt))
one_left out more n zero p (x ∷ xs) e lt one none =
    let here : more n ≡ true = one n ∙ (λ j. none n (omega (arith, e)) j || eq-eqb p n (omega (arith, e)) j) in
    ap (λ b. map (λ (y : ℕ × Query). y.1) (cond (not b) ((n, x) ∷ filter (λ (y : ℕ × Query). not (more y.0)) (enumerate_from (n + 1) xs)) (filter (λ (y : ℕ × Query). not (more y.0)) (enumerate_from (n + 1) xs)))) here
    ∙ all_left more (n + 1) xs (λ k le. one k ∙ (λ j. none k (omega (arith, e, le)) j || differs p k (omega (arith, e, le)) j))
    ∙ sym (all_left out n xs (λ k le. none k (omega (arith, e, le))))
one_left out more n (suc i) p (x ∷ xs) e lt one none =
    let here : more n ≡ out n = one n ∙ ap (λ b. out n || b) (other (p == n) refl) ∙ or_no (out n) in
    let rest = one_left out more (n + 1) i p xs (omega (arith, e)) (omega (arith, lt)) one none in
    ap (λ b. map (λ (y : ℕ × Query). y.1) (cond (not b) ((n, x) ∷ filter (λ (y : ℕ × Query). not (more y.0)) (enumerate_from (n + 1) xs)) (filter (λ (y : ℕ × Query). not (more y.0)) (enumerate_from (n + 1) xs)))) here
    ∙ elim (out n) as (λ b. map (λ (y : ℕ × Query). y.1) (cond (not b) ((n, x) ∷ filter (λ (y : ℕ × Query). not (more y.0)) (enumerate_from (n + 1) xs)) (filter (λ (y : ℕ × Query). not (more y.0)) (enumerate_from (n + 1) xs)))
    ≡ map (λ (y : ℕ × Query). y.1) (cond (not b) ((n, x) ∷ filter (λ (y : ℕ × Query). not (out y.0)) (enumerate_from (n + 1) (remove xs i))) (filter (λ (y : ℕ × Query). not (out y.0)) (enumerate_from (n + 1) (remove xs i))))) [
      | true ↦ rest
      | false ↦ ap (λ ys. x ∷ ys) rest
    ]
  where
    or_no : (b : Bool) → (b || false) ≡ b
    or_no true = refl
    or_no false = refl

    other : (b : Bool) → (p == n) ≡ b → (p == n) ≡ false
    other true t = let same : p ≡ n = eqb-true p n t in absurd (omega (arith, e, same))
    other false t = t

-- the last of some places taken out
pub without-remove : (places : List ℕ) (n p : ℕ) (xs : List Query) → n < length places → p ≡ get_or places n p → p < length xs → AllPairs (λ (j k : ℕ). j < k) places
    → without_places (take (n + 1) places) xs ≡ without_places (take n places) (remove xs p)
without-remove places n p xs lt at within rising =
    let here : p ≡ 0 + p = omega arith in
    one_left (λ k. list_any (λ j. j == k) (take n places)) (λ k. list_any (λ j. j == k) (take (n + 1) places)) 0 p p xs here within one none
  where
    or_no : (b : Bool) → (b || false) ≡ b
    or_no true = refl
    or_no false = refl

    one : (k : ℕ) → list_any (λ j. j == k) (take (n + 1) places) ≡ (list_any (λ j. j == k) (take n places) || p == k)
    one k =
        ap (list_any (λ j. j == k)) (take_more places n p lt ∙ ap (λ q. take n places ++ q ∷ []) (sym at))
        ∙ list_any-append (λ j. j == k) (take n places) (p ∷ [])
        ∙ ap (λ b. list_any (λ j. j == k) (take n places) || b) (or_no (p == k))

    none : (k : ℕ) → p ≤ k → list_any (λ j. j == k) (take n places) ≡ false
    none k le = list_any_none (λ j. j == k) (take n places) (λ i d l.
        let short : i < n = omega (arith, l, length-take n places) in
        let same : get_or (take n places) i d ≡ get_or places i d = get_or-take n places i d short in
        let last : get_or places n d ≡ p = get_or_default places n d p lt ∙ sym at in
        let less : get_or places i d < get_or places n d = rising i n d short lt in
        ap (λ q. q == k) same ∙ differs (get_or places i d) k (omega (arith, less, last, le)))

-- without no place all are left
pub without_none : (xs : List Query) → without_places [] xs ≡ xs
without_none xs = all_left (λ k. false) 0 xs (λ k le. refl)

-- what all have, those have that are left
All-left : (P : Query → Type 0) (out : ℕ → Bool) (n : ℕ) (xs : List Query) → All P xs → All P (left_from out n xs)
All-left P out n [] h = h
All-left P out n (x ∷ xs) h =
    let rest = All-left P out (n + 1) xs (All-tail P x xs h) in
    elim (out n) as (λ b. All P (map (λ (y : ℕ × Query). y.1) (cond (not b) ((n, x) ∷ filter (λ (y : ℕ × Query). not (out y.0)) (enumerate_from (n + 1) xs)) (filter (λ (y : ℕ × Query). not (out y.0)) (enumerate_from (n + 1) xs))))) [
      | true ↦ rest
      | false ↦ All-cons P x (left_from out (n + 1) xs) (All-head P x xs h) rest
    ]

pub All-without : (P : Query → Type 0) (places : List ℕ) (xs : List Query) → All P xs → All P (without_places places xs)
All-without P places xs h = All-left P (λ k. list_any (λ j. j == k) places) 0 xs h
