-- Where a number stands in a list by number, and what is left without it.
use Rattle.std.proofs.Common.{◌≡◌, ℕ, zero, suc, ◌<◌, ◌≤◌, Bool, true, false, cond, not, ◌&&◌, ◌||◌}
use Rattle.std.proofs.Common.{nat_lt, ltb, List, [], ◌∷◌, length, get_or, refl, sym, ap, ◌∙◌, arith}
use Rattle.std.proofs.Common.{Option, Some, None, eqb-true}
use Rattle.std.specs.Prelude.{◌==◌, is_some}
use Rattle.std.specs.List.{AllPairs, filter, find, list_any, position, position_or_len, remove}
use Rattle.std.specs.List.{slice_get}
use Rattle.std.specs.List.Sorted.{IsNonDecreasingBy, IsPartitionedBy, IsPartitionPoint}
use Rattle.std.specs.Cmp.{nat_eq_equiv}
use Rattle.std.proofs.lemmas.Bool.{ltb-false, ltb-true, lt-ltb, le-ltb}
use Rattle.std.proofs.lemmas.List.Folds.{find_at}
use Rattle.std.proofs.lemmas.List.Sorted.{IsPartitionedBy-ltb}
use Rattle.std.proofs.lemmas.List.Sums.{position_or_len_is}
use Rattle.std.proofs.lemmas.Option.{slice_get-get_or, slice_get_past}
use Rattle.std.proofs.lemmas.List.Quantifiers.{position-Some}

other_number : (m n : ℕ) → (m ≡ n → ⊥) → (m == n) ≡ false
other_number m n h = elim (m == n) as (λ b. (m == n) ≡ b → b ≡ false) [
  | true ↦ λ e. absurd (h (eqb-true m n e))
  | false ↦ λ e. refl
] refl

-- the elements by their numbers, the one at n and the ones in front of it
module _ {X : Type 0} (number : X → ℕ) where
  -- the numbers rise
  abbrev pub ByNumber : List X → Type 0
  ByNumber xs = AllPairs (λ a b. number a < number b) xs

  -- the number of the one at k
  abbrev at : List X → ℕ → X → ℕ
  at xs k d = number (get_or xs k d)

  -- so the lesser ones stand before the others
  pub lesser_first : (xs : List X) (id : ℕ) → ByNumber xs
      → IsPartitionedBy (λ x. ltb (number x) id) xs
  lesser_first xs id rise = IsPartitionedBy-ltb number xs id never_fall
    where
      never_fall : IsNonDecreasingBy number xs
      never_fall i j d le lt = elim (nat_lt i j) as (λ b. nat_lt i j ≡ b → at xs i d ≤ at xs j d) [
        | true ↦ λ t.
            let low : at xs i d < at xs j d = rise i j d (ltb-true i j t) lt in
            omega arith
        | false ↦ λ t.
            let past : j ≤ i = ltb-false i j t in
            let same : i ≡ j = omega arith in
            omega (arith, ap (λ k. at xs k d) same)
      ] refl

  -- the place where halving ends: lesser numbers in front of it, and none from there on
  abbrev pub IsBetween : List X → ℕ → ℕ → Type 0
  IsBetween xs n id =
      IsPartitionPoint (λ x. ltb (number x) id ≡ true) (λ x. ltb (number x) id ≡ false) xs n

  -- the place of a number
  abbrev place : List X → ℕ → Option ℕ
  place xs id = position (λ x. number x == id) xs

  -- it stands where the number is
  pub stands : (xs : List X) (n id : ℕ) (d : X) → ByNumber xs → n < length xs
      → number (get_or xs n d) ≡ id → position (λ x. number x == id) xs ≡ Some n
  stands xs n id d rise within here =
      let is : position_or_len (λ y. number y == id) xs ≡ n =
      position_or_len_is (λ y. number y == id) xs n d (omega arith)
      (λ k lt.
      let low : at xs k d < at xs n d = rise k n d lt within in
      other_number _ _ (λ e. absurd (omega (arith, here, e, low))))
      (λ lt. ap (λ m. m == id) here ∙ nat_eq_equiv.refl id) in
      ap (λ m. cond (nat_lt m (length xs)) (Some m) None) is
      ∙ ap (λ b. cond b (Some n) None) (lt-ltb n (length xs) within)

  -- where none has it, it stands nowhere
  nowhere : (xs : List X) (id : ℕ) (d : X)
      → ((k : ℕ) → k < length xs → number (get_or xs k d) ≡ id → ⊥) → place xs id ≡ None
  nowhere xs id d h =
      let n = length xs in
      let is : position_or_len (λ y. number y == id) xs ≡ n =
      position_or_len_is (λ y. number y == id) xs n d (omega arith) (λ k lt. other_number _ _ (h k lt))
      (λ lt. absurd (omega arith)) in
      ap (λ m. cond (nat_lt m n) (Some m) None) is
      ∙ ap (λ b. cond b (Some n) None) (le-ltb n n (omega arith))

  -- so it is where all numbers are less
  pub stands_past : (xs : List X) (n id : ℕ) → n ≡ length xs → IsBetween xs n id
      → position (λ x. number x == id) xs ≡ None
  stands_past [] n id past between = refl
  stands_past (x ∷ xs) n id past between =
      nowhere (x ∷ xs) id x (λ k lt e.
      let low : at (x ∷ xs) k x < id = ltb-true _ _ (between.0 k x (omega arith) (omega arith)) in
      absurd (omega (arith, low, e)))

  -- and where the one that is not less is another
  pub stands_not : (xs : List X) (n id : ℕ) (d : X) → ByNumber xs → n < length xs
      → IsBetween xs n id → (number (get_or xs n d) ≡ id → ⊥)
      → position (λ x. number x == id) xs ≡ None
  stands_not xs n id d rise within between differs =
      nowhere xs id d (λ k lt e. elim (nat_lt k n) as (λ b. nat_lt k n ≡ b → ⊥) [
        | true ↦ λ t.
            let low : at xs k d < id = ltb-true _ _ (between.0 k d (omega arith) (ltb-true k n t)) in
            absurd (omega (arith, low, e))
        | false ↦ λ t.
            let past : n ≤ k = ltb-false k n t in
            let high : id ≤ at xs n d = ltb-false _ _ (between.1 n d (omega arith) within) in
            elim (nat_lt n k) as (λ b. nat_lt n k ≡ b → ⊥) [
              | true ↦ λ u.
                  let more : at xs n d < at xs k d = rise n k d (ltb-true n k u) lt in
                  absurd (omega (arith, high, more, e))
              | false ↦ λ u.
                  let low : k ≤ n = ltb-false n k u in
                  let same : k ≡ n = omega arith in
                  differs (sym (ap (λ j. at xs j d) same) ∙ e)
            ] refl
      ] refl)

-- ---- the element that a place has

-- all pass
pub filter_all : {X : Type 0} (test : X → Bool) (xs : List X)
    → ((k : ℕ) (d : X) → k < length xs → test (get_or xs k d) ≡ true) → filter test xs ≡ xs
filter_all test [] h = refl
filter_all test (x ∷ xs) h =
    ap (λ b. cond b (x ∷ filter test xs) (filter test xs)) (h 0 x (omega arith))
    ∙ ap (λ ys. x ∷ ys) (filter_all test xs (λ k d l. h (suc k) d (omega arith)))

-- all but one pass
filter_but_one : {X : Type 0} (test : X → Bool) (xs : List X) (i : ℕ) → i < length xs
    → ((d : X) → test (get_or xs i d) ≡ false)
    → ((k : ℕ) (d : X) → k < length xs → (k ≡ i → ⊥) → test (get_or xs k d) ≡ true)
    → remove xs i ≡ filter test xs
filter_but_one test [] i l here others = absurd (omega arith)
filter_but_one test (x ∷ xs) zero l here others =
    sym (ap (λ b. cond b (x ∷ filter test xs) (filter test xs)) (here x)
    ∙ filter_all test xs (λ k d m. others (suc k) d (omega arith) (λ e. absurd (omega arith))))
filter_but_one test (x ∷ xs) (suc i) l here others =
    let first = others 0 x (omega arith) (λ e. absurd (omega arith)) in
    ap (λ ys. x ∷ ys) (filter_but_one test xs i (omega arith) here (λ k d m n.
    others (suc k) d (omega arith) (λ e. n (omega arith))))
    ∙ sym (ap (λ b. cond b (x ∷ filter test xs) (filter test xs)) first)

at_none : (b : Bool) (m : ℕ) → ◌≡◌ {A = Option ℕ} (cond b (Some m) None) None → b ≡ false
at_none true m e = cc
at_none false m e = refl

-- where it has no place, none is found
pub none_found : {X : Type 0} (test : X → Bool) (xs : List X) → position test xs ≡ None
    → find test xs ≡ None
none_found test xs e =
    let n = position_or_len test xs in
    find_at test xs
    ∙ slice_get_past xs n (ltb-false n (length xs) (at_none (nat_lt n (length xs)) n e))

-- and all stay
pub all_left : {X : Type 0} (test : X → Bool) (xs : List X) → find test xs ≡ None
    → xs ≡ filter (λ x. not (test x)) xs
all_left test [] e = refl
all_left test (x ∷ xs) e =
    let rest = filter (λ y. not (test y)) xs in
    elim (test x) as (λ b.
    cond b (Some x) (find test xs) ≡ None → x ∷ xs ≡ cond (not b) (x ∷ rest) rest) [
      | true ↦ λ h. cc
      | false ↦ λ h. ap (λ ys. x ∷ ys) (all_left test xs h)
    ] e

pub filter_none_found : {X : Type 0} (test : X → Bool) (xs : List X) → position test xs ≡ None
    → (find test xs ≡ None) × (xs ≡ filter (λ x. not (test x)) xs)
filter_none_found test xs e = let none = none_found test xs e in (none, all_left test xs none)

-- the one that is found at a place
pub found_at : {X : Type 0} (test : X → Bool) (xs : List X) (i : ℕ) (d : X)
    → position test xs ≡ Some i → find test xs ≡ Some (get_or xs i d)
found_at test xs i d e =
    let n = position_or_len test xs in
    find_at test xs ∙ ap (slice_get xs) (at_some (nat_lt n (length xs)) n i e)
    ∙ slice_get-get_or xs i d (position-Some test xs i d e).0
  where
    at_some : (b : Bool) (m i : ℕ) → cond b (Some m) None ≡ Some i → m ≡ i
    at_some true m i e = cc
    at_some false m i e = cc

-- by number, the others are those of other numbers
module _ {X : Type 0} (number : X → ℕ) where
  pub others_left : (xs : List X) (i id : ℕ) → i < length xs → ByNumber number xs
      → position (λ x. number x == id) xs ≡ Some i
      → remove xs i ≡ filter (λ x. not (number x == id)) xs
  others_left xs i id l rise e =
      let is : X → Bool = λ x. number x == id in
      filter_but_one (λ x. not (is x)) xs i l (λ d. ap not (position-Some is xs i d e).1) (λ k d m n.
      elim (nat_lt k i) as (λ b. nat_lt k i ≡ b → not (is (get_or xs k d)) ≡ true) [
        | true ↦ λ t. ap not ((position-Some is xs i d e).2 k (ltb-true k i t))
        | false ↦ λ t.
            let past : i ≤ k = ltb-false k i t in
            let more : i < k = omega arith in
            let here : number (get_or xs i d) ≡ id = eqb-true _ _ (position-Some is xs i d e).1 in
            let higher : number (get_or xs i d) < number (get_or xs k d) = rise i k d more m in
            ap not (other_number _ _ (λ same. absurd (omega (arith, here, higher, same))))
      ] refl)

  -- none of another number passes
  none_any : (p : X → Bool) (xs : List X) (id : ℕ) → find (λ x. number x == id) xs ≡ None
      → list_any (λ x. number x == id && p x) xs ≡ false
  none_any p [] id e = refl
  none_any p (x ∷ xs) id e =
      let found = find (λ y. number y == id) xs in
      let any = list_any (λ y. number y == id && p y) xs in
      elim (number x == id) as (λ b. cond b (Some x) found ≡ None → ((b && p x) || any) ≡ false) [
        | true ↦ λ h. cc
        | false ↦ λ h. none_any p xs id h
      ] e

  or_false : (b : Bool) → (b || false) ≡ b
  or_false true = refl
  or_false false = refl

  -- a test of the one of that number
  pub any_found : (p : X → Bool) (xs : List X) (id : ℕ) (y : X) → ByNumber number xs
      → find (λ x. number x == id) xs ≡ Some y → list_any (λ x. number x == id && p x) xs ≡ p y
  any_found p [] id y rise e = cc
  any_found p (x ∷ xs) id y rise e =
      let found = find (λ z. number z == id) xs in
      let any = list_any (λ z. number z == id && p z) xs in
      elim (number x == id) as (λ b.
      (number x == id) ≡ b → cond b (Some x) found ≡ Some y → ((b && p x) || any) ≡ p y) [
        | true ↦ λ t f.
            let same : x ≡ y = cc in
            let here : number x ≡ id = eqb-true (number x) id t in
            let none = none_found (λ z. number z == id) xs (nowhere number xs id x (λ k lt q.
            let above : number x < number (get_or xs k x) = rise 0 (suc k) x (omega arith) (omega arith) in
            absurd (omega (arith, here, above, q)))) in
            ap (λ b. p x || b) (none_any p xs id none) ∙ or_false (p x) ∙ ap p same
        | false ↦ λ t f.
            any_found p xs id y (λ i j d lt m. rise (suc i) (suc j) d (omega arith) (omega arith)) f
      ] refl e

  pub any_none : (p : X → Bool) (xs : List X) (id : ℕ)
      → position (λ x. number x == id) xs ≡ None → list_any (λ x. number x == id && p x) xs ≡ false
  any_none p xs id e = none_any p xs id (none_found (λ x. number x == id) xs e)

-- a place stands within the list
pub place_within : {X : Type 0} (test : X → Bool) (xs : List X) (i : ℕ)
    → position test xs ≡ Some i → i < length xs
place_within test [] i e = cc
place_within test (x ∷ xs) i e = (position-Some test (x ∷ xs) i x e).0

-- a place is found where the element is
pub is_some_place : {X : Type 0} (test : X → Bool) (xs : List X)
    → is_some (position test xs) ≡ is_some (find test xs)
is_some_place test [] = refl
is_some_place test (x ∷ xs) =
    let all = x ∷ xs in
    elim (position test all) as (λ o. position test all ≡ o → is_some o ≡ is_some (find test all)) [
      | Some i ↦ λ e. sym (ap is_some (found_at test all i x e))
      | None ↦ λ e. sym (ap is_some (none_found test all e))
    ] refl
