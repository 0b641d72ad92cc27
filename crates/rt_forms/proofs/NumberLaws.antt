-- Numbers in rising order.
use Rattle.std.proofs.Common.{◌≡◌, ◌≢◌, ℕ, zero, suc, ◌+◌, ◌<◌, ◌≤◌, Bool, true, false, cond, not, nat_le, nat_lt, ◌==◌, ◌||◌, List, [], ◌∷◌, ◌++◌, length, refl, sym, ap, subst, ◌∙◌, arith, slice_index_or, ltb, ltb-true, ltb-false, eqb-true, eq-eqb}
use mathlib.Core.Bool.{true≢false}
use Rattle.std.specs.List.{filter, insert, remove, list_any}
use Rattle.std.specs.List.Sorted.{IsNonDecreasingBy, IsPartitionedBy, IsPartitionPoint}
use Rattle.std.proofs.lemmas.Bool.Decides.{nat_tests}
use Rattle.std.proofs.lemmas.List.Sorted.{IsPartitionedBy-ltb}
use Rattle.std.proofs.lemmas.List.Sums.{position_or_len_is}
use Rattle.rt_forms.specs.Numbers.{with_number, without_number}
use Rattle.rt_forms.specs.inside.Places.{AllAbove, Rises, place}

-- ---- the place
at_above : (n : ℕ) (ns : List ℕ) → AllAbove n ns → (j d : ℕ) → j < length ns → n < slice_index_or ns j d
at_above n [] h j d lt = absurd (omega (arith, lt))
at_above n (m ∷ ms) h zero d lt = h.0
at_above n (m ∷ ms) h (suc j) d lt = at_above n ms h.1 j d (omega (arith, lt))

never_fall : (ns : List ℕ) → Rises ns → IsNonDecreasingBy (λ m. m) ns
never_fall [] h i j d le lt = absurd (omega (arith, lt))
never_fall (n ∷ ns) h zero zero d le lt = omega arith
never_fall (n ∷ ns) h zero (suc j) d le lt = let above = at_above n ns h.0 j d (omega (arith, lt)) in omega (arith, above)
never_fall (n ∷ ns) h (suc i) zero d le lt = absurd (omega (arith, le))
never_fall (n ∷ ns) h (suc i) (suc j) d le lt = never_fall ns h.1 i j d (omega (arith, le)) (omega (arith, lt))

-- the lesser ones stand before the others
pub lesser_first : (n : ℕ) (ns : List ℕ) → Rises ns → IsPartitionedBy (λ m. ltb m n) ns
lesser_first n ns h = IsPartitionedBy-ltb (λ m. m) ns n (never_fall ns h)

lesser : (m n : ℕ) → ltb m n ≡ true → nat_le n m ≡ false
lesser m n e = grind (arith, nat_tests)

no_lesser : (m n : ℕ) → ltb m n ≡ false → nat_le n m ≡ true
no_lesser m n e = grind (arith, nat_tests)

below : (m n : ℕ) → nat_le n m ≡ false → m < n
below m n e = grind (arith, nat_tests)

not_below : (m n : ℕ) → nat_le n m ≡ true → n ≤ m
not_below m n e = grind (arith, nat_tests)

lt_false : (m n : ℕ) → n ≤ m → nat_lt m n ≡ false
lt_false m n h = grind (arith, nat_tests)

lt_true : (m n : ℕ) → m < n → nat_lt m n ≡ true
lt_true m n h = grind (arith, nat_tests)

-- the place between the lesser ones and the others
pub place_is : (n : ℕ) (ns : List ℕ) (i : ℕ) → i ≤ length ns → IsPartitionPoint (λ m. ltb m n ≡ true) (λ m. ltb m n ≡ false) ns i → place n ns ≡ i
place_is n ns i le h =
    position_or_len_is (λ m. nat_le n m) ns i 0 le
    (λ k lt. lesser (slice_index_or ns k 0) n (h.0 k 0 (omega arith) lt))
    (λ lt. no_lesser (slice_index_or ns i 0) n (h.1 i 0 (omega arith) lt))

-- ---- a number more
neither : (a b : Bool) → (a || b) ≡ false → (a ≡ false) × (b ≡ false)
neither true b e = absurd (true≢false e)
neither false b e = (refl, e)

-- all above a number
none_below : (n : ℕ) (ns : List ℕ) → AllAbove n ns → filter (λ m. nat_lt m n) ns ≡ []
none_below n [] h = refl
none_below n (m ∷ ms) h = ap (λ b. cond b (m ∷ filter (λ x. nat_lt x n) ms) (filter (λ x. nat_lt x n) ms)) (lt_false m n (omega (arith, h.0))) ∙ none_below n ms h.1

all_behind : (n : ℕ) (ns : List ℕ) → AllAbove n ns → filter (λ m. nat_lt n m) ns ≡ ns
all_behind n [] h = refl
all_behind n (m ∷ ms) h = ap (λ b. cond b (m ∷ filter (λ x. nat_lt n x) ms) (filter (λ x. nat_lt n x) ms)) (lt_true n m h.0) ∙ ap (λ z. m ∷ z) (all_behind n ms h.1)

above_more : (n m : ℕ) (ns : List ℕ) → n < m → AllAbove m ns → AllAbove n ns
above_more n m [] lt h = tt
above_more n m (x ∷ ns) lt h = (omega (arith, lt, h.0), above_more n m ns lt h.1)

other : (m n : ℕ) → (m == n) ≡ false → m ≢ n
other m n e same = true≢false (sym (eq-eqb m n same) ∙ e)

-- stands at its place
pub insert_place : (n : ℕ) (ns : List ℕ) → Rises ns → list_any (λ m. m == n) ns ≡ false → insert ns (place n ns) n ≡ with_number n ns
insert_place n [] rise free = refl
insert_place n (m ∷ ms) rise free =
    elim (nat_le n m) as (λ b. nat_le n m ≡ b → insert (m ∷ ms) (cond (not b) (1 + place n ms) 0) n ≡ with_number n (m ∷ ms)) [
      | true ↦ λ e.
          let differ : m ≢ n = other m n (neither (m == n) (list_any (λ x. x == n) ms) free).0 in
          let le = not_below m n e in
          let lt : n < m = above_it differ le in
          let above : AllAbove n (m ∷ ms) = (lt, above_more n m ms lt rise.0) in
          sym (λ i. none_below n (m ∷ ms) above i ++ n ∷ all_behind n (m ∷ ms) above i)
      | false ↦ λ e.
          let lt : m < n = below m n e in
          ap (λ p. insert (m ∷ ms) p n) (sym (next (place n ms)))
          ∙ ap (λ z. m ∷ z) (insert_place n ms rise.1 (neither (m == n) (list_any (λ x. x == n) ms) free).1)
          ∙ sym (λ i. cond (lt_true m n lt i) (m ∷ filter (λ x. nat_lt x n) ms) (filter (λ x. nat_lt x n) ms)
          ++ n ∷ cond (lt_false n m (omega (arith, lt)) i) (m ∷ filter (λ x. nat_lt n x) ms) (filter (λ x. nat_lt n x) ms))
    ] refl
  where
    next : (p : ℕ) → suc p ≡ 1 + p
    next p = omega arith

    above_it : m ≢ n → n ≤ m → n < m
    above_it differ le = elim (ltb n m) as (λ b. ltb n m ≡ b → n < m) [
      | true ↦ λ t. ltb-true n m t
      | false ↦ λ t. absurd (differ (omega (arith, le, ltb-false n m t)))
    ] refl

-- they still rise
above_filter : (n : ℕ) (p : ℕ → Bool) (ns : List ℕ) → AllAbove n ns → AllAbove n (filter p ns)
above_filter n p [] h = tt
above_filter n p (m ∷ ms) h = elim (p m) as (λ b. AllAbove n (cond b (m ∷ filter p ms) (filter p ms))) [
  | true ↦ (h.0, above_filter n p ms h.1)
  | false ↦ above_filter n p ms h.1
]

pub rises_filter : (p : ℕ → Bool) (ns : List ℕ) → Rises ns → Rises (filter p ns)
rises_filter p [] h = tt
rises_filter p (m ∷ ms) h = elim (p m) as (λ b. Rises (cond b (m ∷ filter p ms) (filter p ms))) [
  | true ↦ (above_filter m p ms h.0, rises_filter p ms h.1)
  | false ↦ rises_filter p ms h.1
]

lt_is : (m n : ℕ) → nat_lt m n ≡ true → m < n
lt_is m n e = grind (arith, nat_tests)

above_with : (x n : ℕ) (ns : List ℕ) → AllAbove x ns → x < n → AllAbove x (with_number n ns)
above_with x n ns h lt = joined (filter (λ m. nat_lt m n) ns) (above_filter x (λ m. nat_lt m n) ns h)
  where
    joined : (xs : List ℕ) → AllAbove x xs → AllAbove x (xs ++ n ∷ filter (λ m. nat_lt n m) ns)
    joined [] a = (lt, above_filter x (λ m. nat_lt n m) ns h)
    joined (y ∷ ys) a = (a.0, joined ys a.1)

behind_it : (n : ℕ) (ns : List ℕ) → AllAbove n (filter (λ m. nat_lt n m) ns)
behind_it n [] = tt
behind_it n (m ∷ ms) = elim (nat_lt n m) as (λ b. nat_lt n m ≡ b → AllAbove n (cond b (m ∷ filter (λ x. nat_lt n x) ms) (filter (λ x. nat_lt n x) ms))) [
  | true ↦ λ e. (lt_is n m e, behind_it n ms)
  | false ↦ λ e. behind_it n ms
] refl

abbrev AllBelow : ℕ → List ℕ → Type 0
AllBelow n [] = Unit {0}
AllBelow n (x ∷ xs) = (x < n) × AllBelow n xs

pub rises_with : (n : ℕ) (ns : List ℕ) → Rises ns → Rises (with_number n ns)
rises_with n ns h = joined (filter (λ m. nat_lt m n) ns) (rises_filter (λ m. nat_lt m n) ns h) (lesser_all ns)
  where
    lesser_all : (xs : List ℕ) → AllBelow n (filter (λ m. nat_lt m n) xs)
    lesser_all [] = tt
    lesser_all (x ∷ xs) = elim (nat_lt x n) as (λ b. nat_lt x n ≡ b → AllBelow n (cond b (x ∷ filter (λ m. nat_lt m n) xs) (filter (λ m. nat_lt m n) xs))) [
      | true ↦ λ e. (lt_is x n e, lesser_all xs)
      | false ↦ λ e. lesser_all xs
    ] refl

    over : (x : ℕ) → x < n → (zs : List ℕ) → AllAbove n zs → AllAbove x zs
    over x lt zs a = above_more x n zs lt a

    above_joined : (x : ℕ) → x < n → (xs : List ℕ) → AllAbove x xs → AllAbove x (xs ++ n ∷ filter (λ m. nat_lt n m) ns)
    above_joined x lt [] a = (lt, over x lt (filter (λ m. nat_lt n m) ns) (behind_it n ns))
    above_joined x lt (y ∷ ys) a = (a.0, above_joined x lt ys a.1)

    joined : (xs : List ℕ) → Rises xs → AllBelow n xs → Rises (xs ++ n ∷ filter (λ m. nat_lt n m) ns)
    joined [] r b = (behind_it n ns, rises_filter (λ m. nat_lt n m) ns h)
    joined (x ∷ xs) r b = (above_joined x b.0 xs r.0, joined xs r.1 b.1)

-- ---- how many there are
pub length_with : (n : ℕ) (ns : List ℕ) → list_any (λ m. m == n) ns ≡ false → length (with_number n ns) ≡ length ns + 1
length_with n [] free = refl
length_with n (m ∷ ms) free =
    let two = neither (m == n) (list_any (λ x. x == n) ms) free in
    let rest = length_with n ms two.1 in
    elim (nat_lt m n) as (λ b. nat_lt m n ≡ b → length (cond b (m ∷ filter (λ x. nat_lt x n) ms) (filter (λ x. nat_lt x n) ms) ++ n ∷ filter (λ x. nat_lt n x) (m ∷ ms)) ≡ length (m ∷ ms) + 1) [
      | true ↦ λ e.
          let lt = lt_is m n e in
          ap (λ b. length ((m ∷ filter (λ x. nat_lt x n) ms) ++ n ∷ cond b (m ∷ filter (λ x. nat_lt n x) ms) (filter (λ x. nat_lt n x) ms))) (lt_false n m (omega (arith, lt)))
          ∙ (let e : suc (length (with_number n ms)) ≡ length (m ∷ ms) + 1 = omega (arith, rest) in e)
      | false ↦ λ e.
          ap (λ b. length (filter (λ x. nat_lt x n) ms ++ n ∷ cond b (m ∷ filter (λ x. nat_lt n x) ms) (filter (λ x. nat_lt n x) ms))) (lt_true n m (above_it (other m n two.0) e))
          ∙ one_more (filter (λ x. nat_lt x n) ms) (filter (λ x. nat_lt n x) ms) m
          ∙ (let e : suc (length (with_number n ms)) ≡ length (m ∷ ms) + 1 = omega (arith, rest) in e)
    ] refl
  where
    above_it : m ≢ n → nat_lt m n ≡ false → n < m
    above_it differ e = elim (ltb n m) as (λ b. ltb n m ≡ b → n < m) [
      | true ↦ λ t. ltb-true n m t
      | false ↦ λ t. absurd (differ (omega (arith, ltb-false m n e, ltb-false n m t)))
    ] refl

    one_more : (xs ys : List ℕ) (y : ℕ) → length (xs ++ n ∷ y ∷ ys) ≡ suc (length (xs ++ n ∷ ys))
    one_more [] ys y = refl
    one_more (x ∷ xs) ys y = ap suc (one_more xs ys y)

absent_same : (n : ℕ) (ns : List ℕ) → list_any (λ m. m == n) ns ≡ false → without_number n ns ≡ ns
absent_same n [] free = refl
absent_same n (m ∷ ms) free =
    let two = neither (m == n) (list_any (λ x. x == n) ms) free in
    ap (λ b. cond (not b) (m ∷ without_number n ms) (without_number n ms)) two.0 ∙ ap (λ z. m ∷ z) (absent_same n ms two.1)

above_absent : (n : ℕ) (ns : List ℕ) → AllAbove n ns → list_any (λ m. m == n) ns ≡ false
above_absent n [] h = refl
above_absent n (m ∷ ms) h = (λ i. differs i || above_absent n ms h.1 i)
  where
    differs : (m == n) ≡ false
    differs = elim (m == n) as (λ b. (m == n) ≡ b → b ≡ false) [
      | true ↦ λ e. let same : m ≡ n = eqb-true m n e in absurd (omega (arith, h.0, same))
      | false ↦ λ e. refl
    ] refl

pub length_without : (n : ℕ) (ns : List ℕ) → Rises ns → list_any (λ m. m == n) ns ≡ true → length (without_number n ns) + 1 ≡ length ns
length_without n [] h there = absurd (true≢false (sym there))
length_without n (m ∷ ms) h there =
    elim (m == n) as (λ b. (m == n) ≡ b → (b || list_any (λ x. x == n) ms) ≡ true → length (cond (not b) (m ∷ without_number n ms) (without_number n ms)) + 1 ≡ length (m ∷ ms)) [
      | true ↦ λ e g.
          let same : m ≡ n = eqb-true m n e in
          let gone : list_any (λ x. x == n) ms ≡ false = ap (λ y. list_any (λ x. x == y) ms) (sym same) ∙ above_absent m ms h.0 in
          let kept = ap length (absent_same n ms gone) in omega (arith, kept)
      | false ↦ λ e g. let rest = length_without n ms h.1 g in omega (arith, rest)
    ] refl there

-- ---- a number less
lesser_differs : (m n : ℕ) → m < n → (m == n) ≡ false
lesser_differs m n lt = elim (m == n) as (λ b. (m == n) ≡ b → b ≡ false) [
  | true ↦ λ e. let same : m ≡ n = eqb-true m n e in absurd (omega (arith, lt, same))
  | false ↦ λ e. refl
] refl

next_place : (p : ℕ) → suc p ≡ 1 + p
next_place p = omega arith

-- what stands at its place is the number, and goes
pub taken_place : (n : ℕ) (ns : List ℕ) → Rises ns → (d : ℕ) → place n ns < length ns → slice_index_or ns (place n ns) d ≡ n → remove ns (place n ns) ≡ without_number n ns
taken_place n [] rise d lt at = absurd (omega (arith, lt))
taken_place n (m ∷ ms) rise d lt at =
    elim (nat_le n m) as (λ b. nat_le n m ≡ b → cond (not b) (1 + place n ms) 0 < length (m ∷ ms) → slice_index_or (m ∷ ms) (cond (not b) (1 + place n ms) 0) d ≡ n
    → remove (m ∷ ms) (cond (not b) (1 + place n ms) 0) ≡ without_number n (m ∷ ms)) [
      | true ↦ λ e l a.
          sym (ap (λ b. cond (not b) (m ∷ without_number n ms) (without_number n ms)) (eq-eqb m n a)
          ∙ absent_same n ms (above_absent n ms (subst (λ x. AllAbove x ms) a rise.0)))
      | false ↦ λ e l a.
          ap (remove (m ∷ ms)) (sym (next_place (place n ms)))
          ∙ ap (λ z. m ∷ z) (taken_place n ms rise.1 d (omega (arith, l)) (ap (λ p. slice_index_or (m ∷ ms) p d) (next_place (place n ms)) ∙ a))
          ∙ sym (ap (λ b. cond (not b) (m ∷ without_number n ms) (without_number n ms)) (lesser_differs m n (below m n e)))
    ] refl lt at

-- where another number stands there, or none, all stay
pub kept_place : (n : ℕ) (ns : List ℕ) → Rises ns → ((d : ℕ) → place n ns < length ns → slice_index_or ns (place n ns) d ≡ n → ⊥) → without_number n ns ≡ ns
kept_place n [] rise differs = refl
kept_place n (m ∷ ms) rise differs =
    elim (nat_le n m) as (λ b. nat_le n m ≡ b → ((d : ℕ) → cond (not b) (1 + place n ms) 0 < length (m ∷ ms) → slice_index_or (m ∷ ms) (cond (not b) (1 + place n ms) 0) d ≡ n → ⊥)
    → without_number n (m ∷ ms) ≡ m ∷ ms) [
      | true ↦ λ e f.
          let le = not_below m n e in
          let lt : n < m = elim (ltb n m) as (λ b. ltb n m ≡ b → n < m) [
            | true ↦ λ t. ltb-true n m t
            | false ↦ λ t. absurd (f 0 (omega arith) (omega (arith, le, ltb-false n m t)))
          ] refl in
          absent_same n (m ∷ ms) (above_absent n (m ∷ ms) (lt, above_more n m ms lt rise.0))
      | false ↦ λ e f.
          ap (λ b. cond (not b) (m ∷ without_number n ms) (without_number n ms)) (lesser_differs m n (below m n e))
          ∙ ap (λ z. m ∷ z) (kept_place n ms rise.1 (λ d lt at. f d (omega (arith, lt)) (sym (ap (λ p. slice_index_or (m ∷ ms) p d) (next_place (place n ms))) ∙ at)))
    ] refl differs
