-- Elements in the order of their paths and, of one path, of their numbers: where they are looked for by halving.
use Rattle.std.proofs.Common.{◌≡◌, ℕ, zero, suc, ◌+◌, ◌-◌, ◌<◌, ◌≤◌, nat_lt, Bool, true, false, cond, not, ◌||◌, List, [], ◌∷◌, length, take, drop, get_or, refl, sym, ap, subst, ◌∙◌, arith}
use mathlib.Core.Bool.{true≢false}
use Rattle.std.specs.Prelude.{◌==◌}
use Rattle.std.specs.Cmp.{IsTotalOrder}
use Rattle.std.specs.List.{filter, insert, remove, list_any, AllPairs}
use Rattle.std.specs.List.Sorted.{IsPartitionedBy, IsPartitionPoint}
use Rattle.std.specs.Ordering.{is_lt, is_le, is_eq, nat_cmp, ordering_then, ordering_reverse}
use Rattle.std.specs.declared.cmp.Ordering.{Ordering}
use Rattle.std.specs.declared.cmp.Ordering.TheVariants.{Less, Equal, Greater}
use Rattle.std.proofs.lemmas.Bool.{ltb-false, ltb-true, le-ltb}
use Rattle.std.proofs.lemmas.Cmp.{then_total, on_total, nat_cmp_total}
use Rattle.std.proofs.lemmas.List.{get_or-take, get_or-drop, length-take-le, length-drop, take-append-drop}
use Rattle.std.proofs.lemmas.List.Edits.{length-insert, get_or-insert_below, get_or-insert_at, get_or-insert_above}
use Rattle.std.proofs.lemmas.List.Folds.{list_any-append}

-- ---- orders

less : (o : Ordering) → is_lt o ≡ true → o ≡ Less
less Less e = refl
less Equal e = absurd (true≢false (sym e))
less Greater e = absurd (true≢false (sym e))

equal : (o : Ordering) → is_eq o ≡ true → o ≡ Equal
equal Less e = absurd (true≢false (sym e))
equal Equal e = refl
equal Greater e = absurd (true≢false (sym e))

first_first : (o s : Ordering) → ordering_then o s ≡ Less → is_lt (ordering_reverse o) ≡ false
first_first Less s e = refl
first_first Equal s e = refl
first_first Greater s e = cc

none_below : (n : ℕ) → is_lt (nat_cmp n 0) ≡ false
none_below n =
    ap (λ b. is_lt (cond b Less (cond (n == 0) Equal Greater))) (le-ltb n 0 (omega arith))
    ∙ elim (n == 0) as (λ b. is_lt (cond b Equal Greater) ≡ false) [ true ↦ refl | false ↦ refl ]

-- ---- insertion and removal

behind_insert : {X : Type 0} (xs : List X) (at : ℕ) (y d : X) (k : ℕ) → at ≤ k → at ≤ length xs → get_or (insert xs at y) (suc k) d ≡ get_or xs k d
behind_insert xs at y d k ge within =
    let more : suc k ≡ k + 1 = omega arith in
    ap (λ n. get_or (insert xs at y) n d) more ∙ get_or-insert_above xs at y d k ge within

module _ {X : Type 0} (R : X → X → Type 0) where
  -- one that stands behind those in front of its place, and in front of the others
  pub pairs_insert : (xs : List X) (at : ℕ) (y : X) → at ≤ length xs → AllPairs R xs
      → ((k : ℕ) (d : X) → k < at → R (get_or xs k d) y) → ((k : ℕ) (d : X) → at ≤ k → k < length xs → R y (get_or xs k d))
      → AllPairs R (insert xs at y)
  pairs_insert xs at y within up low high zero zero d lt inside = absurd (omega (arith, lt))
  pairs_insert xs at y within up low high i zero d lt inside = absurd (omega (arith, lt))
  pairs_insert xs at y within up low high i (suc j) d lt inside =
      let long : suc j < length xs + 1 = omega (arith, inside, length-insert xs at y within) in
      elim (nat_lt j at) as (λ b. nat_lt j at ≡ b → R (get_or (insert xs at y) i d) (get_or (insert xs at y) (suc j) d)) [
        | false ↦ λ f.
            let ge : at ≤ j = ltb-false j at f in
            let there : get_or (insert xs at y) (suc j) d ≡ get_or xs j d = behind_insert xs at y d j ge within in
            subst (R (get_or (insert xs at y) i d)) (sym there) (before i j ge (omega (arith, long)) (omega (arith, lt)))
        | true ↦ λ f.
            let l : j < at = ltb-true j at f in
            let here : get_or (insert xs at y) i d ≡ get_or xs i d = get_or-insert_below xs at y d i (omega (arith, lt, l)) within in
            subst (λ z. R z (get_or (insert xs at y) (suc j) d)) (sym here)
            (elim (nat_lt (suc j) at) as (λ b. nat_lt (suc j) at ≡ b → R (get_or xs i d) (get_or (insert xs at y) (suc j) d)) [
              | true ↦ λ g.
                  let m : suc j < at = ltb-true (suc j) at g in
                  subst (R (get_or xs i d)) (sym (get_or-insert_below xs at y d (suc j) m within)) (up i (suc j) d lt (omega (arith, m, within)))
              | false ↦ λ g.
                  let m : at ≤ suc j = ltb-false (suc j) at g in
                  let same : suc j ≡ at = omega (arith, m, l) in
                  subst (R (get_or xs i d)) (sym (ap (λ k. get_or (insert xs at y) k d) same ∙ get_or-insert_at xs at y d within)) (low i d (omega (arith, lt, l)))
            ] refl)
      ] refl
    where
      before : (i j : ℕ) → at ≤ j → j < length xs → i ≤ j → R (get_or (insert xs at y) i d) (get_or xs j d)
      before i j ge in_list le = elim (nat_lt i at) as (λ b. nat_lt i at ≡ b → R (get_or (insert xs at y) i d) (get_or xs j d)) [
        | true ↦ λ f.
            let l : i < at = ltb-true i at f in
            subst (λ z. R z (get_or xs j d)) (sym (get_or-insert_below xs at y d i l within)) (up i j d (omega (arith, l, ge)) in_list)
        | false ↦ λ f. past i (ltb-false i at f) le
      ] refl
        where
          past : (i : ℕ) → at ≤ i → i ≤ j → R (get_or (insert xs at y) i d) (get_or xs j d)
          past zero g le = subst (λ z. R z (get_or xs j d)) (sym (ap (λ k. get_or (insert xs at y) k d) (omega (arith, g)) ∙ get_or-insert_at xs at y d within)) (high j d ge in_list)
          past (suc i) g le = elim (nat_lt i at) as (λ b. nat_lt i at ≡ b → R (get_or (insert xs at y) (suc i) d) (get_or xs j d)) [
            | true ↦ λ f.
                let l : i < at = ltb-true i at f in
                let same : suc i ≡ at = omega (arith, l, g) in
                subst (λ z. R z (get_or xs j d)) (sym (ap (λ k. get_or (insert xs at y) k d) same ∙ get_or-insert_at xs at y d within)) (high j d ge in_list)
            | false ↦ λ f.
                let there : get_or (insert xs at y) (suc i) d ≡ get_or xs i d = behind_insert xs at y d i (ltb-false i at f) within in
                subst (λ z. R z (get_or xs j d)) (sym there) (up i j d (omega (arith, le)) in_list)
          ] refl

pub any_insert : {X : Type 0} (p : X → Bool) (xs : List X) (at : ℕ) (y : X) → list_any p (insert xs at y) ≡ (p y || list_any p xs)
any_insert p xs at y =
    list_any-append p (take at xs) (y ∷ drop at xs)
    ∙ swapped (list_any p (take at xs)) (p y) (list_any p (drop at xs))
    ∙ ap (λ b. p y || b) (sym (list_any-append p (take at xs) (drop at xs)) ∙ ap (list_any p) (take-append-drop at xs))
  where
    swapped : (a b c : Bool) → (a || (b || c)) ≡ (b || (a || c))
    swapped true true c = refl
    swapped true false c = refl
    swapped false b c = refl

-- an element that is there, whatever stands for one that is not
pub get_or_any : {X : Type 0} (xs : List X) (i : ℕ) (d e : X) → i < length xs → get_or xs i d ≡ get_or xs i e
get_or_any [] i d e lt = absurd (omega arith)
get_or_any (x ∷ xs) zero d e lt = refl
get_or_any (x ∷ xs) (suc i) d e lt = get_or_any xs i d e (omega arith)

filter_every : {X : Type 0} (test : X → Bool) (xs : List X) → ((k : ℕ) (d : X) → k < length xs → test (get_or xs k d) ≡ true) → xs ≡ filter test xs
filter_every test [] h = refl
filter_every test (x ∷ xs) h =
    ap (λ ys. x ∷ ys) (filter_every test xs (λ k d l. h (suc k) d (omega arith)))
    ∙ sym (ap (λ b. cond b (x ∷ filter test xs) (filter test xs)) (h 0 x (omega arith)))

filter_but_one : {X : Type 0} (test : X → Bool) (xs : List X) (i : ℕ) → i < length xs
    → ((d : X) → test (get_or xs i d) ≡ false)
    → ((k : ℕ) (d : X) → k < length xs → (k ≡ i → ⊥) → test (get_or xs k d) ≡ true)
    → remove xs i ≡ filter test xs
filter_but_one test [] i l here others = absurd (omega arith)
filter_but_one test (x ∷ xs) zero l here others =
    filter_every test xs (λ k d m. others (suc k) d (omega arith) (λ e. absurd (omega arith)))
    ∙ sym (ap (λ b. cond b (x ∷ filter test xs) (filter test xs)) (here x))
filter_but_one test (x ∷ xs) (suc i) l here others =
    let first = others 0 x (omega arith) (λ e. absurd (omega arith)) in
    ap (λ ys. x ∷ ys) (filter_but_one test xs i (omega arith) here (λ k d m n. others (suc k) d (omega arith) (λ e. n (omega arith))))
    ∙ sym (ap (λ b. cond b (x ∷ filter test xs) (filter test xs)) first)

-- ---- by paths and numbers

module _ {P : Type 0} (C : P → P → Ordering) (o : IsTotalOrder C) where
  abbrev pub pair_cmp : P × ℕ → P × ℕ → Ordering
  pair_cmp a b = ordering_then (C a.0 b.0) (nat_cmp a.1 b.1)

  pub pairs_total : IsTotalOrder pair_cmp
  pairs_total = then_total (on_total (λ (a : P × ℕ). a.0) o) (on_total (λ (a : P × ℕ). a.1) nat_cmp_total)

  module _ {X : Type 0} (key : X → P × ℕ) where
    abbrev pub AreUp : List X → Type 0
    AreUp xs = AllPairs (λ x y. pair_cmp (key x) (key y) ≡ Less) xs

    -- those in front of a pair come first
    pub befores_first : (to : P × ℕ) (xs : List X) → AreUp xs → IsPartitionedBy (λ x. is_lt (pair_cmp (key x) to)) xs
    befores_first to xs up i j d le lt e = elim (nat_lt i j) as (λ b. nat_lt i j ≡ b → is_lt (pair_cmp (key (get_or xs i d)) to) ≡ true) [
      | true ↦ λ f. ap is_lt (pairs_total.trans (key (get_or xs i d)) (key (get_or xs j d)) to (up i j d (ltb-true i j f) lt) (less (pair_cmp (key (get_or xs j d)) to) e))
      | false ↦ λ f.
          let ge : j ≤ i = ltb-false i j f in
          let same : i ≡ j = omega (arith, ge, le) in
          ap (λ k. is_lt (pair_cmp (key (get_or xs k d)) to)) same ∙ e
    ] refl

    -- of those behind the first, the paths that are not behind a path come first
    pub up_drop : (first : ℕ) (xs : List X) → AreUp xs → AreUp (drop first xs)
    up_drop first xs up i j d lt within =
        let there : first + j < length xs = shifted j within in
        subst (λ z. pair_cmp (key z) (key (get_or (drop first xs) j d)) ≡ Less) (sym (get_or-drop first xs i d))
        (subst (λ z. pair_cmp (key (get_or xs (first + i) d)) (key z) ≡ Less) (sym (get_or-drop first xs j d)) (up (first + i) (first + j) d (omega (arith, lt)) there))
      where
        shifted : (j : ℕ) → j < length (drop first xs) → first + j < length xs
        shifted j lt = elim (nat_lt first (length xs)) as (λ b. nat_lt first (length xs) ≡ b → first + j < length xs) [
          | true ↦ λ f. let l : first < length xs = ltb-true first (length xs) f in omega (arith, lt, l, length-drop first xs)
          | false ↦ λ f. let l : length xs ≤ first = ltb-false first (length xs) f in absurd (omega (arith, lt, l, length-drop first xs))
        ] refl

    path_up : (x y : X) → pair_cmp (key x) (key y) ≡ Less → is_lt (C (key y).0 (key x).0) ≡ false
    path_up x y e = ap is_lt (o.antisymm (key y).0 (key x).0) ∙ first_first (C (key x).0 (key y).0) (nat_cmp (key x).1 (key y).1) e

    pub paths_first : (p : P) (xs : List X) → AreUp xs → IsPartitionedBy (λ x. is_le (C (key x).0 p)) xs
    paths_first p xs up i j d le lt e = elim (nat_lt i j) as (λ b. nat_lt i j ≡ b → is_le (C (key (get_or xs i d)).0 p) ≡ true) [
      | true ↦ λ f. lower (key (get_or xs i d)).0 (key (get_or xs j d)).0 (path_up (get_or xs i d) (get_or xs j d) (up i j d (ltb-true i j f) lt)) e
      | false ↦ λ f.
          let ge : j ≤ i = ltb-false i j f in
          let same : i ≡ j = omega (arith, ge, le) in
          ap (λ k. is_le (C (key (get_or xs k d)).0 p)) same ∙ e
    ] refl
      where
        lower : (a b : P) → is_lt (C b a) ≡ false → is_le (C b p) ≡ true → is_le (C a p) ≡ true
        lower a b up e = elim (C b a) as (λ z. C b a ≡ z → is_lt z ≡ false → is_le (C a p) ≡ true) [
          | Less ↦ λ q f. absurd (true≢false f)
          | Equal ↦ λ q f. ap is_le (sym (o.congr b a p q)) ∙ e
          | Greater ↦ λ q f. elim (C b p) as (λ z. C b p ≡ z → is_le z ≡ true → is_le (C a p) ≡ true) [
            | Less ↦ λ r g. ap is_le (o.trans a b p (o.antisymm a b ∙ ap ordering_reverse q) r)
            | Equal ↦ λ r g. ap is_le (o.antisymm a p ∙ ap ordering_reverse (sym (o.congr b p a r) ∙ q))
            | Greater ↦ λ r g. absurd (true≢false (sym g))
          ] refl e
        ] refl up

    -- ---- what is found

    -- an element that is not in front of a pair, and passes a test that holds for so many behind it
    pub found_in : (test : X → Bool) (to : P × ℕ) (ls rest : List X) (first count : ℕ) → rest ≡ drop first ls → first ≤ length ls → count ≤ length rest
        → IsPartitionPoint (λ x. is_lt (pair_cmp (key x) to) ≡ true) (λ x. is_lt (pair_cmp (key x) to) ≡ false) ls first
        → IsPartitionPoint (λ x. test x ≡ true) (λ x. test x ≡ false) rest count
        → (k : ℕ) (d : X) → k < length ls → is_lt (pair_cmp (key (get_or ls k d)) to) ≡ false → test (get_or ls k d) ≡ true
        → (j : ℕ) × (j < length (take count rest)) × (get_or (take count rest) j d ≡ get_or ls k d)
    found_in test to ls rest first count is within enough a b k d lt behind passes = elim (nat_lt k first) as (λ z. nat_lt k first ≡ z → (j : ℕ) × (j < length (take count rest)) × (get_or (take count rest) j d ≡ get_or ls k d)) [
      | true ↦ λ f. absurd (true≢false (sym (a.0 k d (omega arith) (ltb-true k first f)) ∙ behind))
      | false ↦ λ f.
          let ge : first ≤ k = ltb-false k first f in
          let j : ℕ = k - first in
          let there : get_or rest j d ≡ get_or ls k d = ap (λ z. get_or z j d) is ∙ get_or-drop first ls j d ∙ ap (λ n. get_or ls n d) (omega (arith, ge)) in
          let inside : j < length rest = omega (arith, ge, lt, ap length is, length-drop first ls) in
          elim (nat_lt j count) as (λ z. nat_lt j count ≡ z → (j : ℕ) × (j < length (take count rest)) × (get_or (take count rest) j d ≡ get_or ls k d)) [
            | true ↦ λ g.
                let l : j < count = ltb-true j count g in
                (j, omega (arith, l, length-take-le count rest enough), get_or-take count rest j d l ∙ there)
            | false ↦ λ g. absurd (true≢false (sym (ap test there ∙ passes) ∙ b.1 j d (ltb-false j count g) inside))
          ] refl
    ] refl

    -- an element of that path is not in front of it with the least number
    pub at_not_before : (p : P) (x : X) → is_eq (C (key x).0 p) ≡ true → is_lt (pair_cmp (key x) (p, 0)) ≡ false
    at_not_before p x e = ap (λ z. is_lt (ordering_then z (nat_cmp (key x).1 0))) (equal (C (key x).0 p) e) ∙ none_below (key x).1

    -- and its path is not behind it
    pub not_behind_same : (p : P) (x : X) → is_eq (C (key x).0 p) ≡ true → is_le (C (key x).0 p) ≡ true
    not_behind_same p x e = ap is_le (equal (C (key x).0 p) e)

    -- none whose path is not in front of it is in front of it with the least number
    pub path_not_before : (p : P) (x : X) → is_lt (C (key x).0 p) ≡ false → is_lt (pair_cmp (key x) (p, 0)) ≡ false
    path_not_before p x e = elim (C (key x).0 p) as (λ z. is_lt z ≡ false → is_lt (ordering_then z (nat_cmp (key x).1 0)) ≡ false) [
      | Less ↦ λ f. f
      | Equal ↦ λ f. none_below (key x).1
      | Greater ↦ λ f. refl
    ] e

    -- and the other way round
    pub behind_path : (p : P) (x : X) → is_lt (pair_cmp (key x) (p, 0)) ≡ false → is_lt (C (key x).0 p) ≡ false
    behind_path p x e = elim (C (key x).0 p) as (λ z. is_lt (ordering_then z (nat_cmp (key x).1 0)) ≡ false → is_lt z ≡ false) [
      | Less ↦ λ f. f
      | Equal ↦ λ f. refl
      | Greater ↦ λ f. refl
    ] e

    -- ---- one more, and one less

    -- one of another pair in its place
    pub up_insert : (xs : List X) (at : ℕ) (y : X) → at ≤ length xs → AreUp xs
        → IsPartitionPoint (λ x. is_lt (pair_cmp (key x) (key y)) ≡ true) (λ x. is_lt (pair_cmp (key x) (key y)) ≡ false) xs at
        → ((k : ℕ) (d : X) → k < length xs → is_eq (pair_cmp (key (get_or xs k d)) (key y)) ≡ false)
        → AreUp (insert xs at y)
    up_insert xs at y within up point free = pairs_insert (λ x z. pair_cmp (key x) (key z) ≡ Less) xs at y within up
        (λ k d lt. less (pair_cmp (key (get_or xs k d)) (key y)) (point.0 k d (omega arith) lt))
        (λ k d ge lt. pairs_total.antisymm (key y) (key (get_or xs k d)) ∙ ap ordering_reverse (greater (pair_cmp (key (get_or xs k d)) (key y)) (point.1 k d ge lt) (free k d lt)))
      where
        greater : (z : Ordering) → is_lt z ≡ false → is_eq z ≡ false → z ≡ Greater
        greater Less a b = absurd (true≢false a)
        greater Equal a b = absurd (true≢false b)
        greater Greater a b = refl

    -- one that is behind another has another pair
    later_other : (to : P × ℕ) (x y : X) → is_lt (pair_cmp (key x) to) ≡ false → pair_cmp (key x) (key y) ≡ Less → is_eq (pair_cmp (key y) to) ≡ false
    later_other to x y a b = elim (is_eq (pair_cmp (key y) to)) as (λ z. is_eq (pair_cmp (key y) to) ≡ z → z ≡ false) [
      | true ↦ λ e.
          let same : pair_cmp (key y) (key x) ≡ pair_cmp to (key x) = pairs_total.congr (key y) to (key x) (equal (pair_cmp (key y) to) e) in
          let low : pair_cmp (key x) to ≡ Less = pairs_total.antisymm (key x) to ∙ ap ordering_reverse (sym same) ∙ sym (pairs_total.antisymm (key x) (key y)) ∙ b in
          absurd (true≢false (sym (ap is_lt low) ∙ a))
      | false ↦ λ e. refl
    ] refl

    lt_other : (z : Ordering) → is_lt z ≡ true → is_eq z ≡ false
    lt_other Less e = refl
    lt_other Equal e = absurd (true≢false (sym e))
    lt_other Greater e = refl

    -- the others of a list without the pair, whose place has it
    pub removed : (to : P × ℕ) (xs : List X) (at : ℕ) → at < length xs → AreUp xs
        → IsPartitionPoint (λ x. is_lt (pair_cmp (key x) to) ≡ true) (λ x. is_lt (pair_cmp (key x) to) ≡ false) xs at
        → ((d : X) → is_eq (pair_cmp (key (get_or xs at d)) to) ≡ true)
        → remove xs at ≡ filter (λ x. not (is_eq (pair_cmp (key x) to))) xs
    removed to xs at within up point here = filter_but_one (λ x. not (is_eq (pair_cmp (key x) to))) xs at within
        (λ d. ap not (here d))
        (λ k d lt apart. elim (nat_lt k at) as (λ b. nat_lt k at ≡ b → not (is_eq (pair_cmp (key (get_or xs k d)) to)) ≡ true) [
          | true ↦ λ f. ap not (lt_other (pair_cmp (key (get_or xs k d)) to) (point.0 k d (omega arith) (ltb-true k at f)))
          | false ↦ λ f.
              let ge : at ≤ k = ltb-false k at f in
              let past : at < k = omega (arith, ge, apart) in
              ap not (later_other to (get_or xs at d) (get_or xs k d) (point.1 at d (omega arith) within) (up at k d past lt))
        ] refl)

    -- and where its place has another, or there is none
    pub none_removed : (to : P × ℕ) (xs : List X) (at : ℕ) → at ≤ length xs → AreUp xs
        → IsPartitionPoint (λ x. is_lt (pair_cmp (key x) to) ≡ true) (λ x. is_lt (pair_cmp (key x) to) ≡ false) xs at
        → ((d : X) → at < length xs → is_eq (pair_cmp (key (get_or xs at d)) to) ≡ false)
        → xs ≡ filter (λ x. not (is_eq (pair_cmp (key x) to))) xs
    none_removed to xs at within up point other = filter_every (λ x. not (is_eq (pair_cmp (key x) to))) xs
        (λ k d lt. elim (nat_lt k at) as (λ b. nat_lt k at ≡ b → not (is_eq (pair_cmp (key (get_or xs k d)) to)) ≡ true) [
          | true ↦ λ f. ap not (lt_other (pair_cmp (key (get_or xs k d)) to) (point.0 k d (omega arith) (ltb-true k at f)))
          | false ↦ λ f.
              let ge : at ≤ k = ltb-false k at f in
              elim (nat_lt at k) as (λ b. nat_lt at k ≡ b → not (is_eq (pair_cmp (key (get_or xs k d)) to)) ≡ true) [
                | true ↦ λ g.
                    let past : at < k = ltb-true at k g in
                    ap not (later_other to (get_or xs at d) (get_or xs k d) (point.1 at d (omega arith) (omega (arith, past, lt))) (up at k d past lt))
                | false ↦ λ g.
                    let le : k ≤ at = ltb-false at k g in
                    let same : k ≡ at = omega (arith, le, ge) in
                    ap (λ n. not (is_eq (pair_cmp (key (get_or xs n d)) to))) same ∙ ap not (other d (omega (arith, same, lt)))
              ] refl
        ] refl)
