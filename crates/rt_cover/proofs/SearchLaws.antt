-- Lists that stand in the order of their forms: those at a path stand together, and so do those at or
-- under it.
use Rattle.std.proofs.Common.{◌≡◌, ℕ, zero, suc, ◌+◌, ◌-◌, ◌<◌, ◌≤◌, nat_lt, Bool, true, false, cond, List, [], ◌∷◌, ◌++◌, length, take, drop, get_or, refl, sym, ap, subst, ◌∙◌, arith, ltb, ltb-true, ltb-false, None, is_some, append-nil}
use mathlib.Core.Bool.{true≢false}
use Rattle.std.specs.Cmp.{IsStrictWeakOrder, tied_itself}
use Rattle.std.specs.List.{filter, insert, list_any, All, AllPairs, AllWithin}
use Rattle.std.specs.List.Sorted.{IsSorted, IsPartitionedBy, IsPartitionPoint, IsNonDecreasingBy}
use Rattle.std.specs.Ordering.{is_lt, is_le, is_eq, ordering_index, ordering_then, ordering_reverse}
use Rattle.std.specs.declared.cmp.Ordering.{Ordering}
use Rattle.std.specs.declared.cmp.Ordering.TheVariants.{Less, Equal, Greater}
use Rattle.std.proofs.lemmas.List.{get_or_default, get_or-take, get_or-drop, length-take-le, length-drop, take-append-drop}
use Rattle.std.proofs.lemmas.List.Elements.{filter-append, All-append, All-cons, All-take, All-drop}
use Rattle.std.proofs.lemmas.List.Folds.{list_any_none}
use Rattle.std.proofs.lemmas.List.Kept.{AllPairs-cons, AllPairs-filter}
use Rattle.std.proofs.lemmas.List.Sorted.{searchable_from_sorted, IsPartitionedBy-ltb, IsNonDecreasingBy-drop, ranks_by, sorted_far}
use Rattle.std.proofs.Math.Seq.{take-length}
use Rattle.rt_tree.specs.PathTree.{Path, path_cmp, path_eq, paths_total, exact_paths, key_cmp, key_eq, key_eq-is, key_eq-symm, strip}
use Rattle.rt_tree.specs.Assignments.{is_at_or_above}
use Rattle.rt_query.specs.Queries.{Query}
use Rattle.rt_query.specs.QueryEq.{query_eq}
use Rattle.rt_query.specs.QueryOrder.{query_cmp}
use Rattle.rt_query.specs.laws.QueryEq.{query_eq_tells}
use Rattle.rt_query.specs.laws.QueryOrder.{queries_total, exact_queries}
use Rattle.rt_cover.specs.inside.Index.{by_form}
use Rattle.rt_cover.specs.laws.Pairs.{filter_none, filter_all, AllPairs-first, AllPairs-rest}
use Rattle.rt_cover.specs.laws.Paths.{is_at_or_above-same}

-- ---- paths in the order of forms

first_of : (o s : Ordering) → is_lt (ordering_then o s) ≡ false → is_lt o ≡ false
first_of Less s e = e
first_of Equal s e = refl
first_of Greater s e = refl

-- a form that does not stand before another has no path before that one's
path_first : (r s : Query) → is_lt (query_cmp r s) ≡ false → is_lt (path_cmp r.path s.path) ≡ false
path_first r s e = first_of (path_cmp r.path s.path) _ e

paths_sorted : {X : Type 0} (q : X → Query) (ls : List X) → IsSorted (by_form q) ls → IsSorted (λ (x y : X). path_cmp (q x).path (q y).path) ls
paths_sorted q ls up k d low high = path_first (q (get_or ls (k + 1) d)) (q (get_or ls k d)) (up k d low high)

-- ---- where a path stands

-- by its number an order is told
before_one : (o : Ordering) → is_lt o ≡ ltb (ordering_index o) 1
before_one Less = refl
before_one Equal = refl
before_one Greater = refl

before_two : (o : Ordering) → is_le o ≡ ltb (ordering_index o) 2
before_two Less = refl
before_two Equal = refl
before_two Greater = refl

never_fall : {X : Type 0} (q : X → Query) (p : Path) (ls : List X) → IsSorted (by_form q) ls → IsNonDecreasingBy (λ (x : X). ordering_index (path_cmp (q x).path p)) ls
never_fall {X = X} q p ls up = searchable_from_sorted paths_total (λ (x : X). (q x).path) ls p (paths_sorted q ls up)

pub befores_first : {X : Type 0} (q : X → Query) (p : Path) (ls : List X) → IsSorted (by_form q) ls → IsPartitionedBy (λ (x : X). is_lt (path_cmp (q x).path p)) ls
befores_first {X = X} q p ls up i j d le lt e = before_one (path_cmp (q (get_or ls i d)).path p)
    ∙ IsPartitionedBy-ltb (λ (x : X). ordering_index (path_cmp (q x).path p)) ls 1 (never_fall q p ls up) i j d le lt
    (sym (before_one (path_cmp (q (get_or ls j d)).path p)) ∙ e)

pub not_behind_first : {X : Type 0} (q : X → Query) (p : Path) (ls : List X) → IsNonDecreasingBy (λ (x : X). ordering_index (path_cmp (q x).path p)) ls → IsPartitionedBy (λ (x : X). is_le (path_cmp (q x).path p)) ls
not_behind_first {X = X} q p ls up i j d le lt e = before_two (path_cmp (q (get_or ls i d)).path p)
    ∙ IsPartitionedBy-ltb (λ (x : X). ordering_index (path_cmp (q x).path p)) ls 2 up i j d le lt
    (sym (before_two (path_cmp (q (get_or ls j d)).path p)) ∙ e)

pub not_behind_sorted : {X : Type 0} (q : X → Query) (p : Path) (ls : List X) → IsSorted (by_form q) ls → IsPartitionedBy (λ (x : X). is_le (path_cmp (q x).path p)) ls
not_behind_sorted q p ls up = not_behind_first q p ls (never_fall q p ls up)

-- ---- those of a path

lt_apart : (o : Ordering) → is_lt o ≡ true → is_eq o ≡ false
lt_apart Less e = refl
lt_apart Equal e = absurd (true≢false (sym e))
lt_apart Greater e = refl

gt_apart : (o : Ordering) → is_le o ≡ false → is_eq o ≡ false
gt_apart Less e = refl
gt_apart Equal e = absurd (true≢false e)
gt_apart Greater e = refl

between : (o : Ordering) → is_lt o ≡ false → is_le o ≡ true → is_eq o ≡ true
between Less e f = absurd (true≢false e)
between Equal e f = refl
between Greater e f = f

-- from the first that is not before, so many that are not behind
pub run_is : {X : Type 0} (q : X → Query) (p : Path) (ls : List X) (first count : ℕ) → first ≤ length ls → count ≤ length (drop first ls)
    → IsPartitionPoint (λ (x : X). is_lt (path_cmp (q x).path p) ≡ true) (λ (x : X). is_lt (path_cmp (q x).path p) ≡ false) ls first
    → IsPartitionPoint (λ (x : X). is_le (path_cmp (q x).path p) ≡ true) (λ (x : X). is_le (path_cmp (q x).path p) ≡ false) (drop first ls) count
    → take count (drop first ls) ≡ filter (λ (x : X). path_eq (q x).path p) ls
run_is {X = X} q p ls first count within inside a b =
    sym (ap (filter here_is) (sym (take-append-drop first ls))
    ∙ filter-append here_is (take first ls) rest
    ∙ ap (λ z. z ++ filter here_is rest) (filter_none here_is (take first ls) before)
    ∙ ap (filter here_is) (sym (take-append-drop count rest))
    ∙ filter-append here_is (take count rest) (drop count rest)
    ∙ (λ i. filter_all here_is (take count rest) at i ++ filter_none here_is (drop count rest) behind i)
    ∙ append-nil (take count rest))
  where
    here_is : X → Bool
    here_is x = path_eq (q x).path p

    rest : List X
    rest = drop first ls

    before : All (λ (x : X). here_is x ≡ false) (take first ls)
    before k d lt =
        let here : k < first = omega (arith, lt, length-take-le first ls within) in
        ap here_is (get_or-take first ls k d here) ∙ lt_apart (path_cmp (q (get_or ls k d)).path p) (a.0 k d (omega arith) here)

    at : All (λ (x : X). here_is x ≡ true) (take count rest)
    at k d lt =
        let here : k < count = omega (arith, lt, length-take-le count rest inside) in
        let there : first + k < length ls = omega (arith, here, inside, length-drop first ls, within) in
        let is : get_or (take count rest) k d ≡ get_or rest k d = get_or-take count rest k d here in
        let was : get_or rest k d ≡ get_or ls (first + k) d = get_or-drop first ls k d in
        ap here_is is ∙ between (path_cmp (q (get_or rest k d)).path p)
        (ap (λ (x : X). is_lt (path_cmp (q x).path p)) was ∙ a.1 (first + k) d (omega arith) there)
        (b.0 k d (omega arith) here)

    behind : All (λ (x : X). here_is x ≡ false) (drop count rest)
    behind k d lt =
        let there : count + k < length rest = omega (arith, lt, inside, length-drop count rest) in
        ap here_is (get_or-drop count rest k d) ∙ gt_apart (path_cmp (q (get_or rest (count + k) d)).path p) (b.1 (count + k) d (omega arith) there)

-- the list behind the first
pub rest_is : {X : Type 0} (ls : List X) (first : ℕ) → take (length ls - first) (drop first ls) ≡ drop first ls
rest_is ls first = ap (λ n. take n (drop first ls)) (sym (length-drop first ls)) ∙ take-length (drop first ls)

pub rest_first : {X : Type 0} (q : X → Query) (p : Path) (ls rest : List X) (first : ℕ) → rest ≡ drop first ls → IsSorted (by_form q) ls → IsPartitionedBy (λ (x : X). is_le (path_cmp (q x).path p)) rest
rest_first {X = X} q p ls rest first is up = not_behind_first q p rest
    (subst (IsNonDecreasingBy (λ (x : X). ordering_index (path_cmp (q x).path p))) (sym is)
    (IsNonDecreasingBy-drop (λ (x : X). ordering_index (path_cmp (q x).path p)) first ls (never_fall q p ls up)))

pub run_of_rest : {X : Type 0} (q : X → Query) (p : Path) (ls rest : List X) (first count : ℕ) → rest ≡ drop first ls → first ≤ length ls → count ≤ length rest
    → IsPartitionPoint (λ (x : X). is_lt (path_cmp (q x).path p) ≡ true) (λ (x : X). is_lt (path_cmp (q x).path p) ≡ false) ls first
    → IsPartitionPoint (λ (x : X). is_le (path_cmp (q x).path p) ≡ true) (λ (x : X). is_le (path_cmp (q x).path p) ≡ false) rest count
    → take count rest ≡ filter (λ (x : X). path_eq (q x).path p) ls
run_of_rest {X = X} q p ls rest first count is within inside a b =
    ap (take count) is ∙ run_is q p ls first count within (subst (λ z. count ≤ length z) is inside) a
    (subst (λ z. IsPartitionPoint (λ (x : X). is_le (path_cmp (q x).path p) ≡ true) (λ (x : X). is_le (path_cmp (q x).path p) ≡ false) z count) is b)

-- ---- those at or under a path

less : (o : Ordering) → is_lt o ≡ true → o ≡ Less
less Less e = refl
less Equal e = absurd (true≢false (sym e))
less Greater e = absurd (true≢false (sym e))

-- what is at or above a path is not behind it
above_first : (r p : Path) → is_at_or_above r p ≡ true → is_lt (path_cmp p r) ≡ false
above_first [] [] e = refl
above_first [] (j ∷ p) e = refl
above_first (k ∷ r) [] e = absurd (true≢false (sym e))
above_first (k ∷ r) (j ∷ p) e =
    elim (key_eq k j) as (λ b. key_eq k j ≡ b → is_some (cond b (strip r p) None) ≡ true → is_lt (path_cmp (j ∷ p) (k ∷ r)) ≡ false) [
      | true ↦ λ t f. elim (key_cmp j k) as (λ o. is_eq o ≡ true → is_lt (ordering_then o (path_cmp p r)) ≡ false) [
        | Less ↦ λ x. absurd (true≢false (sym x))
        | Equal ↦ λ x. above_first r p f
        | Greater ↦ λ x. refl
      ] (key_eq-symm j k ∙ t)
      | false ↦ λ t f. absurd (true≢false (sym f))
    ] refl e

-- what stands between a path and one under it is under it too
under_between : (r s p : Path) → is_at_or_above r p ≡ true → is_lt (path_cmp r s) ≡ true → is_lt (path_cmp p s) ≡ false → is_at_or_above r s ≡ true
under_between [] s p a b c = refl
under_between (k ∷ r) s [] a b c = absurd (true≢false (sym a))
under_between (k ∷ r) [] (j ∷ p) a b c = absurd (true≢false (sym b))
under_between (k ∷ r) (i ∷ s) (j ∷ p) a b c =
    elim (key_eq k j) as (λ t. key_eq k j ≡ t → is_some (cond t (strip r p) None) ≡ true → is_at_or_above (k ∷ r) (i ∷ s) ≡ true) [
      | true ↦ λ t under. elim (key_cmp k i) as (λ o. key_cmp k i ≡ o → is_lt (ordering_then o (path_cmp r s)) ≡ true → is_lt (ordering_then o (path_cmp p s)) ≡ false → is_at_or_above (k ∷ r) (i ∷ s) ≡ true) [
        | Less ↦ λ q x y. absurd (true≢false y)
        | Equal ↦ λ q x y. ap (λ o. is_some (cond (is_eq o) (strip r s) None)) q ∙ under_between r s p under x y
        | Greater ↦ λ q x y. absurd (true≢false (sym x))
      ] refl b (subst (λ x. is_lt (ordering_then (key_cmp x i) (path_cmp p s)) ≡ false) (sym (key_eq-is k j t)) c)
      | false ↦ λ t under. absurd (true≢false (sym under))
    ] refl a

-- or at it
under_from : (r s p : Path) → is_at_or_above r p ≡ true → is_lt (path_cmp s r) ≡ false → is_lt (path_cmp p s) ≡ false → is_at_or_above r s ≡ true
under_from r s p a b c =
    elim (path_cmp r s) as (λ o. path_cmp r s ≡ o → is_at_or_above r s ≡ true) [
      | Less ↦ λ e. under_between r s p a (ap is_lt e) c
      | Equal ↦ λ e. subst (λ z. is_at_or_above r z ≡ true) (exact_paths r s e) (is_at_or_above-same r)
      | Greater ↦ λ e. absurd (true≢false (sym (ap is_lt (paths_total.antisymm s r ∙ ap ordering_reverse e)) ∙ b))
    ] refl

-- no element stands before one in front of it
abbrev pub AreUp : {X : Type 0} → (X → Query) → List X → Type 0
AreUp q xs = AllPairs (λ x y. is_lt (query_cmp (q y) (q x)) ≡ false) xs

pub form_ranks : {X : Type 0} (q : X → Query) → IsStrictWeakOrder (λ (x y : X). is_lt (by_form q x y))
form_ranks q = ranks_by queries_total q

pub are_up : {X : Type 0} (q : X → Query) (xs : List X) → IsSorted (by_form q) xs → AreUp q xs
are_up {X = X} q xs s i j d lt within = sorted_far (λ (x y : X). is_lt (by_form q x y)) (form_ranks q) xs s i j d (omega (arith, lt)) within

pub up_sorted : {X : Type 0} (q : X → Query) (xs : List X) → AreUp q xs → IsSorted (by_form q) xs
up_sorted q xs up k d low high = up k (k + 1) d (omega arith) high

pub sorted_filter : {X : Type 0} (q : X → Query) (p : X → Bool) (xs : List X) → IsSorted (by_form q) xs → IsSorted (by_form q) (filter p xs)
sorted_filter {X = X} q p xs s = up_sorted q (filter p xs) (AllPairs-filter (λ (x y : X). is_lt (query_cmp (q y) (q x)) ≡ false) p xs (are_up q xs s))

-- those that are not before the path, and under it, come first
pub under_first : {X : Type 0} (q : X → Query) (p : Path) (ls rest : List X) (first : ℕ) → rest ≡ drop first ls → first ≤ length ls → IsSorted (by_form q) ls
    → IsPartitionPoint (λ (x : X). is_lt (path_cmp (q x).path p) ≡ true) (λ (x : X). is_lt (path_cmp (q x).path p) ≡ false) ls first
    → IsPartitionedBy (λ (x : X). is_at_or_above p (q x).path) rest
under_first {X = X} q p ls rest first is inside s a = subst (IsPartitionedBy (λ (x : X). is_at_or_above p (q x).path)) (sym is) parted
  where
    parted : IsPartitionedBy (λ (x : X). is_at_or_above p (q x).path) (drop first ls)
    parted i j d le lt e =
        let there : first + j < length ls = omega (arith, lt, length-drop first ls, inside) in
        let under : is_at_or_above p (q (get_or ls (first + j) d)).path ≡ true = ap (λ (x : X). is_at_or_above p (q x).path) (sym (get_or-drop first ls j d)) ∙ e in
        elim (nat_lt i j) as (λ b. nat_lt i j ≡ b → is_at_or_above p (q (get_or (drop first ls) i d)).path ≡ true) [
          | true ↦ λ f.
              let l : i < j = ltb-true i j f in
              ap (λ (x : X). is_at_or_above p (q x).path) (get_or-drop first ls i d)
              ∙ under_from p (q (get_or ls (first + i) d)).path (q (get_or ls (first + j) d)).path under
              (a.1 (first + i) d (omega arith) (omega (arith, l, there)))
              (path_first (q (get_or ls (first + j) d)) (q (get_or ls (first + i) d)) (are_up q ls s (first + i) (first + j) d (omega (arith, l)) there))
          | false ↦ λ f.
              let ge : j ≤ i = ltb-false i j f in
              let same : j ≡ i = omega (arith, ge, le) in
              subst (λ k. is_at_or_above p (q (get_or (drop first ls) k d)).path ≡ true) same e
        ] refl

-- so they are so many, from the first on
pub span_of_rest : {X : Type 0} (q : X → Query) (p : Path) (ls rest : List X) (first count : ℕ) → rest ≡ drop first ls → first ≤ length ls → count ≤ length rest
    → IsPartitionPoint (λ (x : X). is_lt (path_cmp (q x).path p) ≡ true) (λ (x : X). is_lt (path_cmp (q x).path p) ≡ false) ls first
    → IsPartitionPoint (λ (x : X). is_at_or_above p (q x).path ≡ true) (λ (x : X). is_at_or_above p (q x).path ≡ false) rest count
    → take count rest ≡ filter (λ x. is_at_or_above p (q x).path) ls
span_of_rest {X = X} q p ls rest first count is inside enough a b =
    ap (take count) is
    ∙ sym (parts ∙ (λ i. filter_none under (take first ls) before i ++ (halves ∙ (λ j. filter_all under (take count behind) at j ++ filter_none under (drop count behind) after j)) i) ∙ append-nil (take count behind))
  where
    under : X → Bool
    under x = is_at_or_above p (q x).path

    behind : List X
    behind = drop first ls

    fits : count ≤ length behind
    fits = subst (λ z. count ≤ length z) is enough

    there : IsPartitionPoint (λ (x : X). is_at_or_above p (q x).path ≡ true) (λ (x : X). is_at_or_above p (q x).path ≡ false) behind count
    there = subst (λ z. IsPartitionPoint (λ (x : X). is_at_or_above p (q x).path ≡ true) (λ (x : X). is_at_or_above p (q x).path ≡ false) z count) is b

    parts : filter under ls ≡ filter under (take first ls) ++ filter under behind
    parts = ap (filter under) (sym (take-append-drop first ls)) ∙ filter-append under (take first ls) behind

    halves : filter under behind ≡ filter under (take count behind) ++ filter under (drop count behind)
    halves = ap (filter under) (sym (take-append-drop count behind)) ∙ filter-append under (take count behind) (drop count behind)

    never : (b : Bool) → (b ≡ true → ⊥) → b ≡ false
    never true h = absurd (h refl)
    never false h = refl

    before : All (λ x. under x ≡ false) (take first ls)
    before k d lt =
        let here : k < first = omega (arith, lt, length-take-le first ls inside) in
        let less : is_lt (path_cmp (q (get_or ls k d)).path p) ≡ true = a.0 k d (omega arith) here in
        ap under (get_or-take first ls k d here)
        ∙ never (under (get_or ls k d)) (λ t. true≢false (sym less ∙ above_first p (q (get_or ls k d)).path t))

    at : All (λ x. under x ≡ true) (take count behind)
    at k d lt =
        let here : k < count = omega (arith, lt, length-take-le count behind fits) in
        ap under (get_or-take count behind k d here) ∙ there.0 k d (omega arith) here

    after : All (λ x. under x ≡ false) (drop count behind)
    after k d lt =
        let here : count + k < length behind = omega (arith, lt, fits, length-drop count behind) in
        ap under (get_or-drop count behind k d) ∙ there.1 (count + k) d (omega arith) here

-- ---- where a form stands

pub lesser_first : {X : Type 0} (q : X → Query) (f : Query) (ls : List X) → IsSorted (by_form q) ls → IsPartitionedBy (λ (x : X). is_lt (query_cmp (q x) f)) ls
lesser_first {X = X} q f ls up i j d le lt e = before_one (query_cmp (q (get_or ls i d)) f)
    ∙ IsPartitionedBy-ltb (λ (x : X). ordering_index (query_cmp (q x) f)) ls 1 (searchable_from_sorted queries_total q ls f up) i j d le lt
    (sym (before_one (query_cmp (q (get_or ls j d)) f)) ∙ e)

-- what stands before a form is another one
lesser_other : (r f : Query) → is_lt (query_cmp r f) ≡ true → query_eq r f ≡ false
lesser_other r f e = at (query_eq r f) refl
  where
    at : (b : Bool) → query_eq r f ≡ b → query_eq r f ≡ false
    at false t = t
    at true t = absurd (true≢false (sym e ∙ ap (λ x. is_lt (query_cmp x f)) ((query_eq_tells r f).0 t) ∙ ap is_lt (tied_itself queries_total f)))

-- of two of which neither stands before the other each is the other
neither_lesser : (r f : Query) → is_lt (query_cmp r f) ≡ false → is_lt (query_cmp f r) ≡ false → r ≡ f
neither_lesser r f a b = at (query_cmp r f) refl
  where
    at : (o : Ordering) → query_cmp r f ≡ o → r ≡ f
    at Less e = absurd (true≢false (sym (ap is_lt e) ∙ a))
    at Equal e = exact_queries r f e
    at Greater e = absurd (true≢false (sym (ap is_lt (queries_total.antisymm f r ∙ ap ordering_reverse e)) ∙ b))

module _ {X : Type 0} (q : X → Query) (f : Query) (ls : List X) (up : IsSorted (by_form q) ls) (n : ℕ)
    (point : IsPartitionPoint (λ (x : X). is_lt (query_cmp (q x) f) ≡ true) (λ (x : X). is_lt (query_cmp (q x) f) ≡ false) ls n) where
  -- all stand before the form: none is of it
  pub at_end : n ≡ length ls → list_any (λ (x : X). query_eq (q x) f) ls ≡ false
  at_end all = list_any_none (λ (x : X). query_eq (q x) f) ls (λ k d lt. lesser_other (q (get_or ls k d)) f (point.0 k d (omega arith) (omega (arith, lt, all))))

  -- or the first that doesn't is not: then none is
  pub at_gap : (y : X) → n < length ls → query_eq (q (get_or ls n y)) f ≡ false → list_any (λ (x : X). query_eq (q x) f) ls ≡ false
  at_gap y within other = list_any_none (λ (x : X). query_eq (q x) f) ls none
    where
      none : (k : ℕ) (d : X) → k < length ls → query_eq (q (get_or ls k d)) f ≡ false
      none k d lt = at (nat_lt k n) refl
        where
          same_here : q (get_or ls k d) ≡ f → n ≤ k → ⊥
          same_here same le =
              let here : q (get_or ls n d) ≡ f = neither_lesser (q (get_or ls n d)) f (point.1 n d (omega arith) within)
              (ap (λ r. is_lt (query_cmp r (q (get_or ls n d)))) (sym same)
              ∙ sorted_far (λ (x z : X). is_lt (by_form q x z)) (form_ranks q) ls up n k d le lt) in
              true≢false (sym ((query_eq_tells (q (get_or ls n y)) f).1 (ap q (get_or_default ls n y d within) ∙ here)) ∙ other)

          here : (b : Bool) → query_eq (q (get_or ls k d)) f ≡ b → n ≤ k → query_eq (q (get_or ls k d)) f ≡ false
          here false t le = t
          here true t le = absurd (same_here ((query_eq_tells (q (get_or ls k d)) f).0 t) le)

          at : (b : Bool) → nat_lt k n ≡ b → query_eq (q (get_or ls k d)) f ≡ false
          at true e = lesser_other (q (get_or ls k d)) f (point.0 k d (omega arith) (ltb-true k n e))
          at false e = here (query_eq (q (get_or ls k d)) f) refl (ltb-false k n e)

-- ---- one more in its place

turned : (o : Ordering) → is_lt o ≡ true → is_lt (ordering_reverse o) ≡ false
turned Less e = refl
turned Equal e = absurd (true≢false (sym e))
turned Greater e = absurd (true≢false (sym e))

sorted_between : {X : Type 0} (q : X → Query) (xs : List X) (i : ℕ) (y : X) → IsSorted (by_form q) xs
    → AllWithin (λ (x : X). is_lt (query_cmp (q x) (q y)) ≡ true) xs 0 i
    → AllWithin (λ (x : X). is_lt (query_cmp (q x) (q y)) ≡ false) xs i (length xs)
    → IsSorted (by_form q) (insert xs i y)
sorted_between {X = X} q xs i y s a b = up_sorted q (insert xs i y) (placed xs i (are_up q xs s) a b)
  where
    R : X → X → Type 0
    R x z = is_lt (query_cmp (q z) (q x)) ≡ false

    before : (z : X) → is_lt (query_cmp (q z) (q y)) ≡ true → R z y
    before z e = ap is_lt (queries_total.antisymm (q y) (q z)) ∙ turned (query_cmp (q z) (q y)) e

    placed : (zs : List X) (n : ℕ) → AllPairs R zs
        → AllWithin (λ (x : X). is_lt (query_cmp (q x) (q y)) ≡ true) zs 0 n
        → AllWithin (λ (x : X). is_lt (query_cmp (q x) (q y)) ≡ false) zs n (length zs)
        → AllPairs R (insert zs n y)
    placed zs zero up a b = AllPairs-cons R y zs (λ k d lt. b k d (omega arith) lt) up
    placed [] (suc n) up a b = AllPairs-cons R y [] (λ k d lt. absurd (omega (arith, lt))) up
    placed (z ∷ zs) (suc n) up a b =
        let first : All (R z) zs = AllPairs-first R z zs up in
        AllPairs-cons R z (insert zs n y)
        (All-append (R z) (take n zs) (y ∷ drop n zs) (All-take (R z) n zs first)
        (All-cons (R z) y (drop n zs) (before z (a 0 z (omega arith) (omega arith))) (All-drop (R z) n zs first)))
        (placed zs n (AllPairs-rest R z zs up) (λ k d low lt. a (suc k) d (omega arith) (omega (arith, lt))) (λ k d low lt. b (suc k) d (omega (arith, low)) (omega (arith, lt))))

pub sorted_insert : {X : Type 0} (q : X → Query) (xs : List X) (i : ℕ) (y : X) → IsSorted (by_form q) xs
    → IsPartitionPoint (λ (x : X). is_lt (query_cmp (q x) (q y)) ≡ true) (λ (x : X). is_lt (query_cmp (q x) (q y)) ≡ false) xs i
    → IsSorted (by_form q) (insert xs i y)
sorted_insert q xs i y s at = sorted_between q xs i y s at.0 at.1
