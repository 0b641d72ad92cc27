-- What stands by the paths of its queries: where a path stands, what is found of a query, and what keeps the order.
use Rattle.std.proofs.Common.{◌≡◌, ℕ, zero, suc, ◌+◌, ◌<◌, ◌≤◌, below_more, nat_lt, Bool, true, false, not, ◌||◌, List, [], ◌∷◌, length, take, drop, set, get_or, map, refl, sym, ap, ◌∙◌, arith, ltb, ltb-true, ltb-false}
use mathlib.Core.Bool.{true≢false}
use Rattle.std.specs.Cmp.{IsStrictWeakOrder, tied_itself}
use Rattle.std.specs.List.{filter, insert, list_any, All, AllPairs, AllWithin}
use Rattle.std.specs.List.Sorted.{IsPartitionedBy, IsPartitionPoint, IsNonDecreasingBy}
use Rattle.std.specs.Ordering.{is_lt, ordering_index, ordering_reverse}
use Rattle.std.specs.declared.cmp.Ordering.{Ordering}
use Rattle.std.specs.declared.cmp.Ordering.TheVariants.{Less, Equal, Greater}
use Rattle.std.proofs.lemmas.List.{get_or_default, get_or-drop, length-drop, length-set}
use Rattle.std.proofs.lemmas.List.Elements.{All-append, All-cons, All-take, All-drop}
use Rattle.std.proofs.lemmas.List.Kept.{AllPairs-cons, IsSortedBy-filter}
use Rattle.std.proofs.lemmas.List.Sorted.{searchable_from_sorted, IsPartitionedBy-ltb, ranks_by, sorted_far}
use Rattle.rt_tree.specs.PathTree.{Path, path_cmp, path_eq, path_eq-is, paths_total}
use Rattle.rt_query.specs.Queries.{Query}
use Rattle.rt_query.specs.QueryEq.{query_eq}
use Rattle.rt_query.specs.laws.QueryEq.{query_eq_tells}
use Rattle.rt_cache.specs.inside.ByPath.{by_query, AreByPath}

-- ---- where a path stands

-- by its number an order is told
before_one : (o : Ordering) → is_lt o ≡ ltb (ordering_index o) 1
before_one Less = refl
before_one Equal = refl
before_one Greater = refl

never_fall : {X : Type 0} (q : X → Query) (p : Path) (xs : List X) → AreByPath q xs → IsNonDecreasingBy (λ (x : X). ordering_index (path_cmp (q x).path p)) xs
never_fall {X = X} q p xs up = searchable_from_sorted paths_total (λ (x : X). (q x).path) xs p up

pub befores_first : {X : Type 0} (q : X → Query) (p : Path) (xs : List X) → AreByPath q xs → IsPartitionedBy (λ (x : X). is_lt (path_cmp (q x).path p)) xs
befores_first {X = X} q p xs up i j d le lt e = before_one (path_cmp (q (get_or xs i d)).path p)
    ∙ IsPartitionedBy-ltb (λ (x : X). ordering_index (path_cmp (q x).path p)) xs 1 (never_fall q p xs up) i j d le lt
    (sym (before_one (path_cmp (q (get_or xs j d)).path p)) ∙ e)

-- what stands up to the path stands first
up_to_two : (o : Ordering) → not (is_lt (ordering_reverse o)) ≡ ltb (ordering_index o) 2
up_to_two Less = refl
up_to_two Equal = refl
up_to_two Greater = refl

pub up_to_first : {X : Type 0} (q : X → Query) (p : Path) (xs : List X) → AreByPath q xs → IsPartitionedBy (λ (x : X). not (is_lt (path_cmp p (q x).path))) xs
up_to_first {X = X} q p xs up i j d le lt e = told (get_or xs i d)
    ∙ IsPartitionedBy-ltb (λ (x : X). ordering_index (path_cmp (q x).path p)) xs 2 (never_fall q p xs up) i j d le lt
    (sym (told (get_or xs j d)) ∙ e)
  where
    told : (x : X) → not (is_lt (path_cmp p (q x).path)) ≡ ltb (ordering_index (path_cmp (q x).path p)) 2
    told x = ap (λ o. not (is_lt o)) (paths_total.antisymm p (q x).path) ∙ up_to_two (path_cmp (q x).path p)

pub query_ranks : {X : Type 0} (q : X → Query) → IsStrictWeakOrder (λ (x y : X). is_lt (by_query q x y))
query_ranks {X = X} q = ranks_by paths_total (λ (x : X). (q x).path)

-- ---- what is found of a query

pub not_itself : (p r : Path) → is_lt (path_cmp r p) ≡ true → r ≡ p → ⊥
not_itself p r e s = true≢false (sym e ∙ ap (λ x. is_lt (path_cmp x p)) s ∙ ap is_lt (tied_itself paths_total p))

-- what only a query of the path passes fails before it
pub fails_before : (p r : Path) (b : Bool) → is_lt (path_cmp r p) ≡ true → (b ≡ true → r ≡ p) → b ≡ false
fails_before p r true before of = absurd (not_itself p r before (of refl))
fails_before p r false before of = refl

-- what stands before a path has no query of it
pub before_other : (r q : Query) → is_lt (path_cmp r.path q.path) ≡ true → query_eq r q ≡ false
before_other r q e = elim (query_eq r q) as (λ b. query_eq r q ≡ b → b ≡ false) [
  | true ↦ λ f. absurd (not_itself q.path r.path e (ap (λ (x : Query). x.path) ((query_eq_tells r q).0 f)))
  | false ↦ λ f. refl
] refl

pub any_at : {X : Type 0} (test : X → Bool) (xs : List X) (n : ℕ) (d : X) → n < length xs → test (get_or xs n d) ≡ true → list_any test xs ≡ true
any_at test [] n d lt e = absurd (omega arith)
any_at test (x ∷ xs) zero d lt e = ap (λ b. b || list_any test xs) e
any_at test (x ∷ xs) (suc n) d lt e = elim (test x) as (λ b. (b || list_any test xs) ≡ true) [
  | true ↦ refl
  | false ↦ any_at test xs n d (omega arith) e
]

pub none_of : {X : Type 0} (test : X → Bool) (xs : List X) → ((k : ℕ) (d : X) → k < length xs → test (get_or xs k d) ≡ false) → list_any test xs ≡ false
none_of test [] h = refl
none_of test (x ∷ xs) h = (λ i. h 0 x (omega arith) i || none_of test xs (λ k d lt. h (suc k) d (omega arith)) i)

-- none so far passes a test, nor the next
pub before_more : {X : Type 0} (test : X → Bool) (xs : List X) (n : ℕ) (x : X) → n < length xs → test (get_or xs n x) ≡ false
    → ((k : ℕ) (d : X) → k < n → test (get_or xs k d) ≡ false) → (k : ℕ) (d : X) → k < n + 1 → test (get_or xs k d) ≡ false
before_more test xs n x lt here before k d h =
    below_more (λ j. test (get_or xs j d) ≡ false) n (λ j g. before j d g) (ap test (get_or_default xs n d x lt) ∙ here) k h

pub neither_before : (p r : Path) → is_lt (path_cmp p r) ≡ false → is_lt (path_cmp r p) ≡ false → path_eq p r ≡ true
neither_before p r a b = elim (path_cmp p r) as (λ o. path_cmp p r ≡ o → path_eq p r ≡ true) [
  | Less ↦ λ o. absurd (true≢false (sym (ap is_lt o) ∙ a))
  | Equal ↦ λ o. cc
  | Greater ↦ λ o. absurd (true≢false (sym (ap is_lt (paths_total.antisymm r p ∙ ap ordering_reverse o)) ∙ b))
] refl

-- where one is of a path behind, so is none after it of the path
pub path_behind : {X : Type 0} (q : X → Query) (p : Path) (xs : List X) (n : ℕ) → AreByPath q xs → n < length xs
    → ((d : X) → is_lt (path_cmp (q (get_or xs n d)).path p) ≡ false)
    → ((d : X) → is_lt (path_cmp (q (get_or xs n d)).path p) ≡ false → is_lt (path_cmp p (q (get_or xs n d)).path) ≡ false → ⊥)
    → (k : ℕ) (d : X) → n ≤ k → k < length xs → (q (get_or xs k d)).path ≡ p → ⊥
path_behind {X = X} q p xs n up within not_before other k d le lt same =
    let up_to : is_lt (path_cmp p (q (get_or xs n d)).path) ≡ false =
    ap (λ r. is_lt (path_cmp r (q (get_or xs n d)).path)) (sym same) ∙ sorted_far (λ (x y : X). is_lt (by_query q x y)) (query_ranks q) xs up n k d le lt in
    other d (not_before d) up_to

-- where none so far is of the query, and the next is of a path behind, none is
pub none_behind : {X : Type 0} (q : X → Query) (of : Query) (xs : List X) (n : ℕ) → AreByPath q xs → n < length xs
    → ((k : ℕ) (d : X) → k < n → query_eq (q (get_or xs k d)) of ≡ false)
    → ((d : X) → is_lt (path_cmp (q (get_or xs n d)).path of.path) ≡ false)
    → ((d : X) → path_eq (q (get_or xs n d)).path of.path ≡ false)
    → list_any (λ x. query_eq (q x) of) xs ≡ false
none_behind {X = X} q of xs n up within before not_before other = none_of (λ x. query_eq (q x) of) xs none
  where
    none : (k : ℕ) (d : X) → k < length xs → query_eq (q (get_or xs k d)) of ≡ false
    none k d lt = elim (nat_lt k n) as (λ b. nat_lt k n ≡ b → query_eq (q (get_or xs k d)) of ≡ false) [
      | true ↦ λ f. before k d (ltb-true k n f)
      | false ↦ λ f. behind k d (ltb-false k n f) lt
    ] refl
      where
        behind : (k : ℕ) (d : X) → n ≤ k → k < length xs → query_eq (q (get_or xs k d)) of ≡ false
        behind k d le lt = elim (query_eq (q (get_or xs k d)) of) as (λ b. query_eq (q (get_or xs k d)) of ≡ b → b ≡ false) [
          | false ↦ λ f. refl
          | true ↦ λ f. absurd (path_behind q of.path xs n up within not_before (λ x a b. true≢false (sym (neither_before (q (get_or xs n x)).path of.path a b) ∙ other x)) k d le lt (ap (λ (x : Query). x.path) ((query_eq_tells (q (get_or xs k d)) of).0 f)))
        ] refl

-- whether one passes by what it gives
pub any_map : {X Y : Type 0} (f : X → Y) (p : Y → Bool) (xs : List X) → list_any (λ x. p (f x)) xs ≡ list_any p (map f xs)
any_map f p [] = refl
any_map f p (x ∷ xs) = ap (λ b. p (f x) || b) (any_map f p xs)

-- ---- what keeps the order

pub by_path-filter : {X : Type 0} (q : X → Query) (test : X → Bool) (xs : List X) → AreByPath q xs → AreByPath q (filter test xs)
by_path-filter {X = X} q test xs up = IsSortedBy-filter (λ (x y : X). is_lt (by_query q x y)) (query_ranks q) test xs up

alike : {X : Type 0} (q : X → Query) (xs ys : List X) → length ys ≡ length xs
    → ((k : ℕ) (d : X) → k < length xs → q (get_or ys k d) ≡ q (get_or xs k d)) → AreByPath q xs → AreByPath q ys
alike q xs ys len same up k d low high =
    let within : k + 1 < length xs = omega (arith, len, high) in
    (λ i. is_lt (path_cmp (same (k + 1) d within i).path (same k d (omega (arith, within)) i).path)) ∙ up k d low within

pub set_alike : {X : Type 0} (q : X → Query) (xs : List X) (n : ℕ) (d new : X) → n < length xs → q new ≡ q (get_or xs n d)
    → (k : ℕ) (c : X) → k < length xs → q (get_or (set xs n new) k c) ≡ q (get_or xs k c)
set_alike q [] n d new lt e k c l = absurd (omega arith)
set_alike q (x ∷ xs) zero d new lt e zero c l = e
set_alike q (x ∷ xs) zero d new lt e (suc k) c l = refl
set_alike q (x ∷ xs) (suc n) d new lt e zero c l = refl
set_alike q (x ∷ xs) (suc n) d new lt e (suc k) c l = set_alike q xs n d new (omega arith) e k c (omega arith)

-- one of the same query in place of another
pub by_path-set : {X : Type 0} (q : X → Query) (xs : List X) (n : ℕ) (d new : X) → n < length xs → q new ≡ q (get_or xs n d) → AreByPath q xs → AreByPath q (set xs n new)
by_path-set q xs n d new lt e up = alike q xs (set xs n new) (length-set xs n new) (set_alike q xs n d new lt e) up

pub turned : (o : Ordering) → is_lt o ≡ true → is_lt (ordering_reverse o) ≡ false
turned Less e = refl
turned Equal e = refl
turned Greater e = absurd (true≢false (sym e))

pub not_before : (p r : Path) → is_lt (path_cmp r p) ≡ true → is_lt (path_cmp p r) ≡ false
not_before p r e = ap is_lt (paths_total.antisymm p r) ∙ turned (path_cmp r p) e

-- one more, which stands before none in front of it, and behind none after it
insert_between : {X : Type 0} (q : X → Query) (xs : List X) (n : ℕ) (y : X) → AreByPath q xs
    → AllWithin (λ (x : X). is_lt (path_cmp (q y).path (q x).path) ≡ false) xs 0 n
    → AllWithin (λ (x : X). is_lt (path_cmp (q x).path (q y).path) ≡ false) xs n (length xs)
    → AreByPath q (insert xs n y)
insert_between {X = X} q xs n y up front behind k d low high =
    placed xs n (λ i j e lt within. sorted_far (λ (x z : X). is_lt (by_query q x z)) (query_ranks q) xs up i j e (omega (arith, lt)) within) front behind k (k + 1) d (omega arith) high
  where
    R : X → X → Type 0
    R x z = is_lt (path_cmp (q z).path (q x).path) ≡ false

    placed : (zs : List X) (n : ℕ) → AllPairs R zs → AllWithin (λ (x : X). R x y) zs 0 n → AllWithin (R y) zs n (length zs) → AllPairs R (insert zs n y)
    placed zs zero up a b = AllPairs-cons R y zs (λ k d lt. b k d (omega arith) lt) up
    placed [] (suc n) up a b = AllPairs-cons R y [] (λ k d lt. absurd (omega (arith, lt))) up
    placed (z ∷ zs) (suc n) up a b =
        let first : All (R z) zs = λ k d lt. up 0 (suc k) d (omega arith) (omega (arith, lt)) in
        AllPairs-cons R z (insert zs n y)
        (All-append (R z) (take n zs) (y ∷ drop n zs) (All-take (R z) n zs first)
        (All-cons (R z) y (drop n zs) (a 0 z (omega arith) (omega arith)) (All-drop (R z) n zs first)))
        (placed zs n (λ i j d lt within. up (suc i) (suc j) d (omega (arith, lt)) (omega (arith, within)))
        (λ k d low lt. a (suc k) d (omega arith) (omega (arith, lt))) (λ k d low lt. b (suc k) d (omega (arith, low)) (omega (arith, lt))))

-- one more where its path stands, in front of those of its path
pub by_path-insert : {X : Type 0} (q : X → Query) (xs : List X) (n : ℕ) (y : X) → AreByPath q xs
    → IsPartitionPoint (λ (x : X). is_lt (path_cmp (q x).path (q y).path) ≡ true) (λ (x : X). is_lt (path_cmp (q x).path (q y).path) ≡ false) xs n
    → AreByPath q (insert xs n y)
by_path-insert q xs n y up at =
    insert_between q xs n y up (λ k d low lt. not_before (q y).path (q (get_or xs k d)).path (at.0 k d low lt)) at.1

-- so many stand up to the path
abbrev pub StandsBehind : {X : Type 0} → (X → Query) → List X → Path → ℕ → Type 0
StandsBehind {X} q xs p n =
    IsPartitionPoint (λ (x : X). not (is_lt (path_cmp p (q x).path)) ≡ true) (λ (x : X). not (is_lt (path_cmp p (q x).path)) ≡ false) xs n

not_true : (b : Bool) → not b ≡ true → b ≡ false
not_true true e = sym e
not_true false e = refl

not_false : (b : Bool) → not b ≡ false → b ≡ true
not_false true e = refl
not_false false e = sym e

-- one more behind those of its path
pub by_path-insert_behind : {X : Type 0} (q : X → Query) (xs : List X) (n : ℕ) (y : X) → AreByPath q xs → StandsBehind q xs (q y).path n → AreByPath q (insert xs n y)
by_path-insert_behind q xs n y up at =
    insert_between q xs n y up (λ k d low lt. not_true (is_lt (path_cmp (q y).path (q (get_or xs k d)).path)) (at.0 k d low lt))
    (λ k d low lt. not_before (q (get_or xs k d)).path (q y).path (not_false (is_lt (path_cmp (q y).path (q (get_or xs k d)).path)) (at.1 k d low lt)))

-- what stands behind a path is not of it
pub none_of_path : {X : Type 0} (q : X → Query) (xs : List X) (p : Path) (n : ℕ) → n ≤ length xs → StandsBehind q xs p n → All (λ (x : X). path_eq (q x).path p ≡ false) (drop n xs)
none_of_path {X} q xs p n le at k d lt =
    let within : n + k < length xs = omega (arith, lt, length-drop n xs, le) in
    ap (λ (x : X). path_eq (q x).path p) (get_or-drop n xs k d)
    ∙ differs (q (get_or xs (n + k) d)).path (not_false (is_lt (path_cmp p (q (get_or xs (n + k) d)).path)) (at.1 (n + k) d (omega arith) within))
  where
    differs : (r : Path) → is_lt (path_cmp p r) ≡ true → path_eq r p ≡ false
    differs r e = elim (path_eq r p) as (λ b. path_eq r p ≡ b → b ≡ false) [
      | true ↦ λ s. absurd (not_itself r p e (sym (path_eq-is r p s)))
      | false ↦ λ s. refl
    ] refl

-- where one is of a path behind, and none before it passes what only queries of the path pass, none does
pub none_of_path_left : {X : Type 0} (q : X → Query) (p : Path) (test : X → Bool) (xs : List X) (n : ℕ) → ((k : ℕ) (d : X) → k < length xs → test (get_or xs k d) ≡ true → (q (get_or xs k d)).path ≡ p) → AreByPath q xs → n < length xs
    → ((k : ℕ) (d : X) → k < n → test (get_or xs k d) ≡ false)
    → ((d : X) → is_lt (path_cmp (q (get_or xs n d)).path p) ≡ false)
    → ((d : X) → path_eq (q (get_or xs n d)).path p ≡ false)
    → (k : ℕ) (d : X) → k < length xs → test (get_or xs k d) ≡ false
none_of_path_left {X = X} q p test xs n of up within before first other k d lt = at (nat_lt k n) refl
  where
    no : ((q (get_or xs k d)).path ≡ p → ⊥) → test (get_or xs k d) ≡ false
    no h = elim (test (get_or xs k d)) as (λ b. test (get_or xs k d) ≡ b → b ≡ false) [
      | true ↦ λ e. absurd (h (of k d lt e))
      | false ↦ λ e. refl
    ] refl

    at : (b : Bool) → nat_lt k n ≡ b → test (get_or xs k d) ≡ false
    at true e = before k d (ltb-true k n e)
    at false e = no
        (path_behind q p xs n up within first (λ x a b. true≢false (sym (neither_before (q (get_or xs n x)).path p a b) ∙ other x)) k d (ltb-false k n e) lt)
