-- What stands by its queries: it stands by their paths, where a query stands, and what keeps the order.
use Rattle.std.proofs.Common.{◌≡◌, ℕ, zero, suc, ◌+◌, ◌<◌, ◌≤◌, Bool, true, false, not, List, [], ◌∷◌, length, take, drop, set, get_or, refl, sym, ap, ◌∙◌, arith, ltb, ltb-true, ltb-false, nat_lt}
use mathlib.Core.Bool.{true≢false}
use Rattle.std.specs.Cmp.{IsStrictWeakOrder, tied_itself}
use Rattle.std.specs.List.{filter, insert, remove, list_any, All, AllPairs, AllWithin}
use Rattle.std.specs.List.Sorted.{IsPartitionedBy, IsPartitionPoint, IsNonDecreasingBy}
use Rattle.std.specs.Ordering.{ordering_then, is_lt, is_gt, ordering_index, ordering_reverse}
use Rattle.std.specs.declared.cmp.Ordering.{Ordering}
use Rattle.std.specs.declared.cmp.Ordering.TheVariants.{Less, Equal, Greater}
use Rattle.std.proofs.lemmas.List.{get_or_default, length-set}
use Rattle.std.proofs.lemmas.List.Elements.{All-append, All-cons, All-take, All-drop}
use Rattle.std.proofs.lemmas.List.Kept.{AllPairs-cons, IsSortedBy-filter}
use Rattle.std.proofs.lemmas.List.Sorted.{searchable_from_sorted, IsPartitionedBy-ltb, ranks_by, sorted_far}
use Rattle.rt_tree.specs.PathTree.{path_cmp}
use Rattle.rt_query.specs.Queries.{Query}
use Rattle.rt_query.specs.QueryEq.{query_eq}
use Rattle.rt_query.specs.QueryOrder.{query_cmp}
use Rattle.rt_query.specs.laws.QueryEq.{query_eq_tells}
use Rattle.rt_query.specs.laws.QueryOrder.{queries_total, exact_queries}
use Rattle.rt_cache.specs.inside.ByPath.{by_whole, AreByPath, AreByQuery}
use Rattle.rt_cache.specs.inside.Spans.{has_place}
use Rattle.rt_cache.proofs.ByPaths.{none_of, set_alike, turned}
use Rattle.rt_cache.proofs.InSpans.{placed}

-- ---- by paths too

first_not_less : (o rest : Ordering) → is_lt (ordering_then o rest) ≡ false → is_lt o ≡ false
first_not_less Less rest e = e
first_not_less Equal rest e = refl
first_not_less Greater rest e = refl

first_less : (o rest : Ordering) → is_lt o ≡ true → is_lt (ordering_then o rest) ≡ true
first_less Less rest e = refl
first_less Equal rest e = absurd (true≢false (sym e))
first_less Greater rest e = absurd (true≢false (sym e))

-- what isn't in front of a query isn't of a path in front
pub path_not_lesser : (q r : Query) → is_lt (query_cmp r q) ≡ false → is_lt (path_cmp r.path q.path) ≡ false
path_not_lesser q r e = first_not_less (path_cmp r.path q.path) _ e

pub by_paths : {X : Type 0} (q : X → Query) (xs : List X) → AreByQuery q xs → AreByPath q xs
by_paths q xs up k d low high = first_not_less (path_cmp (q (get_or xs (k + 1) d)).path (q (get_or xs k d)).path) _ (up k d low high)

-- ---- where a query stands

before_one : (o : Ordering) → is_lt o ≡ ltb (ordering_index o) 1
before_one Less = refl
before_one Equal = refl
before_one Greater = refl

never_fall : {X : Type 0} (q : X → Query) (r : Query) (xs : List X) → AreByQuery q xs → IsNonDecreasingBy (λ (x : X). ordering_index (query_cmp (q x) r)) xs
never_fall q r xs up = searchable_from_sorted queries_total q xs r up

pub lesser_first : {X : Type 0} (q : X → Query) (r : Query) (xs : List X) → AreByQuery q xs → IsPartitionedBy (λ (x : X). is_lt (query_cmp (q x) r)) xs
lesser_first {X = X} q r xs up i j d le lt e = before_one (query_cmp (q (get_or xs i d)) r)
    ∙ IsPartitionedBy-ltb (λ (x : X). ordering_index (query_cmp (q x) r)) xs 1 (never_fall q r xs up) i j d le lt
    (sym (before_one (query_cmp (q (get_or xs j d)) r)) ∙ e)

pub whole_ranks : {X : Type 0} (q : X → Query) → IsStrictWeakOrder (λ (x y : X). is_lt (by_whole q x y))
whole_ranks q = ranks_by queries_total q

-- what stands before a query is another one
pub lesser_other : (r q : Query) → is_lt (query_cmp r q) ≡ true → query_eq r q ≡ false
lesser_other r q e = at (query_eq r q) refl
  where
    at : (b : Bool) → query_eq r q ≡ b → query_eq r q ≡ false
    at false f = f
    at true f = absurd (true≢false (sym e ∙ ap (λ x. is_lt (query_cmp x q)) ((query_eq_tells r q).0 f) ∙ ap is_lt (tied_itself queries_total q)))

-- of two of which neither stands before the other each is the other
pub neither_lesser : (r q : Query) → is_lt (query_cmp r q) ≡ false → is_lt (query_cmp q r) ≡ false → r ≡ q
neither_lesser r q a b = at (query_cmp r q) refl
  where
    at : (o : Ordering) → query_cmp r q ≡ o → r ≡ q
    at Less e = absurd (true≢false (sym (ap is_lt e) ∙ a))
    at Equal e = exact_queries r q e
    at Greater e = absurd (true≢false (sym (ap is_lt (queries_total.antisymm q r ∙ ap ordering_reverse e)) ∙ b))

-- where all before a place stand before the query, and none from there on does, it stands there or nowhere
pub none_unless_here : {X : Type 0} (q : X → Query) (of : Query) (xs : List X) (n : ℕ) (x : X) → AreByQuery q xs
    → IsPartitionPoint (λ (y : X). is_lt (query_cmp (q y) of) ≡ true) (λ (y : X). is_lt (query_cmp (q y) of) ≡ false) xs n
    → n < length xs → query_eq (q (get_or xs n x)) of ≡ false → list_any (λ y. query_eq (q y) of) xs ≡ false
none_unless_here {X = X} q of xs n x up point within other = none_of (λ y. query_eq (q y) of) xs none
  where
    none : (k : ℕ) (d : X) → k < length xs → query_eq (q (get_or xs k d)) of ≡ false
    none k d lt = at (nat_lt k n) refl
      where
        same_here : q (get_or xs k d) ≡ of → n ≤ k → ⊥
        same_here same le =
            let here : q (get_or xs n d) ≡ of = neither_lesser (q (get_or xs n d)) of (point.1 n d (omega arith) within)
            (ap (λ r. is_lt (query_cmp r (q (get_or xs n d)))) (sym same) ∙ sorted_far (λ (y z : X). is_lt (by_whole q y z)) (whole_ranks q) xs up n k d le lt) in
            true≢false (sym ((query_eq_tells (q (get_or xs n x)) of).1 (ap q (get_or_default xs n x d within) ∙ here)) ∙ other)

        at : (b : Bool) → nat_lt k n ≡ b → query_eq (q (get_or xs k d)) of ≡ false
        at true e = lesser_other (q (get_or xs k d)) of (point.0 k d (omega arith) (ltb-true k n e))
        at false e = here (query_eq (q (get_or xs k d)) of) refl
          where
            here : (b : Bool) → query_eq (q (get_or xs k d)) of ≡ b → query_eq (q (get_or xs k d)) of ≡ false
            here false f = f
            here true f = absurd (same_here ((query_eq_tells (q (get_or xs k d)) of).0 f) (ltb-false k n e))

-- where all stand before the query, it stands nowhere
pub none_behind_all : {X : Type 0} (q : X → Query) (of : Query) (xs : List X) (n : ℕ)
    → IsPartitionPoint (λ (y : X). is_lt (query_cmp (q y) of) ≡ true) (λ (y : X). is_lt (query_cmp (q y) of) ≡ false) xs n
    → n ≡ length xs → list_any (λ y. query_eq (q y) of) xs ≡ false
none_behind_all q of xs n point all =
    none_of (λ y. query_eq (q y) of) xs (λ k d lt. lesser_other (q (get_or xs k d)) of (point.0 k d (omega arith) (omega (arith, lt, all))))

-- ---- where those of a query stand

less_not_more : (o : Ordering) → is_lt o ≡ true → is_gt o ≡ false
less_not_more Less e = refl
less_not_more Equal e = refl
less_not_more Greater e = absurd (true≢false (sym e))

more_not_equal : (r q : Query) → not (is_gt (query_cmp r q)) ≡ false → query_eq r q ≡ false
more_not_equal r q e = at (query_eq r q) refl
  where
    at : (b : Bool) → query_eq r q ≡ b → query_eq r q ≡ false
    at false f = f
    at true f = absurd (true≢false (ap (λ o. not (is_gt o)) (sym (tied_itself queries_total q)) ∙ ap (λ x. not (is_gt (query_cmp x q))) (sym ((query_eq_tells r q).0 f)) ∙ e))

between_equal : (r q : Query) → is_lt (query_cmp r q) ≡ false → not (is_gt (query_cmp r q)) ≡ true → query_eq r q ≡ true
between_equal r q a b = at (query_cmp r q) refl
  where
    at : (o : Ordering) → query_cmp r q ≡ o → query_eq r q ≡ true
    at Less e = absurd (true≢false (sym (ap is_lt e) ∙ a))
    at Equal e = (query_eq_tells r q).1 (exact_queries r q e)
    at Greater e = absurd (true≢false (sym b ∙ ap (λ o. not (is_gt o)) e))

abbrev pub StandsAfter : {X : Type 0} → (X → Query) → List X → Query → ℕ → Type 0
StandsAfter q xs of end = IsPartitionPoint (λ y. not (is_gt (query_cmp (q y) of)) ≡ true) (λ y. not (is_gt (query_cmp (q y) of)) ≡ false) xs end

-- those between where a query begins and where it is passed are of the query
pub at_query : {X : Type 0} (q : X → Query) (of : Query) (xs : List X) (start end k : ℕ) (d : X)
    → IsPartitionPoint (λ (y : X). is_lt (query_cmp (q y) of) ≡ true) (λ (y : X). is_lt (query_cmp (q y) of) ≡ false) xs start
    → StandsAfter q xs of end → k < length xs
    → query_eq (q (get_or xs k d)) of ≡ has_place k (record { start = start; end = end })
at_query q of xs start end k d from after lt =
    placed (query_eq r of) k start end
    (λ before. lesser_other r of (from.0 k d (omega arith) before))
    (λ a b. between_equal r of (from.1 k d a lt) (after.0 k d (omega arith) b))
    (λ a b. more_not_equal r of (after.1 k d a lt))
  where
    r : Query
    r = q (get_or xs k d)

-- the first of a query stands no further than what is behind it
pub from_after : {X : Type 0} (q : X → Query) (of : Query) (xs : List X) (start end : ℕ)
    → IsPartitionPoint (λ (y : X). is_lt (query_cmp (q y) of) ≡ true) (λ (y : X). is_lt (query_cmp (q y) of) ≡ false) xs start
    → StandsAfter q xs of end → start ≤ length xs → start ≤ end
from_after {X} q of xs start end from after within = at (nat_lt end start) refl
  where
    one : (ys : List X) (k : ℕ) → k < length ys → X
    one [] k lt = absurd (omega (arith, lt))
    one (y ∷ ys) k lt = y

    at : (b : Bool) → nat_lt end start ≡ b → start ≤ end
    at false e = ltb-false end start e
    at true e =
        let lt : end < start = ltb-true end start e in
        let there : end < length xs = omega (arith, lt, within) in
        let d : X = one xs end there in
        absurd (true≢false (sym (ap not (less_not_more (query_cmp (q (get_or xs end d)) of) (from.0 end d (omega arith) lt))) ∙ after.1 end d (omega arith) there))

-- ---- what keeps the order

pub by_query-filter : {X : Type 0} (q : X → Query) (test : X → Bool) (xs : List X) → AreByQuery q xs → AreByQuery q (filter test xs)
by_query-filter {X = X} q test xs up = IsSortedBy-filter (λ (x y : X). is_lt (by_whole q x y)) (whole_ranks q) test xs up

alike : {X : Type 0} (q : X → Query) (xs ys : List X) → length ys ≡ length xs
    → ((k : ℕ) (d : X) → k < length xs → q (get_or ys k d) ≡ q (get_or xs k d)) → AreByQuery q xs → AreByQuery q ys
alike q xs ys len same up k d low high =
    let within : k + 1 < length xs = omega (arith, len, high) in
    (λ i. is_lt (query_cmp (same (k + 1) d within i) (same k d (omega (arith, within)) i))) ∙ up k d low within

-- one of the same query in place of another
pub by_query-set : {X : Type 0} (q : X → Query) (xs : List X) (n : ℕ) (d new : X) → n < length xs → q new ≡ q (get_or xs n d) → AreByQuery q xs → AreByQuery q (set xs n new)
by_query-set q xs n d new lt e up = alike q xs (set xs n new) (length-set xs n new) (set_alike q xs n d new lt e) up

not_lesser : (p r : Query) → is_lt (query_cmp r p) ≡ true → is_lt (query_cmp p r) ≡ false
not_lesser p r e = ap is_lt (queries_total.antisymm p r) ∙ turned (query_cmp r p) e

-- one more where its query stands, in front of those of its query
pub by_query-insert : {X : Type 0} (q : X → Query) (xs : List X) (n : ℕ) (y : X) → AreByQuery q xs
    → IsPartitionPoint (λ (x : X). is_lt (query_cmp (q x) (q y)) ≡ true) (λ (x : X). is_lt (query_cmp (q x) (q y)) ≡ false) xs n
    → AreByQuery q (insert xs n y)
by_query-insert {X = X} q xs n y up at k d low high =
    placed xs n (λ i j e lt within. sorted_far (λ (x z : X). is_lt (by_whole q x z)) (whole_ranks q) xs up i j e (omega (arith, lt)) within)
    (λ k d low lt. not_lesser (q y) (q (get_or xs k d)) (at.0 k d low lt)) at.1 k (k + 1) d (omega arith) high
  where
    R : X → X → Type 0
    R x z = is_lt (query_cmp (q z) (q x)) ≡ false

    placed : (zs : List X) (n : ℕ) → AllPairs R zs → AllWithin (λ (x : X). R x y) zs 0 n → AllWithin (R y) zs n (length zs) → AllPairs R (insert zs n y)
    placed zs zero up a b = AllPairs-cons R y zs (λ k d lt. b k d (omega arith) lt) up
    placed [] (suc n) up a b = AllPairs-cons R y [] (λ k d lt. absurd (omega (arith, lt))) up
    placed (z ∷ zs) (suc n) up a b =
        let first : All (R z) zs = λ k d lt. up 0 (suc k) d (omega arith) (omega (arith, lt)) in
        AllPairs-cons R z (insert zs n y)
        (All-append (R z) (take n zs) (y ∷ drop n zs) (All-take (R z) n zs first)
        (All-cons (R z) y (drop n zs) (a 0 z (omega arith) (omega arith)) (All-drop (R z) n zs first)))
        (placed zs n (λ i j d lt within. up (suc i) (suc j) d (omega (arith, lt)) (omega (arith, within)))
        (λ k d low lt. a (suc k) d (omega arith) (omega (arith, lt))) (λ k d low lt. b (suc k) d (omega (arith, low)) (omega (arith, lt))))

pub by_query-remove : {X : Type 0} (q : X → Query) (xs : List X) (n : ℕ) → AreByQuery q xs → AreByQuery q (remove xs n)
by_query-remove {X = X} q xs n up k d low high =
    left xs n (λ i j e lt within. sorted_far (λ (x y : X). is_lt (by_whole q x y)) (whole_ranks q) xs up i j e (omega (arith, lt)) within) k (k + 1) d (omega arith) high
  where
    R : X → X → Type 0
    R x y = is_lt (by_whole q y x) ≡ false

    left : (ys : List X) (n : ℕ) → AllPairs R ys → AllPairs R (remove ys n)
    left [] zero up = up
    left [] (suc n) up = up
    left (y ∷ ys) zero up = λ i j d lt within. up (suc i) (suc j) d (omega (arith, lt)) (omega (arith, within))
    left (y ∷ ys) (suc n) up =
        let first : All (R y) ys = λ k d lt. up 0 (suc k) d (omega arith) (omega (arith, lt)) in
        AllPairs-cons R y (remove ys n)
        (All-append (R y) (take n ys) (drop (suc n) ys) (All-take (R y) n ys first) (All-drop (R y) (suc n) ys first))
        (left ys n (λ i j d lt within. up (suc i) (suc j) d (omega (arith, lt)) (omega (arith, within))))
