-- Filtered forms in the order of queries: where one stands, and what keeps the order.
use Rattle.std.proofs.Common.{◌≡◌, ℕ, zero, suc, ◌+◌, ◌<◌, ◌≤◌, Bool, true, false, cond, List, [], ◌∷◌, length, take, drop, set, get_or, Some, None, refl, sym, ap, ◌∙◌, arith, ltb, ltb-true, ltb-false, nat_lt}
use mathlib.Core.Bool.{true≢false}
use Rattle.std.specs.Cmp.{IsStrictWeakOrder, tied_itself}
use Rattle.std.specs.List.{insert, remove, All, AllPairs, AllWithin}
use Rattle.std.specs.List.Sorted.{IsPartitionedBy, IsPartitionPoint}
use Rattle.std.specs.Option.{option_map}
use Rattle.std.specs.Ordering.{is_lt, ordering_index, ordering_reverse}
use Rattle.std.specs.declared.cmp.Ordering.{Ordering}
use Rattle.std.specs.declared.cmp.Ordering.TheVariants.{Less, Equal, Greater}
use Rattle.std.proofs.lemmas.List.{get_or_default, length-set}
use Rattle.std.proofs.lemmas.List.Elements.{All-append, All-cons, All-take, All-drop}
use Rattle.std.proofs.lemmas.List.Kept.{AllPairs-cons}
use Rattle.std.proofs.lemmas.List.Sorted.{searchable_from_sorted, IsPartitionedBy-ltb, ranks_by, sorted_far}
use Rattle.rt_query.specs.Queries.{Query}
use Rattle.rt_query.specs.QueryEq.{query_eq}
use Rattle.rt_query.specs.QueryOrder.{query_cmp}
use Rattle.rt_query.specs.laws.QueryEq.{query_eq_tells}
use Rattle.rt_query.specs.laws.QueryOrder.{queries_total, exact_queries}
use Rattle.rt_forms.specs.Order.{by_form, AreInOrder}
use Rattle.rt_forms.specs.inside.Lists.{entry_at}
use Rattle.rt_forms.proofs.ListLaws.{Entries}

-- ---- where a form stands

before_one : (o : Ordering) → is_lt o ≡ ltb (ordering_index o) 1
before_one Less = refl
before_one Equal = refl
before_one Greater = refl

pub lesser_first : (r : Query) (es : Entries) → AreInOrder es → IsPartitionedBy (λ (e : Query × List ℕ). is_lt (query_cmp e.0 r)) es
lesser_first r es up i j d le lt e = before_one (query_cmp (get_or es i d).0 r)
    ∙ IsPartitionedBy-ltb (λ (x : Query × List ℕ). ordering_index (query_cmp x.0 r)) es 1 (searchable_from_sorted queries_total (λ (x : Query × List ℕ). x.0) es r up) i j d le lt
    (sym (before_one (query_cmp (get_or es j d).0 r)) ∙ e)

ranks : IsStrictWeakOrder (λ (x y : Query × List ℕ). is_lt (by_form x y))
ranks = ranks_by queries_total (λ (x : Query × List ℕ). x.0)

far : (es : Entries) → AreInOrder es → (i j : ℕ) (d : Query × List ℕ) → i ≤ j → j < length es → is_lt (query_cmp (get_or es j d).0 (get_or es i d).0) ≡ false
far es up = sorted_far (λ (x y : Query × List ℕ). is_lt (by_form x y)) ranks es up

-- what stands before a query is another one
lesser_other : (r q : Query) → is_lt (query_cmp r q) ≡ true → query_eq r q ≡ false
lesser_other r q e = at (query_eq r q) refl
  where
    at : (b : Bool) → query_eq r q ≡ b → query_eq r q ≡ false
    at false f = f
    at true f = absurd (true≢false (sym e ∙ ap (λ x. is_lt (query_cmp x q)) ((query_eq_tells r q).0 f) ∙ ap is_lt (tied_itself queries_total q)))

-- of two of which neither stands before the other each is the other
neither_lesser : (r q : Query) → is_lt (query_cmp r q) ≡ false → is_lt (query_cmp q r) ≡ false → r ≡ q
neither_lesser r q a b = at (query_cmp r q) refl
  where
    at : (o : Ordering) → query_cmp r q ≡ o → r ≡ q
    at Less e = absurd (true≢false (sym (ap is_lt e) ∙ a))
    at Equal e = exact_queries r q e
    at Greater e = absurd (true≢false (sym (ap is_lt (queries_total.antisymm q r ∙ ap ordering_reverse e)) ∙ b))

found : (q : Query) (es : Entries) (n : ℕ) (d : Query × List ℕ) → n < length es → query_eq (get_or es n d).0 q ≡ true
    → ((k : ℕ) (c : Query × List ℕ) → k < n → query_eq (get_or es k c).0 q ≡ false) → entry_at q es ≡ Some n
found q [] n d lt here before = absurd (omega (arith, lt))
found q (e ∷ es) zero d lt here before = ap (λ b. cond b (Some 0) (option_map suc (entry_at q es))) here
found q (e ∷ es) (suc n) d lt here before =
    ap (λ b. cond b (Some 0) (option_map suc (entry_at q es))) (before 0 e (omega arith))
    ∙ ap (option_map suc) (found q es n d (omega (arith, lt)) here (λ k c l. before (suc k) c (omega (arith, l))))

missed : (q : Query) (es : Entries) → ((k : ℕ) (c : Query × List ℕ) → k < length es → query_eq (get_or es k c).0 q ≡ false) → entry_at q es ≡ None
missed q [] none = refl
missed q (e ∷ es) none =
    ap (λ b. cond b (Some 0) (option_map suc (entry_at q es))) (none 0 e (omega arith))
    ∙ ap (option_map suc) (missed q es (λ k c l. none (suc k) c (omega (arith, l))))

module _ (q : Query) (es : Entries) (up : AreInOrder es) (n : ℕ)
    (point : IsPartitionPoint (λ (e : Query × List ℕ). is_lt (query_cmp e.0 q) ≡ true) (λ (e : Query × List ℕ). is_lt (query_cmp e.0 q) ≡ false) es n) where
  -- all stand before the query
  pub at_end : n ≡ length es → entry_at q es ≡ None
  at_end all = missed q es (λ k d lt. lesser_other (get_or es k d).0 q (point.0 k d (omega arith) (omega (arith, lt, all))))

  -- or the first that doesn't is of it
  pub at_it : (d : Query × List ℕ) → n < length es → query_eq (get_or es n d).0 q ≡ true → entry_at q es ≡ Some n
  at_it d lt here = found q es n d lt here (λ k c l. lesser_other (get_or es k c).0 q (point.0 k c (omega arith) l))

  -- or it stands nowhere
  pub at_gap : (x : Query × List ℕ) → n < length es → query_eq (get_or es n x).0 q ≡ false → entry_at q es ≡ None
  at_gap x within other = missed q es none
    where
      none : (k : ℕ) (d : Query × List ℕ) → k < length es → query_eq (get_or es k d).0 q ≡ false
      none k d lt = at (nat_lt k n) refl
        where
          same_here : (get_or es k d).0 ≡ q → n ≤ k → ⊥
          same_here same le =
              let here : (get_or es n d).0 ≡ q = neither_lesser (get_or es n d).0 q (point.1 n d (omega arith) within)
              (ap (λ r. is_lt (query_cmp r (get_or es n d).0)) (sym same) ∙ far es up n k d le lt) in
              true≢false (sym ((query_eq_tells (get_or es n x).0 q).1 (ap (λ (e : Query × List ℕ). e.0) (get_or_default es n x d within) ∙ here)) ∙ other)

          here : (b : Bool) → query_eq (get_or es k d).0 q ≡ b → n ≤ k → query_eq (get_or es k d).0 q ≡ false
          here false f le = f
          here true f le = absurd (same_here ((query_eq_tells (get_or es k d).0 q).0 f) le)

          at : (b : Bool) → nat_lt k n ≡ b → query_eq (get_or es k d).0 q ≡ false
          at true e = lesser_other (get_or es k d).0 q (point.0 k d (omega arith) (ltb-true k n e))
          at false e = here (query_eq (get_or es k d).0 q) refl (ltb-false k n e)

-- ---- what keeps the order

set_alike : (es : Entries) (n : ℕ) (d new : Query × List ℕ) → n < length es → new.0 ≡ (get_or es n d).0
    → (k : ℕ) (c : Query × List ℕ) → k < length es → (get_or (set es n new) k c).0 ≡ (get_or es k c).0
set_alike [] n d new lt e k c l = absurd (omega (arith, lt))
set_alike (x ∷ es) zero d new lt e zero c l = e
set_alike (x ∷ es) zero d new lt e (suc k) c l = refl
set_alike (x ∷ es) (suc n) d new lt e zero c l = refl
set_alike (x ∷ es) (suc n) d new lt e (suc k) c l = set_alike es n d new (omega (arith, lt)) e k c (omega (arith, l))

-- one of the same form in place of another
pub set_in_order : (es : Entries) (n : ℕ) (d new : Query × List ℕ) → n < length es → new.0 ≡ (get_or es n d).0 → AreInOrder es → AreInOrder (set es n new)
set_in_order es n d new lt e up k c low high =
    let within : k + 1 < length es = omega (arith, length-set es n new, high) in
    (λ i. is_lt (query_cmp (set_alike es n d new lt e (k + 1) c within i) (set_alike es n d new lt e k c (omega (arith, within)) i))) ∙ up k c low within

turned : (o : Ordering) → is_lt o ≡ true → is_lt (ordering_reverse o) ≡ false
turned Less e = refl
turned Equal e = refl
turned Greater e = absurd (true≢false (sym e))

not_lesser : (p r : Query) → is_lt (query_cmp r p) ≡ true → is_lt (query_cmp p r) ≡ false
not_lesser p r e = ap is_lt (queries_total.antisymm p r) ∙ turned (query_cmp r p) e

abbrev R : Query × List ℕ → Query × List ℕ → Type 0
R x z = is_lt (query_cmp z.0 x.0) ≡ false

pairs : (es : Entries) → AreInOrder es → AllPairs R es
pairs es up i j d lt within = far es up i j d (omega (arith, lt)) within

-- one more where its form stands
pub insert_in_order : (es : Entries) (n : ℕ) (y : Query × List ℕ) → AreInOrder es
    → IsPartitionPoint (λ (x : Query × List ℕ). is_lt (query_cmp x.0 y.0) ≡ true) (λ (x : Query × List ℕ). is_lt (query_cmp x.0 y.0) ≡ false) es n
    → AreInOrder (insert es n y)
insert_in_order es n y up at k d low high =
    placed es n (pairs es up) (λ k d low lt. not_lesser y.0 (get_or es k d).0 (at.0 k d low lt)) at.1 k (k + 1) d (omega arith) high
  where
    placed : (zs : Entries) (n : ℕ) → AllPairs R zs → AllWithin (λ (x : Query × List ℕ). R x y) zs 0 n → AllWithin (R y) zs n (length zs) → AllPairs R (insert zs n y)
    placed zs zero up a b = AllPairs-cons R y zs (λ k d lt. b k d (omega arith) lt) up
    placed [] (suc n) up a b = AllPairs-cons R y [] (λ k d lt. absurd (omega (arith, lt))) up
    placed (z ∷ zs) (suc n) up a b =
        let first : All (R z) zs = λ k d lt. up 0 (suc k) d (omega arith) (omega (arith, lt)) in
        AllPairs-cons R z (insert zs n y)
        (All-append (R z) (take n zs) (y ∷ drop n zs) (All-take (R z) n zs first)
        (All-cons (R z) y (drop n zs) (a 0 z (omega arith) (omega arith)) (All-drop (R z) n zs first)))
        (placed zs n (λ i j d lt within. up (suc i) (suc j) d (omega (arith, lt)) (omega (arith, within)))
        (λ k d low lt. a (suc k) d (omega arith) (omega (arith, lt))) (λ k d low lt. b (suc k) d (omega (arith, low)) (omega (arith, lt))))

-- one less
pub remove_in_order : (es : Entries) (n : ℕ) → AreInOrder es → AreInOrder (remove es n)
remove_in_order es n up k d low high = left es n (pairs es up) k (k + 1) d (omega arith) high
  where
    left : (ys : Entries) (n : ℕ) → AllPairs R ys → AllPairs R (remove ys n)
    left [] zero up = up
    left [] (suc n) up = up
    left (y ∷ ys) zero up = λ i j d lt within. up (suc i) (suc j) d (omega (arith, lt)) (omega (arith, within))
    left (y ∷ ys) (suc n) up =
        let first : All (R y) ys = λ k d lt. up 0 (suc k) d (omega arith) (omega (arith, lt)) in
        AllPairs-cons R y (remove ys n)
        (All-append (R y) (take n ys) (drop (suc n) ys) (All-take (R y) n ys first) (All-drop (R y) (suc n) ys first))
        (left ys n (λ i j d lt within. up (suc i) (suc j) d (omega (arith, lt)) (omega (arith, within))))
