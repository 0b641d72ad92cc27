-- The widest of the filtered forms of a path: what it takes in, one of those in front does.
use Rattle.std.proofs.Common.{◌≡◌, ℕ, suc, ◌+◌, ◌<◌, ◌≤◌, ◌&&◌, ◌||◌, nat_lt, Bool, true, false, not, List, [], ◌∷◌, ◌++◌, length, take, drop, get_or, Option, Some, None, is_some, refl, sym, ap, subst, ◌∙◌, arith, inl, inr, ◌⊎◌, ltb-true, ltb-false}
use mathlib.Core.Bool.{true≢false}
use Rattle.std.specs.Cmp.{tied_itself, upto}
use Rattle.std.specs.List.{list_any, All}
use Rattle.std.specs.List.Sorted.{IsPartitionedBy, IsPartitionPoint}
use Rattle.std.specs.Ordering.{is_lt, is_gt, ordering_reverse}
use Rattle.std.specs.declared.cmp.Ordering.{Ordering}
use Rattle.std.specs.declared.cmp.Ordering.TheVariants.{Less, Equal, Greater}
use Rattle.std.proofs.lemmas.List.{get_or_default, get_or_append_left, get_or_push, get_or-take, get_or-drop, length-take-le, length-drop, take-append-drop}
use Rattle.std.proofs.lemmas.List.Folds.{list_any-append, list_any_none, list_any_more}
use Rattle.std.proofs.lemmas.List.Sorted.{sorted_far}
use Rattle.rt_tree.specs.TreeEq.{both, both_first, both_second}
use Rattle.rt_query.specs.declared.query.Limit.{Limit}
use Rattle.rt_query.specs.Queries.{Query, is_filtered}
use Rattle.rt_query.specs.QueryEq.{query_eq}
use Rattle.rt_query.specs.QueryOrder.{query_cmp, unlimited}
use Rattle.rt_query.specs.Ranges.{takes_in}
use Rattle.rt_query.specs.laws.QueryEq.{query_eq_tells}
use Rattle.rt_query.specs.laws.QueryOrder.{queries_total, exact_queries, takes_in_front, takes_in_up_to, taken_between, unlimited_front}
use Rattle.rt_query.specs.laws.RangeLaws.{takes_in-trans}
use Rattle.rt_forms.specs.Order.{by_form, AreInOrder}
use Rattle.rt_cover.specs.inside.Widest.{Entry, has_left, is_taken_in, is_taken_in_at, AreUpTo, IsWidest, IsAmong, AreWidest, is_in_front}
use Rattle.rt_cover.proofs.SearchLaws.{lesser_first}
use Rattle.rt_cover.proofs.TakerLaws.{no_further}

-- ---- tests

never : (a t l : Bool) → l ≡ false → (a || (t && l)) ≡ a
never true t l e = refl
never false true l e = e
never false false l e = refl

absorbed : (a t l b : Bool) → a ≡ b → (t ≡ true → b ≡ true) → (a || (t && l)) ≡ b
absorbed true t l b e h = e
absorbed false true l b e h = absurd (true≢false (sym (h refl) ∙ sym e))
absorbed false false l b e h = e

overtaken : (a t l : Bool) → l ≡ true → (a ≡ true → t ≡ true) → (a || (t && l)) ≡ t
overtaken true t l e h = sym (h refl)
overtaken false true l e h = e
overtaken false false l e h = refl

-- ---- a form more is looked at

module _ (ended : ℕ → Bool) (es : List Entry) (n : ℕ) (lt : n < length es) (e : Entry) (at : e ≡ get_or es n e) where
  one_more : (q : Query) → is_taken_in ended q (take (n + 1) es) ≡ (is_taken_in ended q (take n es) || (takes_in e.0 q && has_left ended e))
  one_more q = list_any_more (λ (x : Entry). takes_in x.0 q && has_left ended x) es n e lt
      ∙ ap (λ (x : Entry). is_taken_in ended q (take n es) || (takes_in x.0 q && has_left ended x)) (sym at)

  fewer : (q : Query) → AreUpTo es q (n + 1) → AreUpTo es q n
  fewer q up k d low high = up k d low (omega (arith, high))

  last_up : (q : Query) → AreUpTo es q (n + 1) → is_gt (query_cmp e.0 (unlimited q)) ≡ false
  last_up q up = ap (λ (x : Entry). is_gt (query_cmp x.0 (unlimited q))) at ∙ up n e (omega arith) (omega arith)

  -- none of its listeners is left
  pub stays_without : (o : Option ℕ) → has_left ended e ≡ false → IsWidest ended es n o → IsWidest ended es (n + 1) o
  stays_without o gone is q d up = one_more q ∙ never (is_taken_in ended q (take n es)) (takes_in e.0 q) (has_left ended e) gone ∙ is q d (fewer q up)

  -- it is the first that is left
  pub first_left : has_left ended e ≡ true → IsWidest ended es n None → IsWidest ended es (n + 1) (Some n)
  first_left left is q d up = one_more q
      ∙ overtaken (is_taken_in ended q (take n es)) (takes_in e.0 q) (has_left ended e) left (λ t. absurd (true≢false (sym t ∙ is q d (fewer q up))))
      ∙ ap (λ (x : Entry). takes_in x.0 q) (at ∙ get_or_default es n e d lt)

  module _ (i : ℕ) (before : i < n) (w : Entry) (there : w ≡ get_or es i w) where
    same_there : (d : Entry) → w ≡ get_or es i d
    same_there d = there ∙ get_or_default es i w d (omega (arith, before, lt))

    told : (q : Query) (d : Entry) → IsWidest ended es n (Some i) → AreUpTo es q (n + 1) → is_taken_in ended q (take n es) ≡ takes_in w.0 q
    told q d is up = is q d (fewer q up) ∙ ap (λ (x : Entry). takes_in x.0 q) (sym (same_there d))

    -- the widest one so far takes it in
    pub stays_wide : takes_in w.0 e.0 ≡ true → IsWidest ended es n (Some i) → IsWidest ended es (n + 1) (Some i)
    stays_wide wide is q d up = one_more q
        ∙ absorbed (is_taken_in ended q (take n es)) (takes_in e.0 q) (has_left ended e) (takes_in w.0 q) (told q d is up) (λ t. takes_in-trans w.0 e.0 q wide t)
        ∙ ap (λ (x : Entry). takes_in x.0 q) (same_there d)

    -- or it reaches further
    pub reaches_further : AreInOrder es → is_filtered e.0 ≡ true → has_left ended e ≡ true → takes_in w.0 e.0 ≡ false → IsWidest ended es n (Some i) → IsWidest ended es (n + 1) (Some n)
    reaches_further order filtered left narrow is q d up = one_more q
        ∙ overtaken (is_taken_in ended q (take n es)) (takes_in e.0 q) (has_left ended e) left
        (λ t. either (taken_between w.0 e.0 q (sym (told q d is up) ∙ t) filtered front (last_up q up)))
        ∙ ap (λ (x : Entry). takes_in x.0 q) (at ∙ get_or_default es n e d lt)
      where
        front : is_gt (query_cmp w.0 e.0) ≡ false
        front = (λ k. is_gt (query_cmp (same_there e k).0 (at k).0)) ∙ no_further (λ (e : Entry). e.0) es order i n e (omega (arith, before)) lt

        either : ((takes_in w.0 e.0 ≡ true) ⊎ (takes_in e.0 q ≡ true)) → takes_in e.0 q ≡ true
        either (inl t) = absurd (true≢false (sym t ∙ narrow))
        either (inr t) = t

-- nothing was looked at yet
pub none_yet : (ended : ℕ → Bool) (es : List Entry) → IsWidest ended es 0 None
none_yet ended es q d up = refl

-- one place more
pub place_more : (ended : ℕ → Bool) (es : List Entry) (places : List (Option ℕ)) (n : ℕ) (o : Option ℕ) → length places ≡ n → IsWidest ended es (n + 1) o
    → ((k : ℕ) (x : Option ℕ) → k < n → IsWidest ended es (k + 1) (get_or places k x))
    → (k : ℕ) (x : Option ℕ) → k < n + 1 → IsWidest ended es (k + 1) (get_or (places ++ o ∷ []) k x)
place_more ended es places n o long new old k x lt = at (nat_lt k n) refl
  where
    at : (b : Bool) → nat_lt k n ≡ b → IsWidest ended es (k + 1) (get_or (places ++ o ∷ []) k x)
    at true t =
        let less : k < n = ltb-true k n t in
        subst (IsWidest ended es (k + 1)) (sym (get_or_append_left places (o ∷ []) x k (omega (arith, less, long)))) (old k x less)
    at false t =
        let ge : n ≤ k = ltb-false k n t in
        let same : n ≡ k = omega (arith, ge, lt) in
        subst (IsWidest ended es (k + 1)) (sym (get_or_push places o x k (long ∙ same))) (subst (λ m. IsWidest ended es (m + 1) o) same new)

-- ---- a query is asked for

-- of a query without a limit one look tells it
lt_alone : (o : Ordering) → is_lt o ≡ (is_lt o && not (is_gt o))
lt_alone Less = refl
lt_alone Equal = refl
lt_alone Greater = refl

as_unlimited : (q : Query) → q.limit ≡ None → q ≡ unlimited q
as_unlimited q e = λ i. record { path = q.path; index = q.index; range = q.range; limit = e i }

pub no_limit : (q : Query) → is_some q.limit ≡ false → q.limit ≡ None
no_limit q e = at q.limit e
  where
    at : (o : Option Limit) → is_some o ≡ false → o ≡ None
    at None h = refl
    at (Some l) h = absurd (true≢false h)

pub front_unlimited : (q : Query) (e : Entry) → q.limit ≡ None → is_lt (query_cmp e.0 q) ≡ is_in_front q e
front_unlimited q e none = lt_alone (query_cmp e.0 q) ∙ ap (λ r. is_lt (query_cmp e.0 q) && not (is_gt (query_cmp e.0 r))) (as_unlimited q none)

-- and of one with a limit another one
tied : (o : Ordering) → is_gt o ≡ false → is_gt (ordering_reverse o) ≡ false → o ≡ Equal
tied Less a b = absurd (true≢false b)
tied Equal a b = refl
tied Greater a b = absurd (true≢false a)

pub front_limited : (q : Query) (e : Entry) → is_some q.limit ≡ true → not (is_gt (query_cmp e.0 (unlimited q))) ≡ is_in_front q e
front_limited q e limited = at (is_gt (query_cmp e.0 (unlimited q))) refl
  where
    own : e.0 ≡ q → is_gt (query_cmp e.0 (unlimited q)) ≡ false → ⊥
    own same up =
        let r : q ≡ unlimited q = exact_queries q (unlimited q) (tied (query_cmp q (unlimited q)) (ap (λ f. is_gt (query_cmp f (unlimited q))) (sym same) ∙ up)
        (sym (ap is_gt (queries_total.antisymm (unlimited q) q)) ∙ unlimited_front q)) in
        true≢false (sym limited ∙ ap (λ f. is_some f.limit) r)

    less : (o : Ordering) → query_cmp e.0 q ≡ o → is_gt (query_cmp e.0 (unlimited q)) ≡ false → is_lt o ≡ true
    less Less c up = refl
    less Equal c up = absurd (own (exact_queries e.0 q c) up)
    less Greater c up = absurd (true≢false (sym (ap is_gt c) ∙ upto queries_total e.0 (unlimited q) q up (unlimited_front q)))

    no : (b : Bool) → false ≡ (b && false)
    no true = refl
    no false = refl

    at : (b : Bool) → is_gt (query_cmp e.0 (unlimited q)) ≡ b → not (is_gt (query_cmp e.0 (unlimited q))) ≡ is_in_front q e
    at true up = ap not up ∙ no (is_lt (query_cmp e.0 q)) ∙ ap (λ b. is_lt (query_cmp e.0 q) && not b) (sym up)
    at false up =
        let front : is_in_front q e ≡ true = (λ i. less (query_cmp e.0 q) refl up i && not (up i)) in
        ap not up ∙ sym front

-- those in front come first
pub fronts_first : (q : Query) (es : List Entry) → AreInOrder es → IsPartitionedBy (is_in_front q) es
fronts_first q es up i j d le lt e =
    both (is_lt (query_cmp (get_or es i d).0 q)) (not (is_gt (query_cmp (get_or es i d).0 (unlimited q))))
    (lesser_first (λ (x : Entry). x.0) q es up i j d le lt (both_first (is_lt (query_cmp (get_or es j d).0 q)) (not (is_gt (query_cmp (get_or es j d).0 (unlimited q)))) e))
    (ap not (upto queries_total (get_or es i d).0 (get_or es j d).0 (unlimited q) (no_further (λ (e : Entry). e.0) es up i j d le lt)
    (no (is_gt (query_cmp (get_or es j d).0 (unlimited q))) (both_second (is_lt (query_cmp (get_or es j d).0 q)) (not (is_gt (query_cmp (get_or es j d).0 (unlimited q)))) e))))
  where
    no : (b : Bool) → not b ≡ true → b ≡ false
    no true h = absurd (true≢false (sym h))
    no false h = refl

abbrev pub wider : (ℕ → Bool) → Query → Entry → Bool
wider ended q e = (not (query_eq e.0 q) && takes_in e.0 q) && has_left ended e

agreed : (f g : Entry → Bool) (es : List Entry) → All (λ (e : Entry). f e ≡ g e) es → list_any f es ≡ list_any g es
agreed f g [] h = refl
agreed f g (e ∷ es) h = λ i. h 0 e (omega arith) i || agreed f g es (λ k d lt. h (suc k) d (omega (arith, lt))) i

-- what stands in front is another form
front_other : (q : Query) (e : Entry) → is_in_front q e ≡ true → query_eq e.0 q ≡ false
front_other q e h = at (query_eq e.0 q) refl
  where
    at : (b : Bool) → query_eq e.0 q ≡ b → query_eq e.0 q ≡ false
    at false t = t
    at true t = absurd (true≢false (sym (both_first (is_lt (query_cmp e.0 q)) (not (is_gt (query_cmp e.0 (unlimited q)))) h)
        ∙ ap (λ r. is_lt (query_cmp r q)) ((query_eq_tells e.0 q).0 t) ∙ ap is_lt (tied_itself queries_total q)))

-- and what doesn't takes it in only where it is the same
behind_none : (ended : ℕ → Bool) (q : Query) (e : Entry) → is_in_front q e ≡ false → wider ended q e ≡ false
behind_none ended q e h = at (query_eq e.0 q) refl (takes_in e.0 q) refl
  where
    at : (a : Bool) → query_eq e.0 q ≡ a → (b : Bool) → takes_in e.0 q ≡ b → wider ended q e ≡ false
    at true s b t = ap (λ x. (not x && takes_in e.0 q) && has_left ended e) s
    at false s false t = (λ i. (not (s i) && t i) && has_left ended e)
    at false s true t = absurd (same (query_cmp e.0 q) refl)
      where
        front : is_gt (query_cmp e.0 (unlimited q)) ≡ false
        front = takes_in_front e.0 q t

        same : (o : Ordering) → query_cmp e.0 q ≡ o → ⊥
        same Less c = true≢false (sym (both (is_lt (query_cmp e.0 q)) (not (is_gt (query_cmp e.0 (unlimited q)))) (ap is_lt c) (ap not front)) ∙ h)
        same Equal c = true≢false (sym ((query_eq_tells e.0 q).1 (exact_queries e.0 q c)) ∙ s)
        same Greater c = true≢false (sym (ap is_gt c) ∙ takes_in_up_to e.0 q t)

-- so those in front alone are asked
pub in_front_alone : (ended : ℕ → Bool) (q : Query) (es : List Entry) (n : ℕ) → n ≤ length es
    → IsPartitionPoint (λ (e : Entry). is_in_front q e ≡ true) (λ (e : Entry). is_in_front q e ≡ false) es n
    → list_any (wider ended q) es ≡ is_taken_in ended q (take n es)
in_front_alone ended q es n within point =
    ap (list_any (wider ended q)) (sym (take-append-drop n es))
    ∙ list_any-append (wider ended q) (take n es) (drop n es)
    ∙ (λ i. agreed (wider ended q) (λ (e : Entry). takes_in e.0 q && has_left ended e) (take n es) front i || list_any_none (wider ended q) (drop n es) behind i)
    ∙ or_none (is_taken_in ended q (take n es))
  where
    or_none : (b : Bool) → (b || false) ≡ b
    or_none true = refl
    or_none false = refl

    front : All (λ (e : Entry). wider ended q e ≡ (takes_in e.0 q && has_left ended e)) (take n es)
    front k d lt =
        let less : k < n = omega (arith, lt, length-take-le n es within) in
        let here : is_in_front q (get_or (take n es) k d) ≡ true = ap (is_in_front q) (get_or-take n es k d less) ∙ point.0 k d (omega arith) less in
        ap (λ b. (not b && takes_in (get_or (take n es) k d).0 q) && has_left ended (get_or (take n es) k d)) (front_other q (get_or (take n es) k d) here)

    behind : All (λ (e : Entry). wider ended q e ≡ false) (drop n es)
    behind k d lt =
        let here : n + k < length es = omega (arith, lt, length-drop n es, within) in
        behind_none ended q (get_or (drop n es) k d) (ap (is_in_front q) (get_or-drop n es k d) ∙ point.1 (n + k) d (omega arith) here)

-- and of these the widest
pub by_widest : (ended : ℕ → Bool) (q : Query) (es : List Entry) (places : List (Option ℕ)) (m : ℕ) (d : Entry) (o : Option ℕ) → AreWidest ended es places → m + 1 ≤ length es
    → IsPartitionPoint (λ (e : Entry). is_in_front q e ≡ true) (λ (e : Entry). is_in_front q e ≡ false) es (m + 1)
    → is_taken_in_at es d q (get_or places m o) ≡ list_any (λ (e : Entry). (not (query_eq e.0 q) && takes_in e.0 q) && has_left ended e) es
by_widest ended q es places m d o are within point = sym (in_front_alone ended q es (m + 1) within point ∙ are.each m o (omega (arith, within)) q d up)
  where
    no : (b : Bool) → not b ≡ true → b ≡ false
    no true h = absurd (true≢false (sym h))
    no false h = refl

    up : AreUpTo es q (m + 1)
    up k x low high = no (is_gt (query_cmp (get_or es k x).0 (unlimited q)))
        (both_second (is_lt (query_cmp (get_or es k x).0 q)) (not (is_gt (query_cmp (get_or es k x).0 (unlimited q)))) (point.0 k x low high))

-- none stands in front
pub none_in_front : (ended : ℕ → Bool) (q : Query) (es : List Entry) (n : ℕ) → n ≡ 0 → n ≤ length es
    → IsPartitionPoint (λ (e : Entry). is_in_front q e ≡ true) (λ (e : Entry). is_in_front q e ≡ false) es n
    → false ≡ list_any (λ (e : Entry). (not (query_eq e.0 q) && takes_in e.0 q) && has_left ended e) es
none_in_front ended q es n none within point = sym (in_front_alone ended q es n within point ∙ ap (λ k. is_taken_in ended q (take k es)) none)

-- who stands among the first ones does so among more
pub among_more : (n : ℕ) (o : Option ℕ) → IsAmong n o → IsAmong (n + 1) o
among_more n None h = h
among_more n (Some w) h = omega (arith, h)

pub among_within : (n m : ℕ) (o : Option ℕ) → n ≤ m → IsAmong n o → IsAmong m o
among_within n m None le h = h
among_within n m (Some w) le h = omega (arith, le, h)
