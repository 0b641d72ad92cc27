-- Spans of a list, and what is left without them.
use Rattle.std.proofs.Common.{◌≡◌, ℕ, zero, suc, ◌<◌, ◌≤◌, ◌+◌, ◌-◌, arith, min, length, get_or, take, drop, Some, None, Bool, true, false, cond, not, ◌||◌, ◌&&◌, nat_le, nat_lt, List, [], ◌∷◌, ◌++◌, refl, sym, ap, subst, ◌∙◌, length-append}
use Rattle.std.proofs.lemmas.Bool.{leb-true, leb-false, ltb-true, ltb-false, lt-ltb, le-ltb, or_left, or_from}
use Rattle.std.proofs.lemmas.List.{drop_more, get_or_read, get_or-take, get_or-drop, length-take, length-drop, length-take-le, take-take, take-append-le, drop-append-le, drop-take}
use Rattle.std.proofs.lemmas.List.Elements.{All-nil, All-cons, All-head, All-tail, filter-append}
use Rattle.std.proofs.lemmas.List.Folds.{drop_split, list_any-append, list_any_none}
use Rattle.std.specs.List.Sorted.{IsNonDecreasingBy}
use Rattle.std.specs.List.{All, filter, flat_map, slice_range, remove_range}
use Rattle.rt_cache.specs.declared.by_path.Span.{Span}
use Rattle.rt_cache.specs.inside.Spans.{has_place, have_place, AreInOrder, AreFilled, IsLastBefore, without}

-- ---- one span

pub placed : (b : Bool) (k start end : ℕ) → (k < start → b ≡ false) → (start ≤ k → k < end → b ≡ true) → (end ≤ k → start ≤ k → b ≡ false)
    → b ≡ (nat_le start k && nat_lt k end)
placed b k start end front inside behind =
    elim (nat_le start k) as (λ x. nat_le start k ≡ x → b ≡ (x && nat_lt k end)) [
      | true ↦ λ e. elim (nat_lt k end) as (λ x. nat_lt k end ≡ x → b ≡ x) [
        | true ↦ λ f. inside (leb-true start k e) (ltb-true k end f)
        | false ↦ λ f. behind (ltb-false k end f) (leb-true start k e)
      ] refl
      | false ↦ λ e. front (leb-false start k e)
    ] refl

pub before_span : (k : ℕ) (s : Span) → k < s.start → has_place k s ≡ false
before_span k s lt = sym (placed false k s.start s.end (λ h. refl) (λ a b. absurd (omega (arith, lt, a))) (λ a b. refl))

pub in_span : (k : ℕ) (s : Span) → s.start ≤ k → k < s.end → has_place k s ≡ true
in_span k s le lt = sym (placed true k s.start s.end (λ h. absurd (omega (arith, le, h))) (λ a b. refl) (λ a b. absurd (omega (arith, lt, a))))

pub past_span : (k : ℕ) (s : Span) → s.end ≤ k → has_place k s ≡ false
past_span k s le = sym (placed false k s.start s.end (λ h. refl) (λ a b. absurd (omega (arith, le, b))) (λ a b. refl))

-- an empty one
pub none_in : (k : ℕ) (s : Span) → s.end ≤ s.start → has_place k s ≡ false
none_in k s le = sym (placed false k s.start s.end (λ h. refl) (λ a b. absurd (omega (arith, le, a, b))) (λ a b. refl))

-- ---- spans in order

pub order_within : (from : ℕ) (spans : List Span) (end : ℕ) → AreInOrder from spans end → from ≤ end
order_within from [] end h = h
order_within from (s ∷ spans) end h = let rest : s.end ≤ end = order_within s.end spans end h.2 in omega (arith, rest, h.0, h.1)

pub order_more : (from : ℕ) (spans : List Span) (end more : ℕ) → AreInOrder from spans end → end ≤ more → AreInOrder from spans more
order_more from [] end more h le = omega (arith, h, le)
order_more from (s ∷ spans) end more h le = (h.0, h.1, order_more s.end spans end more h.2 le)

pub none_before : (from : ℕ) (spans : List Span) (end k : ℕ) → AreInOrder from spans end → k < from → have_place spans k ≡ false
none_before from [] end k h lt = refl
none_before from (s ∷ spans) end k h lt =
    or_from (has_place k s) (have_place spans k) (before_span k s (omega (arith, h.0, lt))) (none_before s.end spans end k h.2 (omega (arith, h.0, h.1, lt)))

pub none_past : (from : ℕ) (spans : List Span) (end k : ℕ) → AreInOrder from spans end → end ≤ k → have_place spans k ≡ false
none_past from [] end k h le = refl
none_past from (s ∷ spans) end k h le =
    let rest : s.end ≤ end = order_within s.end spans end h.2 in
    or_from (has_place k s) (have_place spans k) (past_span k s (omega (arith, rest, le))) (none_past s.end spans end k h.2 le)

-- ---- filters

pub filter_all : {X : Type 0} (test : X → Bool) (xs : List X) → All (λ x. test x ≡ true) xs → filter test xs ≡ xs
filter_all test [] h = refl
filter_all {X} test (x ∷ xs) h =
    ap (λ b. cond b (x ∷ filter test xs) (filter test xs)) (All-head (λ (y : X). test y ≡ true) x xs h)
    ∙ ap (λ ys. x ∷ ys) (filter_all test xs (All-tail (λ (y : X). test y ≡ true) x xs h))

pub filter_none : {X : Type 0} (test : X → Bool) (xs : List X) → All (λ x. test x ≡ false) xs → filter test xs ≡ []
filter_none test [] h = refl
filter_none {X} test (x ∷ xs) h =
    ap (λ b. cond b (x ∷ filter test xs) (filter test xs)) (All-head (λ (y : X). test y ≡ false) x xs h)
    ∙ filter_none test xs (All-tail (λ (y : X). test y ≡ false) x xs h)

-- what holds of the places of a part holds of it
each_of : {X : Type 0} (P : X → Type 0) (xs : List X) (start end : ℕ) → start ≤ end → end ≤ length xs
    → ((k : ℕ) (d : X) → start ≤ k → k < end → P (get_or xs k d)) → All P (slice_range xs start end)
each_of P xs start end le within h k d lt =
    let there : k < end - start = omega (arith, lt, length-take (end - start) (drop start xs)) in
    subst P (sym (get_or-take (end - start) (drop start xs) k d there ∙ get_or-drop start xs k d)) (h (start + k) d (omega arith) (omega (arith, there, le)))

-- ---- a test that holds at the places of the spans

module _ {X : Type 0} (test : X → Bool) (xs : List X) (from : ℕ) (s : Span) (spans : List Span)
    (h : AreInOrder from (s ∷ spans) (length xs))
    (at : (k : ℕ) (d : X) → from ≤ k → k < length xs → test (get_or xs k d) ≡ have_place (s ∷ spans) k) where
  end_within : s.end ≤ length xs
  end_within = order_within s.end spans (length xs) h.2

  outside : All (λ x. test x ≡ false) (slice_range xs from s.start)
  outside = each_of (λ x. test x ≡ false) xs from s.start h.0 (omega (arith, end_within, h.1))
      (λ k d le lt. at k d le (omega (arith, lt, end_within, h.1))
      ∙ or_from (has_place k s) (have_place spans k) (before_span k s lt) (none_before s.end spans (length xs) k h.2 (omega (arith, lt, h.1))))

  inside : All (λ x. test x ≡ true) (slice_range xs s.start s.end)
  inside = each_of (λ x. test x ≡ true) xs s.start s.end h.1 end_within
      (λ k d le lt. at k d (omega (arith, le, h.0)) (omega (arith, lt, end_within)) ∙ or_left (has_place k s) (have_place spans k) (in_span k s le lt))

  behind : (k : ℕ) (d : X) → s.end ≤ k → k < length xs → test (get_or xs k d) ≡ have_place spans k
  behind k d le lt = at k d (omega (arith, le, h.0, h.1)) lt ∙ ap (λ b. b || have_place spans k) (past_span k s le)

  parts_of_drop : (f : X → Bool) → filter f (drop from xs) ≡ filter f (slice_range xs from s.start) ++ (filter f (slice_range xs s.start s.end) ++ filter f (drop s.end xs))
  parts_of_drop f =
      ap (filter f) (drop_split xs from s.start h.0 ∙ ap (λ ys. slice_range xs from s.start ++ ys) (drop_split xs s.start s.end h.1))
      ∙ filter-append f (slice_range xs from s.start) (slice_range xs s.start s.end ++ drop s.end xs)
      ∙ ap (λ ys. filter f (slice_range xs from s.start) ++ ys) (filter-append f (slice_range xs s.start s.end) (drop s.end xs))

-- what passes are the parts at the spans
pub passing : {X : Type 0} (test : X → Bool) (xs : List X) (from : ℕ) (spans : List Span) → AreInOrder from spans (length xs)
    → ((k : ℕ) (d : X) → from ≤ k → k < length xs → test (get_or xs k d) ≡ have_place spans k)
    → filter test (drop from xs) ≡ flat_map (λ (s : Span). slice_range xs s.start s.end) spans
passing {X} test xs from [] h at =
    filter_none test (drop from xs) (λ k d lt.
    let there : from + k < length xs = omega (arith, lt, length-drop from xs, h) in
    ap test (get_or-drop from xs k d) ∙ at (from + k) d (omega arith) there)
passing test xs from (s ∷ spans) h at =
    parts_of_drop test xs from s spans h at test
    ∙ (λ i. filter_none test (slice_range xs from s.start) (outside test xs from s spans h at) i
    ++ (filter_all test (slice_range xs s.start s.end) (inside test xs from s spans h at) i
    ++ passing test xs s.end spans h.2 (behind test xs from s spans h at) i))

pub without-push : {X : Type 0} (spans : List Span) (s : Span) (xs : List X) → without (spans ++ s ∷ []) xs ≡ without spans (remove_range xs s.start s.end)
without-push [] s xs = refl
without-push (r ∷ spans) s xs = ap (λ ys. remove_range ys r.start r.end) (without-push spans s xs)

pub order-push : (from : ℕ) (spans : List Span) (s : Span) (end : ℕ) → AreInOrder from (spans ++ s ∷ []) end
    → AreInOrder from spans s.start × (s.start ≤ s.end) × (s.end ≤ end)
order-push from [] s end h = (h.0, h.1, h.2)
order-push from (r ∷ spans) s end h = let rest = order-push r.end spans s end h.2 in ((h.0, h.1, rest.0), rest.1, rest.2)

pub out_within : {X : Type 0} (xs : List X) (start end : ℕ) → start ≤ end → end ≤ length xs → start ≤ length (remove_range xs start end)
out_within xs start end le within =
    let front : length (take start xs) ≡ start = length-take-le start xs (omega (arith, le, within)) in
    omega (arith, front, length-append (take start xs) (drop end xs))

-- in front of the spans nothing changes
front_stays : {X : Type 0} (xs : List X) (from : ℕ) (spans : List Span) → AreInOrder from spans (length xs) → take from (without spans xs) ≡ take from xs
front_stays xs from [] h = refl
front_stays {X} xs from (s ∷ spans) h =
    let within : s.end ≤ length xs = order_within s.end spans (length xs) h.2 in
    let front : take s.start (without spans xs) ≡ take s.start xs =
    sym (take-take s.start s.end (without spans xs) h.1) ∙ ap (take s.start) (front_stays xs s.end spans h.2) ∙ take-take s.start s.end xs h.1 in
    let long : length (take s.start xs) ≡ s.start = length-take-le s.start xs (omega (arith, within, h.1)) in
    ap (λ (ys : List X). take from (ys ++ drop s.end (without spans xs))) front
    ∙ take-append-le from (take s.start xs) (drop s.end (without spans xs)) (omega (arith, long, h.0))
    ∙ take-take from s.start xs h.0

-- and what doesn't pass stays
pub staying : {X : Type 0} (test : X → Bool) (xs : List X) (from : ℕ) (spans : List Span) → AreInOrder from spans (length xs)
    → ((k : ℕ) (d : X) → from ≤ k → k < length xs → test (get_or xs k d) ≡ have_place spans k)
    → drop from (without spans xs) ≡ filter (λ x. not (test x)) (drop from xs)
staying test xs from [] h at =
    sym (filter_all (λ x. not (test x)) (drop from xs) (λ k d lt.
    let there : from + k < length xs = omega (arith, lt, length-drop from xs, h) in
    ap (λ x. not (test x)) (get_or-drop from xs k d) ∙ ap not (at (from + k) d (omega arith) there)))
staying {X} test xs from (s ∷ spans) h at =
    let within : s.end ≤ length xs = order_within s.end spans (length xs) h.2 in
    let front : take s.start (without spans xs) ≡ take s.start xs =
    sym (take-take s.start s.end (without spans xs) h.1) ∙ ap (take s.start) (front_stays xs s.end spans h.2) ∙ take-take s.start s.end xs h.1 in
    let long : length (take s.start xs) ≡ s.start = length-take-le s.start xs (omega (arith, within, h.1)) in
    let sum : from + (s.start - from) ≡ s.start = omega (arith, h.0) in
    let middle : drop from (take s.start xs) ≡ slice_range xs from s.start =
    ap (λ n. drop from (take n xs)) (sym sum) ∙ drop-take from (s.start - from) xs in
    let stay : filter (λ x. not (test x)) (slice_range xs from s.start) ≡ slice_range xs from s.start =
    filter_all (λ x. not (test x)) (slice_range xs from s.start) (λ k d lt. ap not (outside test xs from s spans h at k d lt)) in
    let go : filter (λ x. not (test x)) (slice_range xs s.start s.end) ≡ [] =
    filter_none (λ x. not (test x)) (slice_range xs s.start s.end) (λ k d lt. ap not (inside test xs from s spans h at k d lt)) in
    ap (λ (ys : List X). drop from (ys ++ drop s.end (without spans xs))) front
    ∙ drop-append-le from (take s.start xs) (drop s.end (without spans xs)) (omega (arith, long, h.0))
    ∙ (λ i. middle i ++ staying test xs s.end spans h.2 (behind test xs from s spans h at) i)
    ∙ sym (parts_of_drop test xs from s spans h at (λ x. not (test x)) ∙ (λ i. stay i ++ (go i ++ filter (λ x. not (test x)) (drop s.end xs))))

or_nothing : (b : Bool) → (b || false) ≡ b
or_nothing true = refl
or_nothing false = refl

-- one span taken out
pub one_out : {X : Type 0} (test : X → Bool) (xs : List X) (s : Span) → s.start ≤ s.end → s.end ≤ length xs
    → ((k : ℕ) (d : X) → k < length xs → test (get_or xs k d) ≡ has_place k s) → remove_range xs s.start s.end ≡ filter (λ x. not (test x)) xs
one_out test xs s ordered within at =
    staying test xs 0 (s ∷ []) (omega arith, ordered, within) (λ k d le lt. at k d lt ∙ sym (or_nothing (has_place k s)))

-- ---- the last span that doesn't begin behind a place

pub starts_from : (from : ℕ) (spans : List Span) (end n : ℕ) (d : Span) → AreInOrder from spans end → n < length spans → from ≤ (get_or spans n d).start
starts_from from [] end n d h lt = absurd (omega arith)
starts_from from (s ∷ spans) end zero d h lt = h.0
starts_from from (s ∷ spans) end (suc n) d h lt =
    let rest : s.end ≤ (get_or spans n d).start = starts_from s.end spans end n d h.2 (omega (arith, lt)) in
    omega (arith, rest, h.0, h.1)

pub starts_rise : (from : ℕ) (spans : List Span) (end : ℕ) → AreInOrder from spans end → IsNonDecreasingBy (λ (s : Span). s.start) spans
starts_rise from [] end h i j d le lt = absurd (omega arith)
starts_rise from (s ∷ spans) end h zero zero d le lt = omega arith
starts_rise from (s ∷ spans) end h zero (suc j) d le lt =
    let rest : s.end ≤ (get_or spans j d).start = starts_from s.end spans end j d h.2 (omega (arith, lt)) in
    omega (arith, rest, h.1)
starts_rise from (s ∷ spans) end h (suc i) zero d le lt = absurd (omega (arith, le))
starts_rise from (s ∷ spans) end h (suc i) (suc j) d le lt = starts_rise s.end spans end h.2 i j d (omega (arith, le)) (omega (arith, lt))

-- none begins up to the place
pub none_from : (spans : List Span) (k : ℕ) → ((i : ℕ) (d : Span) → i < length spans → k < (get_or spans i d).start) → have_place spans k ≡ false
none_from spans k h = list_any_none (has_place k) spans (λ i d lt. before_span k (get_or spans i d) (h i d lt))

-- it decides
pub last_decides : (from : ℕ) (spans : List Span) (end k n : ℕ) (d : Span) → AreInOrder from spans end → n < length spans
    → (get_or spans n d).start ≤ k → ((i : ℕ) (e : Span) → n < i → i < length spans → k < (get_or spans i e).start)
    → have_place spans k ≡ nat_lt k (get_or spans n d).end
last_decides from [] end k n d h lt le behind = absurd (omega arith)
last_decides from (s ∷ spans) end k zero d h lt le behind =
    let rest : have_place spans k ≡ false = none_from spans k (λ i e l. behind (suc i) e (omega arith) (omega (arith, l))) in
    elim (nat_lt k s.end) as (λ b. nat_lt k s.end ≡ b → (has_place k s || have_place spans k) ≡ b) [
      | true ↦ λ f. ap (λ b. b || have_place spans k) (in_span k s le (ltb-true k s.end f))
      | false ↦ λ f. or_from (has_place k s) (have_place spans k) (past_span k s (ltb-false k s.end f)) rest
    ] refl
last_decides from (s ∷ spans) end k (suc n) d h lt le behind =
    let rest : s.end ≤ (get_or spans n d).start = starts_from s.end spans end n d h.2 (omega (arith, lt)) in
    ap (λ b. b || have_place spans k) (past_span k s (omega (arith, rest, le)))
    ∙ last_decides s.end spans end k n d h.2 (omega (arith, lt)) le (λ i e l m. behind (suc i) e (omega (arith, l)) (omega (arith, m)))

-- ---- the last place in front of an end

-- none begins in front of it
pub none_in_front : (spans : List Span) (end : ℕ) → ((i : ℕ) (d : Span) → i < length spans → end ≤ (get_or spans i d).start) → IsLastBefore spans end None
none_in_front spans end h k lt = none_from spans k (λ i d l. let from : end ≤ (get_or spans i d).start = h i d l in omega (arith, from, lt))

-- the last span that begins in front of it decides
pub last_in_front : (spans : List Span) (all end n : ℕ) (d : Span) → AreInOrder 0 spans all → AreFilled spans → n < length spans
    → (get_or spans n d).start < end → ((i : ℕ) (e : Span) → n < i → i < length spans → end ≤ (get_or spans i e).start)
    → (m : ℕ) → m + 1 ≡ min (get_or spans n d).end end → IsLastBefore spans end (Some m)
last_in_front spans all end n d order filled lt front behind m is = (
  decided m (omega (arith, is, some, front)) (omega (arith, is)) ∙ lt-ltb m (get_or spans n d).end (omega (arith, is)),
  λ k more l. decided k (omega (arith, is, some, front, more)) l ∙ le-ltb k (get_or spans n d).end (omega (arith, is, more, l)),
)
  where
    some : (get_or spans n d).start < (get_or spans n d).end
    some = filled n d lt

    decided : (k : ℕ) → (get_or spans n d).start ≤ k → k < end → have_place spans k ≡ nat_lt k (get_or spans n d).end
    decided k le l = last_decides 0 spans all k n d order lt le (λ i e j h. let from : end ≤ (get_or spans i e).start = behind i e j h in omega (arith, from, l))

-- ---- places between spans

pub have_place-push : (spans : List Span) (s : Span) (k : ℕ) → have_place (spans ++ s ∷ []) k ≡ (have_place spans k || has_place k s)
have_place-push spans s k = list_any-append (has_place k) spans (s ∷ []) ∙ ap (λ b. have_place spans k || b) (or_nothing (has_place k s))

pub order_push : (from : ℕ) (spans : List Span) (s : Span) → AreInOrder from spans s.start → s.start ≤ s.end → AreInOrder from (spans ++ s ∷ []) s.end
order_push from [] s h le = (h, le, omega arith)
order_push from (r ∷ spans) s h le = (h.0, h.1, order_push r.end spans s h.2 le)

pub each_in_order : (from : ℕ) (spans : List Span) (end : ℕ) → AreInOrder from spans end → All (λ (s : Span). (s.start ≤ s.end) × (s.end ≤ end)) spans
each_in_order from [] end h = All-nil (λ (s : Span). (s.start ≤ s.end) × (s.end ≤ end))
each_in_order from (s ∷ spans) end h =
    All-cons (λ (r : Span). (r.start ≤ r.end) × (r.end ≤ end)) s spans (h.1, order_within s.end spans end h.2) (each_in_order s.end spans end h.2)

-- one span more, in the order of their starts: so far each place is in a gap or in a span
module _ (gaps spans : List Span) (n place : ℕ) (s : Span) (rising : IsNonDecreasingBy (λ (x : Span). x.start) spans)
    (within : n < length spans) (at : s ≡ get_or spans n s) (order : AreInOrder 0 gaps place)
    (front : (k : ℕ) → k < place → have_place gaps k ≡ not (have_place spans k))
    (back : (k : ℕ) → place ≤ k → have_place spans k ≡ have_place (drop n spans) k) where
  next : (k : ℕ) → have_place (drop n spans) k ≡ (has_place k s || have_place (drop (n + 1) spans) k)
  next k = ap (λ (xs : List Span). have_place xs k) (drop_more spans n s within) ∙ ap (λ (x : Span). has_place k x || have_place (drop (n + 1) spans) k) (sym at)

  later : (k : ℕ) → k < s.start → have_place (drop (n + 1) spans) k ≡ false
  later k lt = list_any_none (has_place k) (drop (n + 1) spans) (λ j d l.
      let there : n + 1 + j < length spans = omega (arith, l, length-drop (n + 1) spans) in
      let same : s ≡ get_or spans n d = get_or_read spans n s within at d in
      let more : (get_or spans n d).start ≤ (get_or spans (n + 1 + j) d).start = rising n (n + 1 + j) d (omega arith) there in
      let from : s.start ≤ (get_or spans (n + 1 + j) d).start = subst (λ (x : Span). x.start ≤ (get_or spans (n + 1 + j) d).start) (sym same) more in
      ap (has_place k) (get_or-drop (n + 1) spans j d) ∙ before_span k (get_or spans (n + 1 + j) d) (omega (arith, lt, from)))

  pub back_more : (k : ℕ) → place ≤ k → s.end ≤ k → have_place spans k ≡ have_place (drop (n + 1) spans) k
  back_more k le past = back k le ∙ next k ∙ ap (λ b. b || have_place (drop (n + 1) spans) k) (past_span k s past)

  pub front_more : (more : List Span) → ((k : ℕ) → have_place more k ≡ (have_place gaps k || (nat_le place k && nat_lt k s.start)))
      → (k : ℕ) → (place ≤ k → k < s.end) → have_place more k ≡ not (have_place spans k)
  front_more more pushed k lt =
      let gap : Span = record { start = place; end = s.start } in
      elim (nat_lt k place) as (λ b. nat_lt k place ≡ b → have_place more k ≡ not (have_place spans k)) [
        | true ↦ λ f. pushed k ∙ ap (λ b. have_place gaps k || b) (before_span k gap (ltb-true k place f)) ∙ or_nothing (have_place gaps k) ∙ front k (ltb-true k place f)
        | false ↦ λ f.
            let ge : place ≤ k = ltb-false k place f in
            pushed k ∙ ap (λ b. b || has_place k gap) (none_past 0 gaps place k order ge)
            ∙ elim (nat_lt k s.start) as (λ b. nat_lt k s.start ≡ b → has_place k gap ≡ not (have_place spans k)) [
              | true ↦ λ g.
                  let ahead : k < s.start = ltb-true k s.start g in
                  in_span k gap ge ahead ∙ sym (ap not (back k ge ∙ next k ∙ or_from (has_place k s) (have_place (drop (n + 1) spans) k) (before_span k s ahead) (later k ahead)))
              | false ↦ λ g.
                  let reached : s.start ≤ k = ltb-false k s.start g in
                  past_span k gap reached ∙ sym (ap not (back k ge ∙ next k ∙ or_left (has_place k s) (have_place (drop (n + 1) spans) k) (in_span k s reached (lt ge))))
            ] refl
      ] refl

-- and behind the last
pub front_all : (gaps spans : List Span) (place end : ℕ) → AreInOrder 0 gaps place → ((k : ℕ) → k < place → have_place gaps k ≡ not (have_place spans k))
    → ((k : ℕ) → place ≤ k → have_place spans k ≡ false)
    → (more : List Span) → ((k : ℕ) → have_place more k ≡ (have_place gaps k || (nat_le place k && nat_lt k end)))
    → (k : ℕ) → k < end → have_place more k ≡ not (have_place spans k)
front_all gaps spans place end order front back more pushed k lt =
    let gap : Span = record { start = place; end = end } in
    elim (nat_lt k place) as (λ b. nat_lt k place ≡ b → have_place more k ≡ not (have_place spans k)) [
      | true ↦ λ f. pushed k ∙ ap (λ b. have_place gaps k || b) (before_span k gap (ltb-true k place f)) ∙ or_nothing (have_place gaps k) ∙ front k (ltb-true k place f)
      | false ↦ λ f.
          let ge : place ≤ k = ltb-false k place f in
          pushed k ∙ ap (λ b. b || has_place k gap) (none_past 0 gaps place k order ge) ∙ in_span k gap ge lt ∙ sym (ap not (back k ge))
    ] refl
