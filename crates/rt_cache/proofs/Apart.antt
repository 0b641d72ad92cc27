-- What stands by its queries, none of which supplies another: the last that may take in a query tells whether one does.
use Rattle.std.proofs.Common.{◌≡◌, ℕ, ◌+◌, ◌<◌, ◌≤◌, Bool, true, false, not, is_some, ◌&&◌, ◌||◌, ⊎_elim, List, [], ◌∷◌, length, get_or, Option, Some, None, refl, sym, ap, ◌∙◌, arith, ltb, nat_lt, ltb-true, ltb-false}
use mathlib.Core.Bool.{true≢false}
use Rattle.std.specs.Prelude.{IfSome, IfNone}
use Rattle.std.specs.Cmp.{upto}
use Rattle.std.specs.List.{list_any, All}
use Rattle.std.specs.FinMap as map_of
use Rattle.std.specs.List.Sorted.{IsPartitionedBy, IsPartitionPoint}
use Rattle.std.specs.Ordering.{is_lt, is_gt, ordering_index, ordering_reverse}
use Rattle.std.specs.declared.cmp.Ordering.{Ordering}
use Rattle.std.specs.declared.cmp.Ordering.TheVariants.{Less, Equal, Greater}
use Rattle.std.proofs.lemmas.List.{get_or_default}
use Rattle.std.proofs.lemmas.List.Sorted.{searchable_from_sorted, IsPartitionedBy-ltb, sorted_far}
use Rattle.rt_tree.specs.TreeEq.{both_first, both_second, both}
use Rattle.rt_query.specs.Queries.{Query, is_filtered}
use Rattle.rt_query.specs.QueryEq.{query_eq}
use Rattle.rt_query.specs.QueryOrder.{query_cmp, unlimited}
use Rattle.rt_query.specs.Ranges.{takes_in}
use Rattle.rt_query.specs.Supply.{does_supply}
use Rattle.rt_query.specs.laws.QueryEq.{query_eq_tells}
use Rattle.rt_query.specs.laws.QueryOrder.{queries_total, takes_in_front, takes_in_up_to, taken_between}
use Rattle.rt_query.specs.laws.RangeLaws.{taken_in}
use Rattle.rt_query.specs.laws.SupplyLaws.{supply_filtered, supplies_as_range}
use Rattle.rt_cache.specs.Recover.{in_query_order}
use Rattle.rt_cache.specs.declared.windows.Window.{Window}
use Rattle.rt_cache.specs.inside.ByPath.{by_whole, AreByQuery, AreApart, query_of, is_other_supplier}
use Rattle.rt_cache.specs.inside.Held.{entries_of}
use Rattle.rt_cache.specs.inside.Sources.{HaveForms}
use Rattle.rt_cache.proofs.ByPaths.{any_at, none_of}
use Rattle.rt_cache.proofs.ByQueries.{whole_ranks}
use Rattle.rt_cache.proofs.Sources.{any_found, any_kept, apart_found}

-- ---- two queries

not_true : (b : Bool) → not b ≡ true → b ≡ false
not_true true e = absurd (true≢false (sym e))
not_true false e = refl

and_no : (b : Bool) → (b && false) ≡ false
and_no true = refl
and_no false = refl

-- a filtered query supplies another one where it takes it in
pub other_takes_in : (f q : Query) → is_filtered f ≡ true → is_other_supplier f q ≡ true → takes_in f q ≡ true
other_takes_in f q filtered e =
    sym (ap (λ b. b || takes_in f q) (not_true (query_eq f q) (both_first (not (query_eq f q)) (does_supply f q) e)))
    ∙ sym (supply_filtered f q filtered) ∙ both_second (not (query_eq f q)) (does_supply f q) e

-- a range supplies none in front of it
reversed : (o : Ordering) → is_lt o ≡ true → is_gt (ordering_reverse o) ≡ true
reversed Less e = refl
reversed Equal e = absurd (true≢false (sym e))
reversed Greater e = absurd (true≢false (sym e))

pub none_lesser : (q r : Query) → is_filtered q ≡ true → is_lt (query_cmp r q) ≡ true → is_other_supplier q r ≡ false
none_lesser q r filtered e = at (is_other_supplier q r) refl
  where
    at : (b : Bool) → is_other_supplier q r ≡ b → b ≡ false
    at false s = refl
    at true s =
        absurd (true≢false (sym (ap is_gt (queries_total.antisymm q r) ∙ reversed (query_cmp r q) e)
        ∙ takes_in_up_to q r (other_takes_in q r filtered s)))

-- and with a limit none at all
pub none_limited : (q r : Query) → is_filtered q ≡ true → is_some q.limit ≡ true → is_other_supplier q r ≡ false
none_limited q r filtered e = at (is_other_supplier q r) refl
  where
    at : (b : Bool) → is_other_supplier q r ≡ b → b ≡ false
    at false s = refl
    at true s = absurd (true≢false (sym e ∙ (taken_in q r (other_takes_in q r filtered s)).unlimited))

-- what takes in a query, and isn't another one that supplies it, is the query
pub same_unless_other : (f q : Query) → takes_in f q ≡ true → is_other_supplier f q ≡ false → f ≡ q
same_unless_other f q t misses = at (query_eq f q) refl
  where
    at : (b : Bool) → query_eq f q ≡ b → f ≡ q
    at true e = (query_eq_tells f q).0 e
    at false e = absurd (true≢false (sym (both (not (query_eq f q)) (does_supply f q) (ap not e) (supplies_as_range f q t)) ∙ misses))

-- ---- where they stand

up_to_two : (o : Ordering) → not (is_gt o) ≡ ltb (ordering_index o) 2
up_to_two Less = refl
up_to_two Equal = refl
up_to_two Greater = refl

-- what stands up to a query stands first
pub up_to_first : {X : Type 0} (q : X → Query) (r : Query) (xs : List X) → AreByQuery q xs → IsPartitionedBy (λ (x : X). not (is_gt (query_cmp (q x) r))) xs
up_to_first {X = X} q r xs up i j d le lt e = up_to_two (query_cmp (q (get_or xs i d)) r)
    ∙ IsPartitionedBy-ltb (λ (x : X). ordering_index (query_cmp (q x) r)) xs 2 (searchable_from_sorted queries_total q xs r up) i j d le lt
    (sym (up_to_two (query_cmp (q (get_or xs j d)) r)) ∙ e)

turned_up_to : (o : Ordering) → is_lt o ≡ false → is_gt (ordering_reverse o) ≡ false
turned_up_to Less e = absurd (true≢false e)
turned_up_to Equal e = refl
turned_up_to Greater e = refl

pub in_order : {X : Type 0} (q : X → Query) (xs : List X) → AreByQuery q xs → (i j : ℕ) (d : X) → i ≤ j → j < length xs
    → is_gt (query_cmp (q (get_or xs i d)) (q (get_or xs j d))) ≡ false
in_order {X = X} q xs up i j d le lt =
    ap is_gt (queries_total.antisymm (q (get_or xs i d)) (q (get_or xs j d)))
    ∙ turned_up_to (query_cmp (q (get_or xs j d)) (q (get_or xs i d))) (sorted_far (λ (x y : X). is_lt (by_whole q x y)) (whole_ranks q) xs up i j d le lt)

-- ---- apart

pub apart_at : {X : Type 0} (q : X → Query) (xs : List X) → AreApart q xs → (i j : ℕ) (d : X) → i < length xs → j < length xs
    → is_other_supplier (q (get_or xs i d)) (q (get_or xs j d)) ≡ false
apart_at q xs apart i j d a b = at (is_other_supplier (q (get_or xs i d)) (q (get_or xs j d))) refl
  where
    at : (c : Bool) → is_other_supplier (q (get_or xs i d)) (q (get_or xs j d)) ≡ c → c ≡ false
    at false e = refl
    at true e = absurd (true≢false (sym (any_at (λ y. is_other_supplier (q y) (q (get_or xs j d))) xs i d a e) ∙ apart j d b))

module _ {X : Type 0} (q : X → Query) (of : Query) (xs : List X) (up : AreByQuery q xs) (filtered : All (λ (x : X). is_filtered (q x) ≡ true) xs) (apart : AreApart q xs) where
  -- what stands behind the query without its limit is no other one that supplies it
  pub none_from_behind : (k : ℕ) (d : X) → k < length xs → not (is_gt (query_cmp (q (get_or xs k d)) (unlimited of))) ≡ false → is_other_supplier (q (get_or xs k d)) of ≡ false
  none_from_behind k d lt behind = at (is_other_supplier (q (get_or xs k d)) of) refl
    where
      at : (b : Bool) → is_other_supplier (q (get_or xs k d)) of ≡ b → b ≡ false
      at false e = refl
      at true e =
          absurd (true≢false (ap not (sym (takes_in_front (q (get_or xs k d)) of (other_takes_in (q (get_or xs k d)) of (filtered k d lt) e))) ∙ behind))

  -- where one stands up to it and supplies it not, none in front does
  pub none_in_front_of : (n : ℕ) (x : X) → n < length xs → is_gt (query_cmp (q (get_or xs n x)) (unlimited of)) ≡ false → is_other_supplier (q (get_or xs n x)) of ≡ false
      → (k : ℕ) (d : X) → k < n → is_other_supplier (q (get_or xs k d)) of ≡ false
  none_in_front_of n x within at_x no_x k d lt = at (is_other_supplier f of) refl
    where
      f : Query
      f = q (get_or xs k d)

      m : Query
      m = q (get_or xs n d)

      there : q (get_or xs n x) ≡ m
      there = ap q (get_or_default xs n x d within)

      misses : is_other_supplier m of ≡ false
      misses = ap (λ r. is_other_supplier r of) (sym there) ∙ no_x

      apart_here : is_other_supplier f m ≡ false
      apart_here = apart_at q xs apart k n d (omega (arith, lt, within)) within

      at : (b : Bool) → is_other_supplier f of ≡ b → b ≡ false
      at false e = refl
      at true e =
          ⊎_elim (λ t. absurd (true≢false (sym e ∙ ap (λ r. is_other_supplier r of) (same_unless_other f m t apart_here) ∙ misses)))
          (λ t. absurd (true≢false (sym e ∙ ap (is_other_supplier f) (sym (same_unless_other m of t misses)) ∙ apart_here)))
          (taken_between f m of (other_takes_in f of (filtered k d (omega (arith, lt, within))) e) (filtered n d within)
          (in_order q xs up k n d (omega (arith, lt)) within) (ap (λ r. is_gt (query_cmp r (unlimited of))) (sym there) ∙ at_x))

  -- one that supplies the query stands up to it, and so do those in front
  pub up_to_supplier : (n : ℕ) (x : X) → n < length xs → is_other_supplier (q (get_or xs n x)) of ≡ true
      → (k : ℕ) (d : X) → k ≤ n → is_gt (query_cmp (q (get_or xs k d)) (unlimited of)) ≡ false
  up_to_supplier n x within own k d le =
      let there : is_other_supplier (q (get_or xs n d)) of ≡ true = ap (λ y. is_other_supplier (q y) of) (sym (get_or_default xs n x d within)) ∙ own in
      upto queries_total (q (get_or xs k d)) (q (get_or xs n d)) (unlimited of) (in_order q xs up k n d le within)
      (takes_in_front (q (get_or xs n d)) of (other_takes_in (q (get_or xs n d)) of (filtered n d within) there))

  -- where the one in front of a supplier supplies it not, none in front of it does
  pub only_at : (n : ℕ) (x : X) → n < length xs → is_other_supplier (q (get_or xs n x)) of ≡ true
      → (m : ℕ) (y : X) → m + 1 ≡ n → is_other_supplier (q (get_or xs m y)) of ≡ false
      → (k : ℕ) (d : X) → k < n → is_other_supplier (q (get_or xs k d)) of ≡ false
  only_at n x within own m y next misses k d lt = at (nat_lt k m) refl
    where
      at : (b : Bool) → nat_lt k m ≡ b → is_other_supplier (q (get_or xs k d)) of ≡ false
      at true e = none_in_front_of m y (omega (arith, next, within)) (up_to_supplier n x within own m y (omega (arith, next))) misses k d (ltb-true k m e)
      at false e =
          let here : m ≡ k = omega (arith, ltb-false k m e, lt, next) in
          ap (λ j. is_other_supplier (q (get_or xs j d)) of) (sym here) ∙ ap (λ z. is_other_supplier (q z) of) (sym (get_or_default xs m y d (omega (arith, next, within)))) ∙ misses

  -- where so many stand up to it, and the last of them supplies it not, none does
  pub none_unless_last : (n m : ℕ) (x : X) → m + 1 ≡ n → n ≤ length xs
      → IsPartitionPoint (λ (y : X). not (is_gt (query_cmp (q y) (unlimited of))) ≡ true) (λ (y : X). not (is_gt (query_cmp (q y) (unlimited of))) ≡ false) xs n
      → is_other_supplier (q (get_or xs m x)) of ≡ false
      → (k : ℕ) (d : X) → k < length xs → is_other_supplier (q (get_or xs k d)) of ≡ false
  none_unless_last n m x next within point misses k d lt = at (nat_lt k m) refl (nat_lt m k) refl
    where
      up_to_m : is_gt (query_cmp (q (get_or xs m x)) (unlimited of)) ≡ false
      up_to_m = not_true (is_gt (query_cmp (q (get_or xs m x)) (unlimited of))) (point.0 m x (omega arith) (omega (arith, next)))

      at : (a : Bool) → nat_lt k m ≡ a → (b : Bool) → nat_lt m k ≡ b → is_other_supplier (q (get_or xs k d)) of ≡ false
      at true e b f = none_in_front_of m x (omega (arith, next, within)) up_to_m misses k d (ltb-true k m e)
      at false e true f = none_from_behind k d lt (point.1 k d (omega (arith, ltb-true m k f, next)) lt)
      at false e false f =
          let here : m ≡ k = omega (arith, ltb-false k m e, ltb-false m k f) in
          ap (λ j. is_other_supplier (q (get_or xs j d)) of) (sym here) ∙ ap (λ z. is_other_supplier (q z) of) (sym (get_or_default xs m x d (omega (arith, next, within)))) ∙ misses

  -- where one stands up to it and supplies it not, and none behind supplies it and passes a test, none does
  pub none_passes : (test : Query → Bool) (m : ℕ) (x : X) → m < length xs → is_gt (query_cmp (q (get_or xs m x)) (unlimited of)) ≡ false → is_other_supplier (q (get_or xs m x)) of ≡ false
      → ((k : ℕ) (d : X) → m + 1 ≤ k → k < length xs → (is_other_supplier (q (get_or xs k d)) of && test (q (get_or xs k d))) ≡ false)
      → list_any (λ y. is_other_supplier (q y) of && test (q y)) xs ≡ false
  none_passes test m x within at_x misses behind = none_of (λ y. is_other_supplier (q y) of && test (q y)) xs none
    where
      none : (k : ℕ) (d : X) → k < length xs → (is_other_supplier (q (get_or xs k d)) of && test (q (get_or xs k d))) ≡ false
      none k d lt = at (nat_lt k m) refl (nat_lt m k) refl
        where
          at : (a : Bool) → nat_lt k m ≡ a → (b : Bool) → nat_lt m k ≡ b → (is_other_supplier (q (get_or xs k d)) of && test (q (get_or xs k d))) ≡ false
          at true e b f = ap (λ c. c && test (q (get_or xs k d))) (none_in_front_of m x within at_x misses k d (ltb-true k m e))
          at false e true f = behind k d (omega (arith, ltb-true m k f)) lt
          at false e false f =
              let here : m ≡ k = omega (arith, ltb-false k m e, ltb-false m k f) in
              ap (λ c. c && test (q (get_or xs k d))) (ap (λ j. is_other_supplier (q (get_or xs j d)) of) (sym here) ∙ ap (λ z. is_other_supplier (q z) of) (sym (get_or_default xs m x d within)) ∙ misses)

  -- where the query stands among them, that decides who supplies it and passes a test
  pub own_decides : (test : Query → Bool) (n : ℕ) (x : X) → n < length xs → q (get_or xs n x) ≡ of
      → list_any (λ y. does_supply (q y) of && test (q y)) xs ≡ (does_supply (q (get_or xs n x)) of && test (q (get_or xs n x)))
  own_decides test n x within own = at (does_supply (q (get_or xs n x)) of && test (q (get_or xs n x))) refl
    where
      at : (b : Bool) → (does_supply (q (get_or xs n x)) of && test (q (get_or xs n x))) ≡ b → list_any (λ y. does_supply (q y) of && test (q y)) xs ≡ b
      at true e = any_at (λ y. does_supply (q y) of && test (q y)) xs n x within e
      at false e = none_of (λ y. does_supply (q y) of && test (q y)) xs none
        where
          none : (k : ℕ) (d : X) → k < length xs → (does_supply (q (get_or xs k d)) of && test (q (get_or xs k d))) ≡ false
          none k d lt = by (query_eq (q (get_or xs k d)) of) refl
            where
              there : q (get_or xs n d) ≡ of
              there = ap q (get_or_default xs n d x within) ∙ own

              by : (b : Bool) → query_eq (q (get_or xs k d)) of ≡ b → (does_supply (q (get_or xs k d)) of && test (q (get_or xs k d))) ≡ false
              by true t = ap (λ r. does_supply r of && test r) ((query_eq_tells (q (get_or xs k d)) of).0 t ∙ sym own) ∙ e
              by false t =
                  let other : is_other_supplier (q (get_or xs k d)) of ≡ false = ap (is_other_supplier (q (get_or xs k d))) (sym there) ∙ apart_at q xs apart k n d lt within in
                  ap (λ b. b && test (q (get_or xs k d))) (sym (ap (λ b. not b && does_supply (q (get_or xs k d)) of) t) ∙ other)

-- where none is the query, who supplies it is another one
other_here : (f q : Query) (t a b : Bool) → query_eq f q ≡ false → a ≡ b → ((is_other_supplier f q && t) || a) ≡ ((does_supply f q && t) || b)
other_here f q t a b e same = λ i. ((not (e i) && does_supply f q) && t) || same i

not_first : (a b : Bool) → (a || b) ≡ false → a ≡ false
not_first true b e = absurd (true≢false e)
not_first false b e = refl

not_second : (a b : Bool) → (a || b) ≡ false → b ≡ false
not_second true b e = absurd (true≢false e)
not_second false b e = e

pub others_alone : {X : Type 0} (q : X → Query) (of : Query) (test : Query → Bool) (xs : List X) → list_any (λ y. query_eq (q y) of) xs ≡ false
    → list_any (λ y. is_other_supplier (q y) of && test (q y)) xs ≡ list_any (λ y. does_supply (q y) of && test (q y)) xs
others_alone q of test [] none = refl
others_alone q of test (x ∷ xs) none =
    other_here (q x) of (test (q x)) (list_any (λ y. is_other_supplier (q y) of && test (q y)) xs) (list_any (λ y. does_supply (q y) of && test (q y)) xs)
    (not_first (query_eq (q x) of) (list_any (λ y. query_eq (q y) of) xs) none)
    (others_alone q of test xs (not_second (query_eq (q x) of) (list_any (λ y. query_eq (q y) of) xs) none))

-- where none behind passes a test, nor the next in front, none from that one on does
pub behind_more : {X : Type 0} (test : X → Bool) (xs : List X) (n m : ℕ) (x : X) → n ≤ m + 1 → m < length xs → test (get_or xs m x) ≡ false
    → ((k : ℕ) (d : X) → n ≤ k → k < length xs → test (get_or xs k d) ≡ false) → (k : ℕ) (d : X) → m ≤ k → k < length xs → test (get_or xs k d) ≡ false
behind_more test xs n m x next within misses behind k d le lt = at (nat_lt m k) refl
  where
    at : (b : Bool) → nat_lt m k ≡ b → test (get_or xs k d) ≡ false
    at true e = behind k d (omega (arith, ltb-true m k e, next)) lt
    at false e =
        let here : m ≡ k = omega (arith, ltb-false m k e, le) in
        ap (λ j. test (get_or xs j d)) (sym here) ∙ ap test (sym (get_or_default xs m x d within)) ∙ misses

-- where the last is told that supplies a query, it is told whether one does
pub supplier_found : {X : Type 0} (q : X → Query) (of : Query) (xs : List X) (o : Option ℕ) → IfSome o (λ n. n < length xs)
    → IfSome o (λ n. (d : X) → is_other_supplier (q (get_or xs n d)) of ≡ true)
    → IfNone o ((k : ℕ) (d : X) → k < length xs → is_other_supplier (q (get_or xs k d)) of ≡ false)
    → is_some o ≡ list_any (λ x. is_other_supplier (q x) of) xs
supplier_found q of xs None within own none = sym (none_of (λ x. is_other_supplier (q x) of) xs none)
supplier_found {X = X} q of xs (Some n) within own none = sym (one xs within own)
  where
    one : (ys : List X) → n < length ys → ((d : X) → is_other_supplier (q (get_or ys n d)) of ≡ true) → list_any (λ x. is_other_supplier (q x) of) ys ≡ true
    one [] lt h = absurd (omega (arith, lt))
    one (y ∷ ys) lt h = any_at (λ x. is_other_supplier (q x) of) (y ∷ ys) n y lt (h y)

-- ---- windows

-- of two windows neither form supplies the other
pub windows_apart : (forms : List Query) (ws : List Window) → HaveForms forms (in_query_order (entries_of ws)) → AreApart query_of ws
windows_apart forms ws h j d lt = none_of (λ (y : Window). is_other_supplier y.query (get_or ws j d).query) ws none
  where
    there : (k : ℕ) (e : Window) → k < length ws → is_some (map_of.find query_cmp (get_or ws k e).query (in_query_order (entries_of ws))) ≡ true
    there k e l =
        any_found (get_or ws k e).query (in_query_order (entries_of ws)) ∙ any_kept (λ x. query_eq x (get_or ws k e).query) ws
        ∙ any_at (λ (w : Window). query_eq w.query (get_or ws k e).query) ws k e l ((query_eq_tells (get_or ws k e).query (get_or ws k e).query).1 refl)

    none : (k : ℕ) (e : Window) → k < length ws → is_other_supplier (get_or ws k e).query (get_or ws j d).query ≡ false
    none k e l = at (does_supply f g) refl
      where
        f : Query
        f = (get_or ws k e).query

        g : Query
        g = (get_or ws j d).query

        at : (b : Bool) → does_supply f g ≡ b → is_other_supplier f g ≡ false
        at false t = ap (λ b. not (query_eq f g) && b) t ∙ and_no (not (query_eq f g))
        at true t = ap (λ b. not b && does_supply f g) ((query_eq_tells f g).1 (apart_found (in_query_order (entries_of ws)) h.apart f g (there k e l) (there j d lt) t))
