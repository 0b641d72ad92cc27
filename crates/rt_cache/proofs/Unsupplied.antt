-- Of queries that stand in order those that no other of them supplies: asked one by one of those that are left so far.
use Rattle.std.proofs.Common.{◌≡◌, ℕ, ◌+◌, ◌-◌, ◌<◌, ◌≤◌, Bool, true, false, not, ◌&&◌, List, ◌++◌, length, get_or, drop, refl, sym, ap, subst, ◌∙◌, arith, nat_lt, ltb-true, ltb-false, length-append}
use mathlib.Core.Bool.{true≢false}
use Rattle.std.specs.List.{filter, list_any, All, Any, Contains}
use Rattle.std.specs.Ordering.{is_lt, is_gt, ordering_reverse}
use Rattle.std.specs.declared.cmp.Ordering.{Ordering}
use Rattle.std.specs.declared.cmp.Ordering.TheVariants.{Less, Equal, Greater}
use Rattle.std.proofs.lemmas.List.{get_or_append_left, get_or-append_right, get_or-drop, get_or-map, length-drop}
use Rattle.std.proofs.lemmas.List.Elements.{All-contains, All-filter, All-map}
use Rattle.std.proofs.lemmas.List.Folds.{Any-from_list_any}
use Rattle.rt_tree.specs.TreeEq.{both}
use Rattle.rt_query.specs.Queries.{Query, is_filtered}
use Rattle.rt_query.specs.QueryEq.{query_eq}
use Rattle.rt_query.specs.QueryOrder.{query_cmp}
use Rattle.rt_query.specs.Needed.{Supplies, needed}
use Rattle.rt_query.specs.Supply.{does_supply}
use Rattle.rt_query.specs.laws.NeededLaws.{IsForm, Contains-from_filter, passes-from_filter, needed_fewest}
use Rattle.rt_query.specs.laws.QueryEq.{query_eq_tells}
use Rattle.rt_query.specs.laws.QueryOrder.{queries_total, takes_in_up_to}
use Rattle.rt_query.specs.laws.SupplyLaws.{form_filtered}
use Rattle.rt_cache.specs.Brought.{is_supplied}
use Rattle.rt_cache.specs.declared.by_path.Lent.{Lent}
use Rattle.rt_cache.specs.inside.ByPath.{AreByQuery, AreApart, is_other_supplier}
use Rattle.rt_cache.specs.inside.Handing.{lent_queries}
use Rattle.rt_cache.proofs.Among.{any_with}
use Rattle.rt_cache.proofs.Apart.{other_takes_in, in_order}
use Rattle.rt_cache.proofs.ByPaths.{any_at, none_of}
use Rattle.rt_cache.proofs.ByQueries.{by_query-filter, neither_lesser}
use Rattle.rt_cache.proofs.Lending.{same_length, by_query-mapped, by_query-from_mapped}

not_true : (b : Bool) → not b ≡ true → b ≡ false
not_true true e = absurd (true≢false (sym e))
not_true false e = refl

lesser_turned : (o : Ordering) → is_lt (ordering_reverse o) ≡ is_gt o
lesser_turned Less = refl
lesser_turned Equal = refl
lesser_turned Greater = refl

-- what stands in front of others is in order where all are
by_query-front : (xs ys : List Query) → AreByQuery (λ (x : Query). x) (xs ++ ys) → AreByQuery (λ (x : Query). x) xs
by_query-front xs ys up k d low high =
    sym (λ i. is_lt (query_cmp (get_or_append_left xs ys d (k + 1) high i) (get_or_append_left xs ys d k (omega (arith, high)) i)))
    ∙ up k d low (omega (arith, high, length-append xs ys))

module _ (ls lent : List Lent) (n : ℕ) (up : AreByQuery (λ (l : Lent). l.query.now) ls) (filtered : All (λ (l : Lent). is_filtered l.query.now ≡ true) ls)
    (left : lent_queries lent ++ filter (λ f. not (is_supplied (lent_queries ls) f)) (lent_queries (drop n ls)) ≡ needed (lent_queries ls)) where
  abbrev all : List Query
  all = lent_queries ls

  abbrev test : Query → Bool
  test f = not (is_supplied all f)

  abbrev rest : List Query
  rest = filter test (lent_queries (drop n ls))

  pub lent_order : AreByQuery (λ (l : Lent). l.query.now) lent
  lent_order =
      by_query-from_mapped (λ (l : Lent). l.query.now) lent
      (by_query-front (lent_queries lent) rest (subst (AreByQuery (λ (x : Query). x)) (sym left)
      (by_query-filter (λ (x : Query). x) test all (by_query-mapped (λ (l : Lent). l.query.now) ls up))))

  in_needed : (k : ℕ) (d : Lent) → k < length lent → Contains (needed all) (get_or lent k d).query.now
  in_needed k d lt =
      let f : Query = (get_or lent k d).query.now in
      let short : k < length (lent_queries lent) = omega (arith, lt, same_length (λ (l : Lent). l.query.now) lent) in
      subst (λ qs. Contains qs f) left
      (k, omega (arith, short, length-append (lent_queries lent) rest), get_or_append_left (lent_queries lent) rest f k short ∙ get_or-map (λ (l : Lent). l.query.now) lent k d f lt)

  all_filtered : All (λ (q : Query). is_filtered q ≡ true) all
  all_filtered = All-map (λ (q : Query). is_filtered q ≡ true) (λ (l : Lent). l.query.now) ls filtered

  pub lent_filtered : All (λ (l : Lent). is_filtered l.query.now ≡ true) lent
  lent_filtered k d lt =
      All-contains (λ (q : Query). is_filtered q ≡ true) (needed all) (get_or lent k d).query.now (All-filter test (λ (q : Query). is_filtered q ≡ true) all all_filtered) (in_needed k d lt)

  free : (f : Query) → Contains (needed all) f → is_supplied all f ≡ false
  free f m = not_true (is_supplied all f) (passes-from_filter test all f m)

  -- what one of those that are left so far supplies, one of all does
  supplied_by_left : (k : ℕ) (d : Lent) (one : Query) → k < length lent → is_other_supplier (get_or lent k d).query.now one ≡ true → is_supplied all one ≡ true
  supplied_by_left k d one lt e =
      any_with (λ g. not (query_eq g one) && does_supply g one) all (get_or lent k d).query.now (Contains-from_filter test all (get_or lent k d).query.now (in_needed k d lt)) e

  pub lent_apart : AreApart (λ (l : Lent). l.query.now) lent
  lent_apart j d lt = none_of (λ (y : Lent). is_other_supplier y.query.now (get_or lent j d).query.now) lent none
    where
      none : (k : ℕ) (e : Lent) → k < length lent → is_other_supplier (get_or lent k e).query.now (get_or lent j d).query.now ≡ false
      none k e l = at (is_other_supplier (get_or lent k e).query.now (get_or lent j d).query.now) refl
        where
          at : (b : Bool) → is_other_supplier (get_or lent k e).query.now (get_or lent j d).query.now ≡ b → b ≡ false
          at false t = refl
          at true t = absurd (true≢false (sym (supplied_by_left k e (get_or lent j d).query.now l t) ∙ free (get_or lent j d).query.now (in_needed j d lt)))

  -- what supplies the next stands in front of it
  in_front : (d : Lent) (s : Query) → n < length ls → Contains (needed all) s → is_other_supplier s (get_or ls n d).query.now ≡ true
      → (k : ℕ) → k < length (lent_queries lent ++ rest) → get_or (lent_queries lent ++ rest) k s ≡ s → k < length (lent_queries lent)
  in_front d s within m other k lt here = at (nat_lt k (length (lent_queries lent))) refl
    where
      one : Query
      one = (get_or ls n d).query.now

      at : (b : Bool) → nat_lt k (length (lent_queries lent)) ≡ b → k < length (lent_queries lent)
      at true e = ltb-true k (length (lent_queries lent)) e
      at false e =
          let le : length (lent_queries lent) ≤ k = ltb-false k (length (lent_queries lent)) e in
          let beyond : Contains rest s = (
            k - length (lent_queries lent),
            omega (arith, lt, le, length-append (lent_queries lent) rest),
            sym (get_or-append_right (lent_queries lent) rest (length (lent_queries lent)) k s refl le) ∙ here,
          ) in
          let c : Contains (lent_queries (drop n ls)) s = Contains-from_filter test (lent_queries (drop n ls)) s beyond in
          let short : c.0 < length (drop n ls) = omega (arith, c.1, same_length (λ (l : Lent). l.query.now) (drop n ls)) in
          let high : n + c.0 < length ls = omega (arith, short, length-drop n ls) in
          let is : (get_or ls (n + c.0) d).query.now ≡ s =
          ap (λ (l : Lent). l.query.now) (sym (get_or-drop n ls c.0 d)) ∙ sym (get_or-map (λ (l : Lent). l.query.now) (drop n ls) c.0 d s short) ∙ c.2 in
          let behind : is_gt (query_cmp one s) ≡ false =
          ap (λ r. is_gt (query_cmp one r)) (sym is) ∙ in_order (λ (l : Lent). l.query.now) ls up n (n + c.0) d (omega arith) high in
          let sf : is_filtered s ≡ true = All-contains (λ (q : Query). is_filtered q ≡ true) (needed all) s (All-filter test (λ (q : Query). is_filtered q ≡ true) all all_filtered) m in
          let before : is_gt (query_cmp s one) ≡ false = takes_in_up_to s one (other_takes_in s one sf other) in
          let same : s ≡ one = neither_lesser s one (ap is_lt (queries_total.antisymm s one) ∙ lesser_turned (query_cmp one s) ∙ behind)
          (ap is_lt (queries_total.antisymm one s) ∙ lesser_turned (query_cmp s one) ∙ before) in
          absurd (true≢false (sym other ∙ ap (λ b. not b && does_supply s one) ((query_eq_tells s one).1 same)))

  -- where none of those that are left so far supplies the next, none of all does
  supplied_by_none : (d : Lent) → n < length ls
      → ((k : ℕ) (e : Lent) → k < length lent → is_other_supplier (get_or lent k e).query.now (get_or ls n d).query.now ≡ false)
      → is_supplied all (get_or ls n d).query.now ≡ false
  supplied_by_none d within none = at (is_supplied all one) refl
    where
      one : Query
      one = (get_or ls n d).query.now

      at : (b : Bool) → is_supplied all one ≡ b → is_supplied all one ≡ false
      at false e = e
      at true e =
          let forms : All IsForm all = λ k q lt. form_filtered (get_or all k q) (all_filtered k q lt) in
          let here : Contains all one = (n, omega (arith, within, same_length (λ (l : Lent). l.query.now) ls), get_or-map (λ (l : Lent). l.query.now) ls n d one within) in
          let by = All-contains (λ r. Any (λ s. Supplies s r) (needed all)) all one (needed_fewest all forms).supplying.each here in
          let s : Query = by.1 in
          let m : Contains (needed all) s = (by.0, by.2, by.3) in
          elim (query_eq s one) as (λ b. query_eq s one ≡ b → is_supplied all one ≡ false) [
            | true ↦ λ t. ap (is_supplied all) (sym ((query_eq_tells s one).0 t)) ∙ free s m
            | false ↦ λ t.
                let other : is_other_supplier s one ≡ true = both (not (query_eq s one)) (does_supply s one) (ap not t) by.4 in
                let c : Contains (lent_queries lent ++ rest) s = subst (λ qs. Contains qs s) (sym left) m in
                let front : c.0 < length (lent_queries lent) = in_front d s within m other c.0 c.1 c.2 in
                let short : c.0 < length lent = omega (arith, front, same_length (λ (l : Lent). l.query.now) lent) in
                let is : (get_or lent c.0 d).query.now ≡ s =
                sym (get_or-map (λ (l : Lent). l.query.now) lent c.0 d s short) ∙ sym (get_or_append_left (lent_queries lent) rest s c.0 front) ∙ c.2 in
                absurd (true≢false (sym other ∙ ap (λ r. is_other_supplier r one) (sym is) ∙ none c.0 d short))
          ] refl

  -- so those that are left so far tell whether one of all supplies the next
  pub supplied_alike : (d : Lent) → n < length ls
      → list_any (λ (l : Lent). is_other_supplier l.query.now (get_or ls n d).query.now) lent ≡ is_supplied all (get_or ls n d).query.now
  supplied_alike d within = at (list_any test_one lent) refl
    where
      one : Query
      one = (get_or ls n d).query.now

      test_one : Lent → Bool
      test_one l = is_other_supplier l.query.now one

      at : (b : Bool) → list_any test_one lent ≡ b → list_any test_one lent ≡ is_supplied all one
      at true e =
          let a = Any-from_list_any test_one lent e in
          e ∙ sym (supplied_by_left a.0 a.1 one a.2 (ap test_one a.3 ∙ a.4))
      at false e = e ∙ sym (supplied_by_none d within none)
        where
          none : (k : ℕ) (l : Lent) → k < length lent → is_other_supplier (get_or lent k l).query.now one ≡ false
          none k l lt = by (test_one (get_or lent k l)) refl
            where
              by : (b : Bool) → test_one (get_or lent k l) ≡ b → test_one (get_or lent k l) ≡ false
              by false u = u
              by true u = absurd (true≢false (sym (any_at test_one lent k l lt u) ∙ e))
