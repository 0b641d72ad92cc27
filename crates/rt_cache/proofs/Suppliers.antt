-- Queries that stand by their paths, and those of them that supply another one.
use Rattle.std.proofs.Common.{◌≡◌, ℕ, zero, suc, ◌+◌, ◌<◌, ◌≤◌, nat_lt, Bool, true, false, not, ◌&&◌, ◌||◌, List, [], ◌∷◌, length, get_or, map, refl, sym, ap, ◌∙◌, arith, ltb-true, ltb-false}
use Rattle.std.proofs.Common.{Some, None, is_some, cond}
use mathlib.Core.Bool.{true≢false}
use Rattle.std.specs.List.{filter, find, list_any, All}
use Rattle.std.specs.Ordering.{is_lt}
use Rattle.std.specs.FinMap as map_of
use Rattle.std.specs.Option.{option_map}
use Rattle.std.proofs.lemmas.List.{get_or_default}
use Rattle.std.proofs.lemmas.List.Elements.{All-head, All-tail, All-contains}
use Rattle.std.proofs.lemmas.List.Folds.{Any-from_list_any}
use Rattle.rt_tree.specs.PathTree.{path_cmp, path_eq, path_eq-is}
use Rattle.rt_tree.specs.TreeEq.{both_first, both_second, both}
use Rattle.rt_query.specs.Queries.{Query, is_filtered}
use Rattle.rt_query.specs.QueryEq.{query_eq}
use Rattle.rt_query.specs.Supply.{does_supply}
use Rattle.rt_query.specs.laws.NeededLaws.{supplies_itself}
use Rattle.rt_query.specs.laws.QueryEq.{query_eq_tells}
use Rattle.rt_query.specs.laws.SupplyLaws.{same_tests, form_filtered, supplied_has_path}
use Rattle.rt_query.specs.QueryOrder.{query_cmp}
use Rattle.rt_cache.specs.Brought.{Window, is_another_at}
use Rattle.rt_cache.specs.Recover.{in_query_order}
use Rattle.rt_cache.specs.declared.forms.Form.{Form}
use Rattle.rt_cache.specs.declared.windows.Window as inside
use Rattle.rt_cache.specs.inside.ByPath.{AreByPath, is_other_supplier}
use Rattle.rt_cache.specs.inside.Held.{entry_of, entries_of}
use Rattle.rt_cache.specs.inside.Listed.{form_query, queries_of}
use Rattle.rt_cache.specs.inside.Sources.{source_among, HaveForms}
use Rattle.rt_cache.proofs.Among.{filter_agreeing}
use Rattle.rt_cache.proofs.ByPaths.{not_itself, neither_before, path_behind, any_at, any_map, none_of}
use Rattle.rt_cache.proofs.InSpans.{filter_all}
use Rattle.rt_cache.proofs.Listing.{find-listed, listed-filter}
use Rattle.rt_cache.proofs.Sources.{any_found, any_kept, all_kept, find_none, has_it, source_kept, only_source, no_source}

and_no : (b : Bool) → (b && false) ≡ false
and_no true = refl
and_no false = refl

-- what supplies nothing is no other supplier
no_other : (f q : Query) → (does_supply f q ≡ true → ⊥) → is_other_supplier f q ≡ false
no_other f q h = at (does_supply f q) refl
  where
    at : (b : Bool) → does_supply f q ≡ b → is_other_supplier f q ≡ false
    at false e = ap (λ b. not (query_eq f q) && b) e ∙ and_no (not (query_eq f q))
    at true e = absurd (h e)

-- what stands at another path is no other query of this one's
pub other_path : (q f : Query) → (f.path ≡ q.path → ⊥) → is_another_at q f ≡ false
other_path q f h = at (path_eq f.path q.path) refl
  where
    at : (b : Bool) → path_eq f.path q.path ≡ b → is_another_at q f ≡ false
    at false e = ap (λ b. not (query_eq f q) && b) e ∙ and_no (not (query_eq f q))
    at true e = absurd (h (path_eq-is f.path q.path e))

pub in_front : (q f : Query) → is_lt (path_cmp f.path q.path) ≡ true → is_another_at q f ≡ false
in_front q f before = other_path q f (λ e. not_itself q.path f.path before e)

-- where one stands of a path behind, no other query of the path is left
pub another_left : {X : Type 0} (q : X → Query) (of : Query) (xs : List X) (n : ℕ) → AreByPath q xs → n < length xs
    → ((d : X) → is_lt (path_cmp (q (get_or xs n d)).path of.path) ≡ false)
    → ((d : X) → path_eq (q (get_or xs n d)).path of.path ≡ false)
    → ((k : ℕ) (d : X) → k < n → is_another_at of (q (get_or xs k d)) ≡ false)
    → list_any (λ x. is_another_at of (q x)) xs ≡ false
another_left {X = X} q of xs n up within not_before other before = none_of (λ x. is_another_at of (q x)) xs none
  where
    none : (k : ℕ) (d : X) → k < length xs → is_another_at of (q (get_or xs k d)) ≡ false
    none k d lt = at (nat_lt k n) refl
      where
        at : (b : Bool) → nat_lt k n ≡ b → is_another_at of (q (get_or xs k d)) ≡ false
        at true e = before k d (ltb-true k n e)
        at false e = other_path of (q (get_or xs k d)) (λ s.
            path_behind q of.path xs n up within not_before (λ x a b. true≢false (sym (neither_before (q (get_or xs n x)).path of.path a b) ∙ other x))
            k d (ltb-false k n e) lt s)

-- what is the query, or another one that supplies it, is what supplies it
pub supplier_is : {X : Type 0} (q : X → Query) (of : Query) (xs : List X) → All (λ x. is_filtered (q x) ≡ true) xs
    → (list_any (λ x. query_eq (q x) of) xs || list_any (λ x. is_other_supplier (q x) of) xs) ≡ list_any (λ x. does_supply (q x) of) xs
supplier_is q of [] filtered = refl
supplier_is {X = X} q of (x ∷ xs) filtered =
    turned (query_eq (q x) of) (list_any (λ y. query_eq (q y) of) xs) (is_other_supplier (q x) of) (list_any (λ y. is_other_supplier (q y) of) xs)
    ∙ (λ i. one (query_eq (q x) of) (does_supply (q x) of) own i || supplier_is q of xs (All-tail (λ (y : X). is_filtered (q y) ≡ true) x xs filtered) i)
  where
    turned : (a b c d : Bool) → ((a || b) || (c || d)) ≡ ((a || c) || (b || d))
    turned true b c d = refl
    turned false true true d = refl
    turned false true false d = refl
    turned false false c d = refl

    one : (a s : Bool) → (a ≡ true → s ≡ true) → (a || (not a && s)) ≡ s
    one true s h = sym (h refl)
    one false s h = refl

    own : query_eq (q x) of ≡ true → does_supply (q x) of ≡ true
    own e = ap (does_supply (q x)) (sym ((query_eq_tells (q x) of).0 e)) ∙ supplies_itself (q x) (form_filtered (q x) (All-head (λ (y : X). is_filtered (q y) ≡ true) x xs filtered))

-- ---- windows of what a query supplies

-- a window stays beside a query that is not another one and supplies it
beside_is : (q f : Query) → (query_eq f q || not (does_supply q f)) ≡ not (is_other_supplier q f)
beside_is q f = (λ i. turned i || not (does_supply q f)) ∙ at (query_eq q f) (does_supply q f)
  where
    turned : query_eq f q ≡ query_eq q f
    turned = same_tests (query_eq f q) (query_eq q f) (λ e. (query_eq_tells q f).1 (sym ((query_eq_tells f q).0 e))) (λ e. (query_eq_tells f q).1 (sym ((query_eq_tells q f).0 e)))

    at : (a s : Bool) → (a || not s) ≡ not (not a && s)
    at true s = refl
    at false s = refl

-- another query that a filtered one supplies is of its path
pub supplied_of_path : (q f : Query) → is_filtered q ≡ true → is_other_supplier q f ≡ true → f.path ≡ q.path
supplied_of_path q f filtered e = sym (supplied_has_path q f filtered (both_second (not (query_eq q f)) (does_supply q f) e))

-- where the query supplies none of the windows, and all that it doesn't are there, those stay beside it
pub left_beside : (q : Query) (vs ws : List inside.Window) → ((k : ℕ) (d : inside.Window) → k < length ws → is_other_supplier q (get_or ws k d).query ≡ false)
    → filter (λ (w : inside.Window). not (is_other_supplier q w.query)) ws ≡ filter (λ (w : inside.Window). not (is_other_supplier q w.query)) vs
    → in_query_order (entries_of ws) ≡ filter (λ (w : Query × Window). query_eq w.0 q || not (does_supply q w.0)) (in_query_order (entries_of vs))
left_beside q vs ws none same =
    ap (λ (xs : List inside.Window). in_query_order (entries_of xs)) (sym (filter_all (λ (w : inside.Window). not (is_other_supplier q w.query)) ws (λ k d lt. ap not (none k d lt))) ∙ same)
    ∙ listed-filter (λ f. not (is_other_supplier q f)) vs
    ∙ filter_agreeing (λ (w : Query × Window). not (is_other_supplier q w.0)) (λ (w : Query × Window). query_eq w.0 q || not (does_supply q w.0)) (in_query_order (entries_of vs))
    (λ k d lt. sym (beside_is q (get_or (in_query_order (entries_of vs)) k d).0))

-- ---- whose window is brought

-- what is found first is the first that passes
pub find_at_first : {X : Type 0} (p : X → Bool) (xs : List X) (n : ℕ) (d : X) → n < length xs → ((k : ℕ) (c : X) → k < n → p (get_or xs k c) ≡ false)
    → p (get_or xs n d) ≡ true → find p xs ≡ Some (get_or xs n d)
find_at_first p [] n d lt h e = absurd (omega (arith, lt))
find_at_first p (x ∷ xs) zero d lt h e = ap (λ b. cond b (Some x) (find p xs)) e
find_at_first p (x ∷ xs) (suc n) d lt h e =
    ap (λ b. cond b (Some x) (find p xs)) (h 0 x (omega arith)) ∙ find_at_first p xs n d (omega (arith, lt)) (λ k c l. h (suc k) c (omega (arith, l))) e

find_mapped : {X Y : Type 0} (f : X → Y) (p : Y → Bool) (xs : List X) → find p (map f xs) ≡ option_map f (find (λ x. p (f x)) xs)
find_mapped f p [] = refl
find_mapped f p (x ∷ xs) = elim (p (f x)) as (λ b. cond b (Some (f x)) (find p (map f xs)) ≡ option_map f (cond b (Some x) (find (λ y. p (f y)) xs))) [
  | true ↦ refl
  | false ↦ find_mapped f p xs
]

-- what has one of the windows is filtered
pub found_filtered_form : (ws : List inside.Window) (f : Query) → All (λ (w : inside.Window). is_filtered w.query ≡ true) ws → is_some (map_of.find query_cmp f (entries_of ws)) ≡ true
    → is_filtered f ≡ true
found_filtered_form ws f filtered e =
    let a = Any-from_list_any (λ (w : inside.Window). query_eq w.query f) ws
    (any_map entry_of (λ (x : Query × Window). query_eq x.0 f) ws ∙ sym (any_found f (entries_of ws)) ∙ e) in
    ap is_filtered (sym ((query_eq_tells (a.1).query f).0 a.4)) ∙ All-contains (λ (w : inside.Window). is_filtered w.query ≡ true) ws a.1 filtered (a.0, a.2, a.3)

module _ (registered : List Query) (ws : List inside.Window) (q : Query) (n : ℕ) (h : HaveForms registered (in_query_order (entries_of ws)))
    (none : map_of.find query_cmp q (entries_of ws) ≡ None) (within : n < length ws)
    (own : (d : inside.Window) → is_other_supplier (get_or ws n d).query q ≡ true)
    (before : (k : ℕ) (d : inside.Window) → k < n → is_other_supplier (get_or ws k d).query q ≡ false) where
  -- the first of the windows whose forms supply the query is of no form of one before it
  pub first_alone : (k : ℕ) (d : inside.Window) → k < n → query_eq (get_or ws k d).query (get_or ws n d).query ≡ false
  first_alone k d lt = at (query_eq (get_or ws k d).query (get_or ws n d).query) refl
    where
      at : (b : Bool) → query_eq (get_or ws k d).query (get_or ws n d).query ≡ b → b ≡ false
      at false e = refl
      at true e = absurd (true≢false (sym (own d) ∙ ap (λ x. is_other_supplier x q) (sym ((query_eq_tells (get_or ws k d).query (get_or ws n d).query).0 e)) ∙ before k d lt))

  -- where it is the only one, its form is the source
  pub one_source : ((k : ℕ) (d : inside.Window) → n + 1 ≤ k → k < length ws → is_other_supplier (get_or ws k d).query q ≡ false)
      → (d : inside.Window) → source_among (entries_of ws) registered q ≡ Some (get_or ws n d).query
  one_source behind d =
      source_kept ws registered q
      ∙ only_source registered (in_query_order (entries_of ws)) q f h.registered
      (any_found f (in_query_order (entries_of ws)) ∙ any_kept (λ x. query_eq x f) ws ∙ any_at (λ (w : inside.Window). query_eq w.query f) ws n d within ((query_eq_tells f f).1 refl))
      (both_second (not (query_eq f q)) (does_supply f q) (own d)) only
    where
      f : Query
      f = (get_or ws n d).query

      only : (g : Query) → is_some (map_of.find query_cmp g (in_query_order (entries_of ws))) ≡ true → does_supply g q ≡ true → g ≡ f
      only g s t =
          let a = Any-from_list_any (λ (w : inside.Window). query_eq w.query g) ws (sym (any_kept (λ x. query_eq x g) ws) ∙ sym (any_found g (in_query_order (entries_of ws))) ∙ s) in
          let k : ℕ = a.0 in
          let w : inside.Window = a.1 in
          let here : get_or ws k w ≡ w = a.3 in
          let same : w.query ≡ g = (query_eq_tells w.query g).0 a.4 in
          let other : is_other_supplier (get_or ws k w).query q ≡ true = ap (λ (x : inside.Window). is_other_supplier x.query q) here ∙ ap (λ x. is_other_supplier x q) same ∙ both (not (query_eq g q)) (does_supply g q) (differs g s (query_eq g q) refl) t in
          stands k w a.2 other (nat_lt k n) refl (nat_lt n k) refl here same
        where
          differs : (g : Query) → is_some (map_of.find query_cmp g (in_query_order (entries_of ws))) ≡ true → (b : Bool) → query_eq g q ≡ b → not (query_eq g q) ≡ true
          differs g s false e = ap not e
          differs g s true e =
              absurd (true≢false (sym s ∙ ap is_some (ap (λ x. map_of.find query_cmp x (in_query_order (entries_of ws))) ((query_eq_tells g q).0 e) ∙ find-listed q (entries_of ws) ∙ none)))

          stands : (k : ℕ) (w : inside.Window) → k < length ws → is_other_supplier (get_or ws k w).query q ≡ true → (a : Bool) → nat_lt k n ≡ a → (b : Bool) → nat_lt n k ≡ b
              → get_or ws k w ≡ w → w.query ≡ g → g ≡ f
          stands k w lt other true e b i here same = absurd (true≢false (sym other ∙ before k w (ltb-true k n e)))
          stands k w lt other false e true i here same = absurd (true≢false (sym other ∙ behind k w (omega (arith, ltb-true n k i)) lt))
          stands k w lt other false e false i here same =
              let is : k ≡ n = omega (arith, ltb-false k n e, ltb-false n k i) in
              sym same ∙ ap (λ (x : inside.Window). x.query) (sym here ∙ ap (λ j. get_or ws j w) is ∙ get_or_default ws n w d within)

-- where neither the query has a window, nor another form that supplies it, it has no source
pub without_source : (registered : List Query) (ws : List inside.Window) (q : Query) → HaveForms registered (in_query_order (entries_of ws))
    → map_of.find query_cmp q (entries_of ws) ≡ None → list_any (λ (w : inside.Window). is_other_supplier w.query q) ws ≡ false
    → source_among (entries_of ws) registered q ≡ None
without_source registered ws q h none other =
    source_kept ws registered q
    ∙ no_source registered (in_query_order (entries_of ws)) q h.registered
    (any_kept (λ f. does_supply f q) ws
    ∙ sym (supplier_is (λ (w : inside.Window). w.query) q ws (all_kept (λ x. is_filtered x ≡ true) ws h.filtered))
    ∙ (λ i. own i || other i))
  where
    own : list_any (λ (w : inside.Window). query_eq w.query q) ws ≡ false
    own = sym (any_kept (λ x. query_eq x q) ws) ∙ sym (any_found q (in_query_order (entries_of ws))) ∙ ap is_some (find-listed q (entries_of ws) ∙ none)

-- a form that supplies the query and has a window is of its path: what has a window is filtered
pub supplies_of_path : (ws : List inside.Window) (q f : Query) → All (λ (w : inside.Window). is_filtered w.query ≡ true) ws → has_it (entries_of ws) q f ≡ true → f.path ≡ q.path
supplies_of_path ws q f filtered e =
    supplied_has_path f q (found_filtered_form ws f filtered (both_second (does_supply f q) (is_some (map_of.find query_cmp f (entries_of ws))) e))
    (both_first (does_supply f q) (is_some (map_of.find query_cmp f (entries_of ws))) e)

-- the first of the forms that supplies the query and has a window is the source
pub first_of_path : (forms : List Form) (ws : List inside.Window) (q : Query) (n : ℕ) (f : Form) → n < length forms → f ≡ get_or forms n f
    → ((k : ℕ) (d : Form) → k < n → has_it (entries_of ws) q (get_or forms k d).query ≡ false) → has_it (entries_of ws) q f.query ≡ true
    → source_among (entries_of ws) (queries_of forms) q ≡ Some f.query
first_of_path forms ws q n f lt at before passes =
    find_mapped form_query (has_it (entries_of ws) q) forms
    ∙ ap (option_map form_query) (find_at_first (λ (x : Form). has_it (entries_of ws) q x.query) forms n f lt before (ap (λ (x : Form). has_it (entries_of ws) q x.query) (sym at) ∙ passes))
    ∙ ap (λ (x : Form). Some x.query) (sym at)

-- where none does there is no source
pub none_of_forms : (forms : List Form) (ws : List inside.Window) (q : Query) → ((k : ℕ) (d : Form) → k < length forms → has_it (entries_of ws) q (get_or forms k d).query ≡ false)
    → source_among (entries_of ws) (queries_of forms) q ≡ None
none_of_forms forms ws q h =
    find_none (has_it (entries_of ws) q) (queries_of forms)
    (sym (any_map form_query (has_it (entries_of ws) q) forms) ∙ none_of (λ (x : Form). has_it (entries_of ws) q x.query) forms h)
