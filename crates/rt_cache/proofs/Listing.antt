-- Windows listed in the order of their queries: what is found in the list says what it is.
use Rattle.std.proofs.Common.{◌≡◌, ℕ, zero, suc, ◌<◌, ◌≤◌, arith, length, set, get_or, append_assoc, Bool, true, false, cond, ◌||◌, List, [], ◌∷◌, ◌++◌, refl, sym, ap, ◌∙◌, Option, Some, None, is_some}
use mathlib.Core.Bool.{true≢false}
use Rattle.std.specs.Prelude.{IfNone}
use lib.Dec.{T}
use Rattle.std.specs.List.{filter, insert, list_any}
use Rattle.std.specs.declared.cmp.Ordering.TheVariants.{Equal}
use Rattle.std.specs.Ordering.{eq_by_cmp}
use Rattle.std.specs.Cmp.{Equal-is, eq_by_cmp_equiv}
use Rattle.std.specs.FinMap as map_of
use Rattle.std.specs.FinMap.Entries.{is_sorted-put, is_sorted-where_key, find-put, find-where_key, same_entries}
use Rattle.rt_query.specs.Queries.{Query}
use Rattle.rt_query.specs.QueryEq.{query_eq}
use Rattle.rt_query.specs.laws.QueryEq.{query_eq_tells}
use Rattle.rt_query.specs.QueryOrder.{query_cmp}
use Rattle.rt_cache.specs.Brought.{Window}
use Rattle.rt_cache.specs.Recover.{in_query_order}
use Rattle.rt_cache.specs.declared.windows.Window as inside
use Rattle.rt_cache.specs.inside.Held.{seen_window, entries_of}
use Rattle.rt_query.specs.laws.QueryOrder.{queries_total, exact_queries, tie_is_eq}

abbrev pub Listed : Type 0
Listed = List (Query × Window)

pub listed_sorted : (es : Listed) → T (map_of.is_sorted query_cmp (in_query_order es))
listed_sorted [] = tt
listed_sorted (e ∷ es) = is_sorted-put query_cmp queries_total e.0 e.1 (in_query_order es) (listed_sorted es)

-- the order changes nothing that is found
pub find-listed : (x : Query) (es : Listed) → map_of.find query_cmp x (in_query_order es) ≡ map_of.find query_cmp x es
find-listed x [] = refl
find-listed x (e ∷ es) =
    find-put query_cmp queries_total x e.0 e.1 (in_query_order es) ∙ ap (cond (eq_by_cmp query_cmp x e.0) (Some e.1)) (find-listed x es)

-- lists in which the same is found are listed alike
pub listed_is : (es fs : Listed) → T (map_of.is_sorted query_cmp fs) → ((x : Query) → map_of.find query_cmp x es ≡ map_of.find query_cmp x fs) → in_query_order es ≡ fs
listed_is es fs h same = same_entries query_cmp queries_total exact_queries (in_query_order es) fs (listed_sorted es) h (λ x. find-listed x es ∙ same x)

-- ---- one window set

tie : Query → Query → Bool
tie x q = eq_by_cmp query_cmp x q

shadowed : {A : Type 0} (b : Bool) (x y z : A) → cond b x z ≡ cond b x (cond b y z)
shadowed true x y z = refl
shadowed false x y z = refl

-- tests that can't both hold
apart : {A : Type 0} (a b : Bool) (x y z : A) → (a ≡ true → b ≡ true → ⊥) → cond a x (cond b y z) ≡ cond b y (cond a x z)
apart true true x y z h = absurd (h refl refl)
apart true false x y z h = refl
apart false b x y z h = refl

same_query : (x q : Query) → eq_by_cmp query_cmp x q ≡ true → x ≡ q
same_query x q e = exact_queries x q ((Equal-is (query_cmp x q)).0 e)

pub find-set : (x q : Query) (ws : List inside.Window) (n : ℕ) (d new : inside.Window) → n < length ws
    → ((k : ℕ) → k < n → query_eq (get_or ws k d).query q ≡ false) → query_eq (get_or ws n d).query q ≡ true → new.query ≡ q
    → map_of.find query_cmp x (entries_of (set ws n new)) ≡ cond (eq_by_cmp query_cmp x q) (Some (seen_window new)) (map_of.find query_cmp x (entries_of ws))
find-set x q [] n d new lt before own e = absurd (omega arith)
find-set x q (w ∷ ws) zero d new lt before own e =
    let was : w.query ≡ q = (query_eq_tells w.query q).0 own in
    (λ i. cond (eq_by_cmp query_cmp x (e i)) (Some (seen_window new)) (map_of.find query_cmp x (entries_of ws)))
    ∙ shadowed (eq_by_cmp query_cmp x q) (Some (seen_window new)) (Some (seen_window w)) (map_of.find query_cmp x (entries_of ws))
    ∙ ap (λ y. cond (eq_by_cmp query_cmp x q) (Some (seen_window new)) (cond (eq_by_cmp query_cmp x y) (Some (seen_window w)) (map_of.find query_cmp x (entries_of ws)))) (sym was)
find-set x q (w ∷ ws) (suc n) d new lt before own e =
    ap (cond (eq_by_cmp query_cmp x w.query) (Some (seen_window w))) (find-set x q ws n d new (omega arith) (λ k h. before (suc k) (omega arith)) own e)
    ∙ apart (eq_by_cmp query_cmp x w.query) (eq_by_cmp query_cmp x q) (Some (seen_window w)) (Some (seen_window new)) (map_of.find query_cmp x (entries_of ws))
    (λ a b. true≢false (sym ((query_eq_tells w.query q).1 (sym (same_query x w.query a) ∙ same_query x q b)) ∙ before 0 (omega arith)))

-- in place of the first of the query
pub listed-set : (q : Query) (ws : List inside.Window) (n : ℕ) (d new : inside.Window) → n < length ws
    → ((k : ℕ) → k < n → query_eq (get_or ws k d).query q ≡ false) → query_eq (get_or ws n d).query q ≡ true → new.query ≡ q
    → in_query_order (entries_of (set ws n new)) ≡ map_of.put query_cmp q (seen_window new) (in_query_order (entries_of ws))
listed-set q ws n d new lt before own e =
    listed_is (entries_of (set ws n new)) _ (is_sorted-put query_cmp queries_total q (seen_window new) (in_query_order (entries_of ws)) (listed_sorted (entries_of ws)))
    (λ x. find-set x q ws n d new lt before own e
    ∙ ap (cond (eq_by_cmp query_cmp x q) (Some (seen_window new))) (sym (find-listed x (entries_of ws)))
    ∙ sym (find-put query_cmp queries_total x q (seen_window new) (in_query_order (entries_of ws))))

-- the window that is found
pub find-at : (q : Query) (ws : List inside.Window) (n : ℕ) (d : inside.Window) → n < length ws
    → ((k : ℕ) → k < n → query_eq (get_or ws k d).query q ≡ false) → query_eq (get_or ws n d).query q ≡ true
    → map_of.find query_cmp q (entries_of ws) ≡ Some (seen_window (get_or ws n d))
find-at q [] n d lt before own = absurd (omega arith)
find-at q (w ∷ ws) zero d lt before own =
    let was : w.query ≡ q = (query_eq_tells w.query q).0 own in
    ap (λ b. cond b (Some (seen_window w)) (map_of.find query_cmp q (entries_of ws))) (tie_is_eq q w.query ∙ (query_eq_tells q w.query).1 (sym was))
find-at q (w ∷ ws) (suc n) d lt before own =
    ap (λ b. cond b (Some (seen_window w)) (map_of.find query_cmp q (entries_of ws))) (not_own (before 0 (omega arith)))
    ∙ find-at q ws n d (omega arith) (λ k h. before (suc k) (omega arith)) own
  where
    not_own : query_eq w.query q ≡ false → eq_by_cmp query_cmp q w.query ≡ false
    not_own e = (eq_by_cmp_equiv queries_total).symm q w.query ∙ tie_is_eq w.query q ∙ e

map-append : (ws vs : List inside.Window) → entries_of (ws ++ vs) ≡ entries_of ws ++ entries_of vs
map-append [] vs = refl
map-append (w ∷ ws) vs = ap (λ es. (w.query, seen_window w) ∷ es) (map-append ws vs)

-- a new window in front of those of its query
find-insert : (x : Query) (ws : List inside.Window) (n : ℕ) (new : inside.Window) → n ≤ length ws
    → ((k : ℕ) (d : inside.Window) → k < n → query_eq (get_or ws k d).query new.query ≡ false)
    → map_of.find query_cmp x (entries_of (insert ws n new)) ≡ cond (eq_by_cmp query_cmp x new.query) (Some (seen_window new)) (map_of.find query_cmp x (entries_of ws))
find-insert x ws zero new le before = refl
find-insert x [] (suc n) new le before = absurd (omega (arith, le))
find-insert x (w ∷ ws) (suc n) new le before =
    ap (cond (eq_by_cmp query_cmp x w.query) (Some (seen_window w))) (find-insert x ws n new (omega (arith, le)) (λ k d h. before (suc k) d (omega (arith, h))))
    ∙ apart (eq_by_cmp query_cmp x w.query) (eq_by_cmp query_cmp x new.query) (Some (seen_window w)) (Some (seen_window new)) (map_of.find query_cmp x (entries_of ws))
    (λ a b. true≢false (sym ((query_eq_tells w.query new.query).1 (sym (same_query x w.query a) ∙ same_query x new.query b)) ∙ before 0 w (omega arith)))

pub listed-insert : (ws : List inside.Window) (n : ℕ) (new : inside.Window) → n ≤ length ws
    → ((k : ℕ) (d : inside.Window) → k < n → query_eq (get_or ws k d).query new.query ≡ false)
    → in_query_order (entries_of (insert ws n new)) ≡ map_of.put query_cmp new.query (seen_window new) (in_query_order (entries_of ws))
listed-insert ws n new le before =
    listed_is (entries_of (insert ws n new)) _ (is_sorted-put query_cmp queries_total new.query (seen_window new) (in_query_order (entries_of ws)) (listed_sorted (entries_of ws)))
    (λ x. find-insert x ws n new le before
    ∙ ap (cond (eq_by_cmp query_cmp x new.query) (Some (seen_window new))) (sym (find-listed x (entries_of ws)))
    ∙ sym (find-put query_cmp queries_total x new.query (seen_window new) (in_query_order (entries_of ws))))

-- whether one is found
pub found_any : (q : Query) (ws : List inside.Window) → list_any (λ (w : inside.Window). query_eq w.query q) ws ≡ is_some (map_of.find query_cmp q (entries_of ws))
found_any q [] = refl
found_any q (w ∷ ws) =
    ap (λ b. b || list_any (λ (x : inside.Window). query_eq x.query q) ws) (sym ((eq_by_cmp_equiv queries_total).symm q w.query ∙ tie_is_eq w.query q))
    ∙ elim (eq_by_cmp query_cmp q w.query) as (λ b. (b || list_any (λ (x : inside.Window). query_eq x.query q) ws) ≡ is_some (cond b (Some (seen_window w)) (map_of.find query_cmp q (entries_of ws)))) [
      | true ↦ refl
      | false ↦ found_any q ws
    ]

none_found : (o : Option Window) → is_some o ≡ false → o ≡ None
none_found None e = refl
none_found (Some w) e = absurd (true≢false e)

pub none_unless : (r : Option ℕ) (o : Option Window) → is_some r ≡ is_some o → IfNone r (o ≡ None)
none_unless None o e = none_found o (sym e)
none_unless (Some n) o e = tt

-- ---- windows in front of others

pub ordered-behind : (es fs gs : Listed) → in_query_order fs ≡ in_query_order gs → in_query_order (es ++ fs) ≡ in_query_order (es ++ gs)
ordered-behind [] fs gs e = e
ordered-behind (x ∷ es) fs gs e = ap (map_of.put query_cmp x.0 x.1) (ordered-behind es fs gs e)

-- the last of those in front is put first
pub one_put : (before : List inside.Window) (w : inside.Window) (ws vs : List inside.Window)
    → in_query_order (entries_of vs) ≡ map_of.put query_cmp w.query (seen_window w) (in_query_order (entries_of ws))
    → in_query_order (entries_of before ++ entries_of vs) ≡ in_query_order (entries_of (before ++ w ∷ []) ++ entries_of ws)
one_put before w ws vs e =
    ordered-behind (entries_of before) (entries_of vs) ((w.query, seen_window w) ∷ entries_of ws) e
    ∙ ap in_query_order (sym (append_assoc (entries_of before) ((w.query, seen_window w) ∷ []) (entries_of ws)))
    ∙ ap (λ es. in_query_order (es ++ entries_of ws)) (sym (map-append before (w ∷ [])))

-- ---- some windows taken out

pub entries_of-filter : (test : Query → Bool) (ws : List inside.Window) → entries_of (filter (λ w. test w.query) ws) ≡ filter (λ w. test w.0) (entries_of ws)
entries_of-filter test [] = refl
entries_of-filter test (w ∷ ws) =
    elim (test w.query) as (λ b. entries_of (cond b (w ∷ filter (λ v. test v.query) ws) (filter (λ v. test v.query) ws)) ≡ cond b ((w.query, seen_window w) ∷ filter (λ v. test v.0) (entries_of ws)) (filter (λ v. test v.0) (entries_of ws))) [
      | true ↦ ap (λ es. (w.query, seen_window w) ∷ es) (entries_of-filter test ws)
      | false ↦ entries_of-filter test ws
    ]

pub listed-filter : (test : Query → Bool) (ws : List inside.Window) → in_query_order (entries_of (filter (λ w. test w.query) ws)) ≡ filter (λ w. test w.0) (in_query_order (entries_of ws))
listed-filter test ws =
    ap in_query_order (entries_of-filter test ws)
    ∙ listed_is (filter (λ w. test w.0) (entries_of ws)) _ (is_sorted-where_key query_cmp test (in_query_order (entries_of ws)) (listed_sorted (entries_of ws)))
    (λ x. find-where_key query_cmp test x (alike x) (entries_of ws)
    ∙ ap (λ o. cond (test x) o None) (sym (find-listed x (entries_of ws)))
    ∙ sym (find-where_key query_cmp test x (alike x) (in_query_order (entries_of ws))))
  where
    alike : (x : Query) (y : Query) → query_cmp x y ≡ Equal → test y ≡ test x
    alike x y e = ap test (sym (exact_queries x y e))
