-- Windows of forms that are registered no more.
use Rattle.std.proofs.Common.{◌≡◌, ℕ, zero, suc, ◌+◌, ◌<◌, arith, length, take, drop, get_or, Bool, true, false, cond, not, ◌||◌, List, [], ◌∷◌, refl, sym, ap, ◌∙◌, Option, Some, None}
use Rattle.std.specs.declared.cmp.Ordering.TheVariants.{Equal}
use Rattle.std.specs.Ordering.{is_lt, eq_by_cmp}
use Rattle.std.specs.List.{filter, remove, list_any, All, AllPairs}
use Rattle.std.specs.Cmp.{Equal-is, eq_by_cmp_equiv}
use Rattle.std.specs.FinMap as map_of
use Rattle.std.specs.FinMap.Entries.{is_sorted-where_key, find-where_key}
use Rattle.std.proofs.lemmas.List.Elements.{All-append, All-take, All-drop, All-head, All-tail}
use Rattle.std.proofs.lemmas.List.Kept.{AllPairs-cons}
use Rattle.std.proofs.lemmas.List.Sorted.{sorted_far}
use Rattle.rt_query.specs.Queries.{Query}
use Rattle.rt_query.specs.QueryEq.{query_eq}
use Rattle.rt_query.specs.laws.QueryEq.{query_eq_tells}
use Rattle.rt_query.specs.QueryOrder.{query_cmp}
use Rattle.rt_cache.specs.Brought.{Window, window_of}
use Rattle.rt_cache.specs.Recover.{in_query_order, is_among}
use Rattle.rt_cache.specs.declared.windows.Window as inside
use Rattle.rt_cache.specs.inside.ByPath.{by_query, AreByPath}
use Rattle.rt_cache.specs.inside.Held.{seen_window, entries_of}
use Rattle.rt_cache.proofs.ByPaths.{query_ranks}
use Rattle.rt_cache.proofs.Listing.{Listed, listed_is, listed_sorted, find-listed}
use Rattle.rt_query.specs.laws.QueryOrder.{queries_total, exact_queries, tie_is_eq}

-- ---- one taken out

pub by_path-remove : {X : Type 0} (q : X → Query) (xs : List X) (n : ℕ) → AreByPath q xs → AreByPath q (remove xs n)
by_path-remove {X = X} q xs n up k d low high =
    left xs n (λ i j e lt within. sorted_far (λ (x y : X). is_lt (by_query q x y)) (query_ranks q) xs up i j e (omega (arith, lt)) within) k (k + 1) d (omega arith) high
  where
    R : X → X → Type 0
    R x y = is_lt (by_query q y x) ≡ false

    left : (ys : List X) (n : ℕ) → AllPairs R ys → AllPairs R (remove ys n)
    left [] zero up = up
    left [] (suc n) up = up
    left (y ∷ ys) zero up = λ i j d lt within. up (suc i) (suc j) d (omega (arith, lt)) (omega (arith, within))
    left (y ∷ ys) (suc n) up =
        let first : All (R y) ys = λ k d lt. up 0 (suc k) d (omega arith) (omega (arith, lt)) in
        AllPairs-cons R y (remove ys n)
        (All-append (R y) (take n ys) (drop (suc n) ys) (All-take (R y) n ys first) (All-drop (R y) (suc n) ys first))
        (left ys n (λ i j d lt within. up (suc i) (suc j) d (omega (arith, lt)) (omega (arith, within))))

-- what is found of other queries stays
pub find-remove : (x q : Query) (ws : List inside.Window) (n : ℕ) → n < length ws → ((d : inside.Window) → query_eq (get_or ws n d).query q ≡ true) → query_eq q x ≡ false
    → map_of.find query_cmp x (entries_of (remove ws n)) ≡ map_of.find query_cmp x (entries_of ws)
find-remove x q [] n lt own e = absurd (omega arith)
find-remove x q (w ∷ ws) zero lt own e =
    let was : w.query ≡ q = (query_eq_tells w.query q).0 (own w) in
    sym (ap (λ b. cond b (Some (seen_window w)) (map_of.find query_cmp x (entries_of ws)))
    ((eq_by_cmp_equiv queries_total).symm x w.query ∙ tie_is_eq w.query x ∙ ap (λ y. query_eq y x) was ∙ e))
find-remove x q (w ∷ ws) (suc n) lt own e =
    ap (cond (eq_by_cmp query_cmp x w.query) (Some (seen_window w))) (find-remove x q ws n (omega arith) own e)

-- ---- those of some queries

pub any_drop : {X : Type 0} (p : X → Bool) (xs : List X) (n : ℕ) (d : X) → n < length xs → list_any p (drop n xs) ≡ (p (get_or xs n d) || list_any p (drop (suc n) xs))
any_drop p [] n d lt = absurd (omega arith)
any_drop p (x ∷ xs) zero d lt = refl
any_drop p (x ∷ xs) (suc n) d lt = any_drop p xs n d (omega arith)

-- neither of one nor of the others
pub none_of_both : (e d : Bool) (o : Option Window) → cond d None (cond e None o) ≡ cond (e || d) None o
none_of_both true true o = refl
none_of_both true false o = refl
none_of_both false d o = refl

turned : (b : Bool) (o : Option Window) → cond b None o ≡ cond (not b) o None
turned true o = refl
turned false o = refl

pub others_listed : (forms : List Query) (ws vs : List inside.Window)
    → ((x : Query) → map_of.find query_cmp x (entries_of vs) ≡ cond (is_among forms x) None (map_of.find query_cmp x (entries_of ws)))
    → in_query_order (entries_of vs) ≡ filter (λ w. not (is_among forms w.0)) (in_query_order (entries_of ws))
others_listed forms ws vs found =
    listed_is (entries_of vs) _ (is_sorted-where_key query_cmp (λ q. not (is_among forms q)) (in_query_order (entries_of ws)) (listed_sorted (entries_of ws)))
    (λ x. found x ∙ turned (is_among forms x) (map_of.find query_cmp x (entries_of ws))
    ∙ ap (λ o. cond (not (is_among forms x)) o None) (sym (find-listed x (entries_of ws)))
    ∙ sym (find-where_key query_cmp (λ q. not (is_among forms q)) x (alike x) (in_query_order (entries_of ws))))
  where
    alike : (x y : Query) → query_cmp x y ≡ Equal → not (is_among forms y) ≡ not (is_among forms x)
    alike x y e = ap (λ q. not (is_among forms q)) (sym (exact_queries x y e))

-- ---- tests of their queries

-- a test that holds of the windows alike finds alike
pub alike_found : (p r : Query → Bool) (ws : Listed) → All (λ (w : Query × Window). p w.0 ≡ r w.0) ws → (x : Query) → cond (p x) (window_of ws x) None ≡ cond (r x) (window_of ws x) None
alike_found p r [] h x = none (p x) ∙ sym (none (r x))
  where
    none : (b : Bool) → cond b (window_of [] x) None ≡ window_of [] x
    none true = refl
    none false = refl
alike_found p r (w ∷ ws) h x =
    elim (eq_by_cmp query_cmp x w.0) as (λ b. eq_by_cmp query_cmp x w.0 ≡ b → cond (p x) (cond b (Some w.1) (window_of ws x)) None ≡ cond (r x) (cond b (Some w.1) (window_of ws x)) None) [
      | true ↦ λ e.
          let same : x ≡ w.0 = exact_queries x w.0 ((Equal-is (query_cmp x w.0)).0 e) in
          ap (λ b. cond b (Some w.1) None) (ap p same ∙ All-head (λ (v : Query × Window). p v.0 ≡ r v.0) w ws h ∙ ap r (sym same))
      | false ↦ λ e. alike_found p r ws (All-tail (λ (v : Query × Window). p v.0 ≡ r v.0) w ws h) x
    ] refl
