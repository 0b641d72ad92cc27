-- Pushes on filtered queries.
use Rattle.std.proofs.Common.{◌≡◌, ℕ, zero, suc, ◌<◌, arith, length, set, get_or, Bool, true, false, not, ◌||◌, List, [], ◌∷◌, append-nil, refl, sym, ap, cond, ◌∙◌, Option, Some, None, is_some, OnErr}
use mathlib.Core.Bool.{true≢false}
use Rattle.std.specs.List.{filter}
use Rattle.std.specs.Option.{option_map_or}
use Rattle.std.specs.declared.result.Result.{Result}
use Rattle.std.specs.declared.result.Result.TheVariants.{Ok, Err}
use Rattle.std.specs.Ordering.{eq_by_cmp}
use Rattle.std.specs.FinMap as map_of
use Rattle.std.specs.FinMap.Entries.{find-put}
use Rattle.std.proofs.lemmas.List.{get_or_default}
use Rattle.rt_tree.specs.PathTree.{Path, PathTree, path_eq, path_eq-is, path_eq-symm, path_eq-same, strip, strip-append, strip-some, put, children_alone}
use Rattle.rt_tree.specs.Assignments.{is_at_or_above}
use Rattle.rt_query.specs.Queries.{Query}
use Rattle.rt_query.specs.QueryEq.{query_eq}
use Rattle.rt_query.specs.Supply.{does_supply}
use Rattle.rt_query.specs.QueryOrder.{query_cmp}
use Rattle.rt_query.specs.laws.QueryEq.{query_eq_tells}
use Rattle.rt_query.specs.laws.QueryOrder.{queries_total, tie_is_eq}
use Rattle.rt_cache.specs.Brought.{Window, window_of, window_pushed, windows_pushed}
use Rattle.rt_cache.specs.Recover.{in_query_order}
use Rattle.rt_cache.specs.declared.windows.Window as inside
use Rattle.rt_cache.specs.inside.Held.{seen_window, entry_of, entries_of, pushed_windows, is_taken}
use Rattle.rt_cache.specs.inside.Sources.{AreAlone}
use Rattle.rt_cache.proofs.InSpans.{filter_all}
use Rattle.rt_cache.proofs.Listing.{Listed, find-listed, find-at}
use Rattle.rt_cache.proofs.Sources.{there_found, apart_found}

pub on_err_of : {A E : Type 0} (r : Result A E) (P : Type 0) → P → OnErr r P
on_err_of (Ok x) P p = tt
on_err_of (Err e) P p = p

-- ---- at the query's path

pub strip-same : (p : Path) → strip p p ≡ Some []
strip-same p = ap (strip p) (sym (append-nil p)) ∙ strip-append p []

own_path : (q : Query) (p : Path) → path_eq p q.path ≡ true → strip q.path p ≡ Some []
own_path q p e = ap (strip q.path) (path_eq-is p q.path e) ∙ strip-same q.path

pub pushed_own : (q : Query) (p : Path) (u : PathTree) (ws : Listed) → path_eq p q.path ≡ true
    → pushed_windows q (p, u) ws ≡ filter (λ w. query_eq w.0 q || not (does_supply q w.0)) (map_of.put query_cmp q (record { children = children_alone u; is_whole = false }) ws)
pushed_own q p u ws e = ap (λ o. option_map_or (λ rest. windows_pushed q rest u ws) o ws) (own_path q p e)

pub taken_own : (q : Query) (p : Path) (ws : Listed) → path_eq p q.path ≡ true → true ≡ is_taken q p ws
taken_own q p ws e = ap (λ b. b || is_some (window_of ws q)) (sym (path_eq-symm q.path p ∙ e))

-- a query that has one of some windows that are apart supplies no other one of them: so all stay beside it
pub put_beside : (q : Query) (w : Window) (es : Listed) → AreAlone es → is_some (map_of.find query_cmp q es) ≡ true
    → map_of.put query_cmp q w es ≡ filter (λ (e : Query × Window). query_eq e.0 q || not (does_supply q e.0)) (map_of.put query_cmp q w es)
put_beside q w es alone has =
    sym (filter_all (λ (e : Query × Window). query_eq e.0 q || not (does_supply q e.0)) (map_of.put query_cmp q w es)
    (λ k d lt. each (get_or (map_of.put query_cmp q w es) k d)
    (there_found (get_or (map_of.put query_cmp q w es) k d) (map_of.put query_cmp q w es)
    (k, lt, get_or_default (map_of.put query_cmp q w es) k (get_or (map_of.put query_cmp q w es) k d) d lt))))
  where
    or_true : (b : Bool) → (b || true) ≡ true
    or_true true = refl
    or_true false = refl

    own : (e : Query × Window) → e.0 ≡ q → (query_eq e.0 q || not (does_supply q e.0)) ≡ true
    own e is = ap (λ b. b || not (does_supply q e.0)) ((query_eq_tells e.0 q).1 is)

    other : (e : Query × Window) → is_some (map_of.find query_cmp e.0 es) ≡ true → (b : Bool) → does_supply q e.0 ≡ b
        → (query_eq e.0 q || not (does_supply q e.0)) ≡ true
    other e there true s = own e (sym (apart_found es alone q e.0 has there s))
    other e there false s = ap (λ b. query_eq e.0 q || not b) s ∙ or_true (query_eq e.0 q)

    each : (e : Query × Window) → is_some (map_of.find query_cmp e.0 (map_of.put query_cmp q w es)) ≡ true → (query_eq e.0 q || not (does_supply q e.0)) ≡ true
    each e there = at (eq_by_cmp query_cmp e.0 q) refl (sym (ap is_some (find-put query_cmp queries_total e.0 q w es)) ∙ there)
      where
        at : (b : Bool) → eq_by_cmp query_cmp e.0 q ≡ b → is_some (cond b (Some w) (map_of.find query_cmp e.0 es)) ≡ true
            → (query_eq e.0 q || not (does_supply q e.0)) ≡ true
        at true t f = own e ((query_eq_tells e.0 q).0 (sym (tie_is_eq e.0 q) ∙ t))
        at false t f = other e f (does_supply q e.0) refl

-- ---- below it

pub below_path : (q : Query) (p : Path) → path_eq p q.path ≡ false → strip q.path p ≡ Some [] → ⊥
below_path q p e s =
    true≢false (sym (path_eq-same p) ∙ ap (path_eq p) (strip-some q.path p [] s ∙ append-nil q.path) ∙ e)

pub pushed_none : (q : Query) (p : Path) (u : PathTree) (ws : Listed) → path_eq p q.path ≡ false → window_of ws q ≡ None → ws ≡ pushed_windows q (p, u) ws
pushed_none q p u ws e none = at (strip q.path p) refl
  where
    at : (o : Option Path) → strip q.path p ≡ o → ws ≡ pushed_windows q (p, u) ws
    at None s = ap (λ x. option_map_or (λ rest. windows_pushed q rest u ws) x ws) (sym s)
    at (Some []) s = absurd (below_path q p e s)
    at (Some (k ∷ rest)) s =
        sym ((λ i. option_map_or (λ x. windows_pushed q x u ws) (s i) ws) ∙ ap (λ o. option_map_or (λ w. map_of.put query_cmp q w ws) (window_pushed (k ∷ rest) u o) ws) none)

pub taken_none : (q : Query) (p : Path) (ws : Listed) → path_eq p q.path ≡ false → window_of ws q ≡ None → false ≡ is_taken q p ws
taken_none q p ws e none = λ i. sym (path_eq-symm q.path p ∙ e) i || is_some (sym none i)

-- the window with the tree put into it
abbrev pub window_with : Query → Path → PathTree → Window → Window
window_with q p u w = record w { children = option_map_or (λ rest. put w.children rest u) (strip q.path p) w.children }

pub pushed_some : (q : Query) (p : Path) (u : PathTree) (ws : Listed) (w : Window) → path_eq p q.path ≡ false → is_at_or_above q.path p ≡ true → window_of ws q ≡ Some w
    → map_of.put query_cmp q (window_with q p u w) ws ≡ pushed_windows q (p, u) ws
pushed_some q p u ws w e under some = at (strip q.path p) refl under
  where
    at : (o : Option Path) → strip q.path p ≡ o → is_some o ≡ true → map_of.put query_cmp q (window_with q p u w) ws ≡ pushed_windows q (p, u) ws
    at None s b = absurd (true≢false (sym b))
    at (Some []) s b = absurd (below_path q p e s)
    at (Some (k ∷ rest)) s b =
        ap (λ o. map_of.put query_cmp q (record w { children = option_map_or (λ x. put w.children x u) o w.children }) ws) s
        ∙ sym ((λ i. option_map_or (λ x. windows_pushed q x u ws) (s i) ws) ∙ ap (λ o. option_map_or (λ v. map_of.put query_cmp q v ws) (window_pushed (k ∷ rest) u o) ws) some)

pub taken_some : (q : Query) (p : Path) (ws : Listed) (w : Window) → window_of ws q ≡ Some w → true ≡ is_taken q p ws
taken_some q p ws w some = at (path_eq q.path p)
  where
    at : (b : Bool) → true ≡ (b || is_some (window_of ws q))
    at true = refl
    at false = ap is_some (sym some)

-- ---- in the list as it stands

pub none_listed : (q : Query) (ws : List inside.Window) → map_of.find query_cmp q (entries_of ws) ≡ None → window_of (in_query_order (entries_of ws)) q ≡ None
none_listed q ws e = find-listed q (entries_of ws) ∙ e

pub window_listed : (q : Query) (ws : List inside.Window) (n : ℕ) (d : inside.Window) → n < length ws
    → ((k : ℕ) → k < n → query_eq (get_or ws k d).query q ≡ false) → query_eq (get_or ws n d).query q ≡ true
    → window_of (in_query_order (entries_of ws)) q ≡ Some (seen_window (get_or ws n d))
window_listed q ws n d lt before own = find-listed q (entries_of ws) ∙ find-at q ws n d lt before own

-- a window that is seen as before
pub entries_of-set : (ws : List inside.Window) (n : ℕ) (d new : inside.Window) → n < length ws → entry_of new ≡ entry_of (get_or ws n d) → entries_of (set ws n new) ≡ entries_of ws
entries_of-set [] n d new lt e = absurd (omega arith)
entries_of-set (w ∷ ws) zero d new lt e = ap (λ x. x ∷ entries_of ws) e
entries_of-set (w ∷ ws) (suc n) d new lt e = ap (λ es. entry_of w ∷ es) (entries_of-set ws n d new (omega arith) e)
