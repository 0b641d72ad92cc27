-- What is brought for a query.
use Rattle.std.proofs.Common.{◌≡◌, Bool, true, false, cond, not, ◌&&◌, ◌||◌, List, [], ◌∷◌, refl, sym, ap, ◌∙◌, Option, Some, None, is_some}
use mathlib.Core.Bool.{true≢false}
use Rattle.std.specs.Ordering.{eq_by_cmp}
use Rattle.std.specs.List.{list_any, All, Contains}
use Rattle.std.specs.Option.{option_map, option_and_then}
use Rattle.std.specs.Cmp.{Equal-is}
use Rattle.std.specs.FinMap as map_of
use Rattle.std.proofs.lemmas.List.Elements.{All-head, All-tail}
use Rattle.std.proofs.lemmas.List.Folds.{Any-from_list_any}
use Rattle.rt_tree.specs.PathTree.{Path, PathTree, Key, path_eq, sub, child}
use Rattle.rt_tree.specs.TreeEq.{both_first, both_second}
use Rattle.rt_query.specs.Queries.{Query, is_filtered}
use Rattle.rt_query.specs.Supply.{does_supply}
use Rattle.rt_query.specs.laws.SupplyLaws.{supplied_is_filtered}
use Rattle.rt_query.specs.QueryOrder.{query_cmp}
use Rattle.rt_cache.specs.Brought.{Window, Brought, region_part, window_of, source, base, knows, child_base, is_without_window, is_another_at, may_move}
use Rattle.rt_cache.specs.Recover.{in_query_order}
use Rattle.rt_cache.specs.declared.regions.Region.{Region}
use Rattle.rt_cache.specs.declared.windows.Window as inside
use Rattle.rt_cache.specs.inside.Held.{pairs_of, entries_of, held}
use Rattle.rt_cache.specs.inside.Sources.{source_among}
use Rattle.rt_cache.proofs.Listing.{find-listed}
use Rattle.rt_query.specs.laws.QueryOrder.{exact_queries}
use Rattle.rt_cache.proofs.Sources.{find_none, found_all, has_it, of_part, of_window, region_base, window_base, source_kept, source_window, knows_by, any_kept}
use Rattle.rt_cache.proofs.Stays.{Windows, AreFiltered}

-- an unfiltered query has no window
pub no_window : (q : Query) (ws : Windows) → AreFiltered ws → is_filtered q ≡ false → window_of ws q ≡ None
no_window q [] h e = refl
no_window q (w ∷ ws) h e =
    elim (eq_by_cmp query_cmp q w.0) as (λ b. eq_by_cmp query_cmp q w.0 ≡ b → cond b (Some w.1) (map_of.find query_cmp q ws) ≡ None) [
      | true ↦ λ t. absurd (true≢false (sym (All-head (λ (x : Query × Window). is_filtered x.0 ≡ true) w ws h) ∙ ap is_filtered (sym (exact_queries q w.0 ((Equal-is (query_cmp q w.0)).0 t))) ∙ e))
      | false ↦ λ t. no_window q ws (All-tail (λ (x : Query × Window). is_filtered x.0 ≡ true) w ws h) e
    ] refl

-- nor is another's its own
pub plain_source : (q : Query) (registered : List Query) (ws : Windows) → AreFiltered ws → is_filtered q ≡ false → source_among ws registered q ≡ None
plain_source q registered ws h e = find_none (has_it ws q) registered (none (list_any (has_it ws q) registered) refl)
  where
    none : (b : Bool) → list_any (has_it ws q) registered ≡ b → list_any (has_it ws q) registered ≡ false
    none false t = t
    none true t =
        let a = Any-from_list_any (has_it ws q) registered t in
        let filtered : is_filtered a.1 ≡ true = found_all (λ x. is_filtered x ≡ true) a.1 ws h (both_second (does_supply a.1 q) _ a.4) in
        absurd (true≢false (sym (supplied_is_filtered a.1 q filtered (both_first (does_supply a.1 q) _ a.4)) ∙ e))

-- so it has the region's part alone
pub plain_found : (b : Brought) (q : Query) → AreFiltered b.windows → is_filtered q ≡ false → base b q ≡ option_map of_part (region_part b.regions q.path)
plain_found b q h e = at (region_part b.regions q.path) refl
  where
    at : (o : Option PathTree) → region_part b.regions q.path ≡ o → base b q ≡ option_map of_part (region_part b.regions q.path)
    at (Some t) r = region_base b q t r ∙ sym (ap (option_map of_part) r)
    at None r =
        window_base b q r ∙ ap (λ s. option_map of_window (option_and_then (window_of b.windows) s)) (plain_source q b.registered b.windows h e)
        ∙ sym (ap (option_map of_part) r)

-- a region's part is the base, whatever the windows
pub part_found : (fs : List Query) (rs : List Region) (ws : List inside.Window) (q : Query) (o : Option PathTree) → region_part (pairs_of rs) q.path ≡ o → is_some o ≡ true → base (held fs rs ws) q ≡ option_map of_part o
part_found fs rs ws q None e s = absurd (true≢false (sym s))
part_found fs rs ws q (Some t) e s = region_base (held fs rs ws) q t e

-- elsewhere it is the window that is found of the source
pub window_found : (fs : List Query) (rs : List Region) (ws : List inside.Window) (q : Query) (s : Option Query) → region_part (pairs_of rs) q.path ≡ None
    → source_among (entries_of ws) fs q ≡ s → base (held fs rs ws) q ≡ option_map of_window (option_and_then (λ f. map_of.find query_cmp f (entries_of ws)) s)
window_found fs rs ws q s e f =
    window_base (held fs rs ws) q e
    ∙ ap (λ o. option_map of_window (option_and_then (window_of (in_query_order (entries_of ws))) o)) (sym (source_kept ws fs q) ∙ f)
    ∙ same s
  where
    same : (o : Option Query) → option_map of_window (option_and_then (window_of (in_query_order (entries_of ws))) o) ≡ option_map of_window (option_and_then (λ x. map_of.find query_cmp x (entries_of ws)) o)
    same None = refl
    same (Some x) = ap (option_map of_window) (find-listed x (entries_of ws))

-- so where there is a source there is a base
pub source_some : (fs : List Query) (rs : List Region) (ws : List inside.Window) (q f : Query) → region_part (pairs_of rs) q.path ≡ None
    → source_among (entries_of ws) fs q ≡ Some f → is_some (base (held fs rs ws) q) ≡ true
source_some fs rs ws q f e s =
    ap is_some (window_base (held fs rs ws) q e) ∙ mapped (option_and_then (window_of (in_query_order (entries_of ws))) (source_among (in_query_order (entries_of ws)) fs q))
    ∙ source_window fs (in_query_order (entries_of ws)) q ∙ ap is_some (sym (source_kept ws fs q) ∙ s)
  where
    mapped : (o : Option Window) → is_some (option_map of_window o) ≡ is_some o
    mapped None = refl
    mapped (Some w) = refl

pub knows_found : (fs : List Query) (rs : List Region) (ws : List inside.Window) (q : Query) → All (λ (w : Query × Window). Contains fs w.0) (in_query_order (entries_of ws))
    → knows (held fs rs ws) q ≡ (is_some (region_part (pairs_of rs) q.path) || list_any (λ (w : inside.Window). does_supply w.query q) ws)
knows_found fs rs ws q h = knows_by (held fs rs ws) q h ∙ ap (λ b. is_some (region_part (pairs_of rs) q.path) || b) (any_kept (λ f. does_supply f q) ws)

-- so is its source: there is none where a region is
pub source_none : (fs : List Query) (rs : List Region) (ws : List inside.Window) (q : Query) → is_some (region_part (pairs_of rs) q.path) ≡ true → None ≡ source (held fs rs ws) q
source_none fs rs ws q e = sym (ap (λ b. cond b None (source_among (in_query_order (entries_of ws)) fs q)) e)

pub source_found : (fs : List Query) (rs : List Region) (ws : List inside.Window) (q : Query) (s : Option Query) → is_some (region_part (pairs_of rs) q.path) ≡ false
    → source_among (entries_of ws) fs q ≡ s → s ≡ source (held fs rs ws) q
source_found fs rs ws q s e f = sym f ∙ source_kept ws fs q ∙ sym (ap (λ b. cond b None (source_among (in_query_order (entries_of ws)) fs q)) e)

-- one that has a limit moves none
pub limited_stays : (b : Brought) (f : Query) → is_some f.limit ≡ true → false ≡ may_move b f
limited_stays b f e = sym (ap (λ x. not x && is_some (window_of b.windows f) && list_any (λ (w : Query × Window). is_another_at f w.0) b.windows) e)

-- and whether a form may move others
pub may_found : (fs : List Query) (rs : List Region) (ws : List inside.Window) (f : Query)
    → (not (is_some f.limit) && is_some (map_of.find query_cmp f (entries_of ws)) && list_any (λ (w : inside.Window). is_another_at f w.query) ws) ≡ may_move (held fs rs ws) f
may_found fs rs ws f = λ i. not (is_some f.limit) && is_some (sym (find-listed f (entries_of ws)) i) && sym (any_kept (λ x. is_another_at f x) ws) i

-- a filtered query lacks a window, by what is found where they are kept
pub lacks_found : (fs : List Query) (rs : List Region) (ws : List inside.Window) (q : Query) (p : Path) (u : PathTree) → is_filtered q ≡ true → path_eq q.path p ≡ false
    → not (is_some (map_of.find query_cmp q (entries_of ws))) ≡ is_without_window (held fs rs ws) q (p, u)
lacks_found fs rs ws q p u filtered other = sym (λ i. filtered i && not (other i) && not (is_some (find-listed q (entries_of ws) i)))

pub child_seen : (t : PathTree) (o : Option Path) (tree : PathTree) (k : Key) → Some tree ≡ option_map (λ rest. child (sub t rest) k) o
    → Some (record { tree = tree; whole = true }) ≡ option_map (child_base k) (option_map of_part (option_map (sub t) o))
child_seen t None tree k e = cc
child_seen t (Some rest) tree k e = ap (λ (x : Option PathTree). option_map (λ (y : PathTree). record { tree = y; whole = true }) x) e
