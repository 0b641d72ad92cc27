-- What a push leaves of the bases beside it.
use Rattle.std.proofs.Common.{◌≡◌, Bool, true, false, cond, not, ◌&&◌, List, [], ◌∷◌, ◌++◌, map, refl, sym, ap, subst, ◌∙◌, append_assoc, Option, Some, None, is_some}
use mathlib.Core.Bool.{true≢false}
use Rattle.std.specs.declared.cmp.Ordering.TheVariants.{Less, Equal, Greater}
use Rattle.std.specs.Prelude.{IfSome}
use Rattle.std.specs.List.{filter, find, fold, list_any}
use Rattle.std.proofs.lemmas.List.Elements.{All-filter}
use Rattle.std.specs.Option.{option_map, option_map_or, option_and_then, option_or}
use Rattle.std.specs.FinMap as map_of
use Rattle.std.specs.FinMap.Entries.{by_order, find-put, find-where_key}
use Rattle.std.specs.Ordering.{is_eq}
use Rattle.rt_tree.specs.PathTree.{Path, PathTree, path_cmp, strip, strip-some, strip-both, strip-apart, strip-under, sub, put, path_eq-is}
use Rattle.rt_tree.specs.Parts.{sub-sub, sub-put_other}
use Rattle.rt_tree.specs.Assignments.{Assignment, is_at_or_above, do_overlap}
use Rattle.rt_tree.specs.TreeEq.{both_first, both_second}
use Rattle.rt_query.specs.Queries.{Query, is_filtered}
use Rattle.rt_query.specs.QueryEq.{query_eq}
use Rattle.rt_query.specs.Supply.{does_supply}
use Rattle.rt_query.specs.laws.QueryEq.{query_eq_tells}
use Rattle.rt_query.specs.laws.SupplyLaws.{supplied_has_path}
use Rattle.rt_cache.specs.Brought.{Window, Brought, source, base, region_part, window_of, region_put, push_plain, window_pushed, windows_beside, windows_pushed, push}
use Rattle.rt_cache.specs.Canonical.{IsCanonical}
use Rattle.rt_cache.specs.inside.Sources.{source_among}
use Rattle.rt_cache.proofs.Bases.{no_window}
use Rattle.rt_cache.proofs.FilteredRuns.{beside_found}
use Rattle.rt_cache.proofs.Places.{or_true}
use Rattle.rt_cache.proofs.RunLaws.{never}
use Rattle.rt_cache.proofs.Sources.{has_it, found_all, find_passes}
use Rattle.rt_cache.proofs.Stays.{AreFiltered, push_stays}
use Rattle.rt_cache.specs.declared.brought.Base.{Base}
use Rattle.rt_query.specs.QueryOrder.{query_cmp}
use Rattle.rt_query.specs.laws.QueryOrder.{queries_total, exact_queries, tie_is_eq}
use Rattle.rt_cover.specs.laws.Paths.{is_at_or_above-trans, above_append}
use Rattle.rt_world.specs.Views.{base_tree, is_base_whole}
use Rattle.rt_world.proofs.Listeners.{or_false_left, or_false_right}
use Rattle.rt_world.proofs.RecoverLaws.{whole}

-- ---- apart paths

none_of_not : {X : Type 0} (o : Option X) → is_some o ≡ false → o ≡ None
none_of_not None e = refl
none_of_not (Some x) e = absurd (true≢false e)

pub record AreApart (p q : Path) : Type 0 where
  pub down : strip p q ≡ None
  pub up : strip q p ≡ None

pub apart_of : (p q : Path) → do_overlap p q ≡ false → AreApart p q
apart_of p q h = record {
  down = none_of_not (strip p q) (or_false_left (is_at_or_above p q) (is_at_or_above q p) h);
  up = none_of_not (strip q p) (or_false_right (is_at_or_above p q) (is_at_or_above q p) h);
}

-- what is apart under p is apart
apart_under : (p s d : Path) → AreApart (p ++ s) (p ++ d) → AreApart s d
apart_under p s d h = record { down = sym (strip-both p s d) ∙ h.down; up = sym (strip-both p d s) ∙ h.up }

-- what is apart from a path is apart from what is under it
pub apart_below : (e p d : Path) → AreApart e p → AreApart e (p ++ d)
apart_below e p d h = record { down = strip-apart e p d h.down h.up; up = strip-under p d e ∙ ap (option_and_then (strip d)) h.up }

-- what is apart from a child is not at or above its parent
not_above : (e p d : Path) → AreApart e (p ++ d) → is_at_or_above e p ≡ false
not_above e p d h = at (is_at_or_above e p) refl
  where
    at : (b : Bool) → is_at_or_above e p ≡ b → is_at_or_above e p ≡ false
    at false f = f
    at true f = absurd (true≢false (sym (is_at_or_above-trans e p (p ++ d) f (above_append p d)) ∙ ap is_some h.down))

-- ---- bases that are alike at a path

pub record AlikeAt (d : Path) (new old : Option Base) : Type 0 where
  pub there : is_some new ≡ is_some old
  pub full : is_base_whole new ≡ is_base_whole old
  pub part : sub (base_tree new) d ≡ sub (base_tree old) d

pub alike_same : (d : Path) (new old : Option Base) → new ≡ old → AlikeAt d new old
alike_same d new old e = record { there = ap is_some e; full = ap is_base_whole e; part = ap (λ o. sub (base_tree o) d) e }

pub alike_trans : (d : Path) (a b c : Option Base) → AlikeAt d a b → AlikeAt d b c → AlikeAt d a c
alike_trans d a b c x y = record { there = x.there ∙ y.there; full = x.full ∙ y.full; part = x.part ∙ y.part }

alike_or : (d : Path) (a b x y : Option Base) → AlikeAt d a b → AlikeAt d x y → AlikeAt d (option_or a x) (option_or b y)
alike_or d None None x y h g = g
alike_or d (Some a) (Some b) x y h g = h
alike_or d None (Some b) x y h g = absurd (true≢false (sym h.there))
alike_or d (Some a) None x y h g = absurd (true≢false h.there)

-- ---- regions

abbrev part_base : Option PathTree → Option Base
part_base part = option_map whole part

abbrev window_base : Option Window → Option Base
window_base window = option_map (λ w. record { tree = w.children; whole = w.is_whole }) window

-- something is there just where it was
pub part_there : (o : Option PathTree) → is_some (part_base o) ≡ is_some o
part_there None = refl
part_there (Some t) = refl

window_there : (o : Option Window) → is_some (window_base o) ≡ is_some o
window_there None = refl
window_there (Some w) = refl

part_base-or : (a b : Option PathTree) → part_base (option_or a b) ≡ option_or (part_base a) (part_base b)
part_base-or None b = refl
part_base-or (Some t) b = refl

-- one region, with an entry put beside
put_region : (a : Assignment) (r : Path × PathTree) (p d : Path) → AreApart a.0 (p ++ d)
    → AlikeAt d (part_base (option_map (sub (region_put a r).1) (strip r.0 p))) (part_base (option_map (sub r.1) (strip r.0 p)))
put_region a r p d h =
    elim (strip r.0 p) as (λ o. strip r.0 p ≡ o → AlikeAt d (part_base (option_map (sub (region_put a r).1) o)) (part_base (option_map (sub r.1) o))) [
      | None ↦ λ e. alike_same d None None refl
      | Some rp ↦ λ e. record { there = refl; full = refl; part = sub-sub (region_put a r).1 rp d ∙ at rp e (strip r.0 a.0) refl ∙ sym (sub-sub r.1 rp d) }
    ] refl
  where
    at : (rp : Path) → strip r.0 p ≡ Some rp → (o : Option Path) → strip r.0 a.0 ≡ o → sub (option_map_or (λ rest. put r.1 rest a.1) o r.1) (rp ++ d) ≡ sub r.1 (rp ++ d)
    at rp e None f = refl
    at rp e (Some re) f =
        let under : p ++ d ≡ r.0 ++ (rp ++ d) = ap (λ z. z ++ d) (strip-some r.0 p rp e) ∙ append_assoc r.0 rp d in
        let there : a.0 ≡ r.0 ++ re = strip-some r.0 a.0 re f in
        let x = apart_under r.0 re (rp ++ d) (subst (λ z. AreApart z (r.0 ++ (rp ++ d))) there (subst (AreApart a.0) under h)) in
        sub-put_other r.1 re (rp ++ d) a.1 x.down x.up

put_regions : (a : Assignment) (rs : List (Path × PathTree)) (p d : Path) → AreApart a.0 (p ++ d)
    → AlikeAt d (part_base (region_part (map (region_put a) rs) p)) (part_base (region_part rs p))
put_regions a [] p d h = alike_same d None None refl
put_regions a (r ∷ rs) p d h =
    subst (λ z. z) (λ i. AlikeAt d
    (sym (part_base-or (option_map (sub (region_put a r).1) (strip r.0 p)) (region_part (map (region_put a) rs) p)) i)
    (sym (part_base-or (option_map (sub r.1) (strip r.0 p)) (region_part rs p)) i))
    (alike_or d _ _ _ _ (put_region a r p d h) (put_regions a rs p d h))

-- a region elsewhere shows nothing
region_part-put : (e : Path) (u : PathTree) (rs : List (Path × PathTree)) (p : Path) → is_at_or_above e p ≡ false → region_part (map_of.put path_cmp e u rs) p ≡ region_part rs p
region_part-put e u [] p h = ap (λ o. option_or (option_map (sub u) o) None) (none_of_not (strip e p) h)
region_part-put e u (r ∷ rs) p h =
    elim (path_cmp e r.0) as (λ o. path_cmp e r.0 ≡ o → region_part (by_order o ((e, u) ∷ r ∷ rs) ((r.0, u) ∷ rs) (r ∷ map_of.put path_cmp e u rs)) p ≡ region_part (r ∷ rs) p) [
      | Less ↦ λ f. ap (λ o. option_or (option_map (sub u) o) (region_part (r ∷ rs) p)) (none_of_not (strip e p) h)
      | Equal ↦ λ f.
          let same : e ≡ r.0 = path_eq-is e r.0 (ap is_eq f) in
          let none : strip r.0 p ≡ None = ap (λ z. strip z p) (sym same) ∙ none_of_not (strip e p) h in
          (λ i. option_or (option_map (sub u) (none i)) (region_part rs p)) ∙ (λ i. option_or (option_map (sub r.1) (sym none i)) (region_part rs p))
      | Greater ↦ λ f. ap (option_or (option_map (sub r.1) (strip r.0 p))) (region_part-put e u rs p h)
    ] refl

region_part-filter : (e : Path) (rs : List (Path × PathTree)) (p : Path) → is_at_or_above e p ≡ false → region_part (filter (λ r. not (is_at_or_above e r.0)) rs) p ≡ region_part rs p
region_part-filter e [] p h = refl
region_part-filter e (r ∷ rs) p h =
    let rest = region_part-filter e rs p h in
    elim (is_at_or_above e r.0) as (λ b. is_at_or_above e r.0 ≡ b → region_part (cond (not b) (r ∷ filter (λ x. not (is_at_or_above e x.0)) rs) (filter (λ x. not (is_at_or_above e x.0)) rs)) p ≡ region_part (r ∷ rs) p) [
      | false ↦ λ f. ap (option_or (option_map (sub r.1) (strip r.0 p))) rest
      | true ↦ λ f. rest ∙ ap (λ o. option_or (option_map (sub r.1) o) (region_part rs p)) (sym (gone f (strip r.0 p) refl))
    ] refl
  where
    gone : is_at_or_above e r.0 ≡ true → (o : Option Path) → strip r.0 p ≡ o → strip r.0 p ≡ None
    gone f None g = g
    gone f (Some s) g = absurd (true≢false (sym (is_at_or_above-trans e r.0 p f (ap is_some g)) ∙ h))

-- ---- windows

-- windows that are taken out by their paths, and not the query's
window_of-filter : (test : Query → Bool) (ws : List (Query × Window)) (q : Query) → test q ≡ true → window_of (filter (λ w. test w.0) ws) q ≡ window_of ws q
window_of-filter test ws q h =
    find-where_key query_cmp test q (λ x e. ap test (sym (exact_queries q x e))) ws ∙ ap (λ b. cond b (window_of ws q) None) h

window_of-put : (f : Query) (w : Window) (ws : List (Query × Window)) (q : Query) → window_of (map_of.put query_cmp f w ws) q ≡ cond (query_eq q f) (Some w) (window_of ws q)
window_of-put f w ws q = find-put query_cmp queries_total q f w ws ∙ ap (λ b. cond b (Some w) (window_of ws q)) (tie_is_eq q f)

-- ---- a push

-- the source, and the window that is found of it
abbrev pub window_by : Brought → Query → Option Base
window_by b q = window_base (option_and_then (window_of b.windows) (source b q))

-- a form that supplies q by a window is filtered, and of its path
record IsAt (b : Brought) (q g : Query) : Type 0 where
  filtered : is_filtered g ≡ true
  path : g.path ≡ q.path

is_at : (b : Brought) (q g : Query) → AreFiltered b.windows → is_some (window_of b.windows g) ≡ true → does_supply g q ≡ true → IsAt b q g
is_at b q g h s e = let f : is_filtered g ≡ true = found_all (λ x. is_filtered x ≡ true) g b.windows h s in record { filtered = f; path = supplied_has_path g q f e }

-- windows among which those that supply q have just the forms that they had
agreeing : (q : Query) (ws vs : List (Query × Window)) → AreFiltered ws → AreFiltered vs
    → ((g : Query) → is_filtered g ≡ true → g.path ≡ q.path → is_some (window_of ws g) ≡ is_some (window_of vs g)) → (g : Query) → has_it ws q g ≡ has_it vs q g
agreeing q ws vs hw hv same g = at (does_supply g q) refl
  where
    plain : is_filtered g ≡ false → is_some (window_of ws g) ≡ is_some (window_of vs g)
    plain e = ap is_some (no_window g ws hw e ∙ sym (no_window g vs hv e))

    there : does_supply g q ≡ true → (f : Bool) → is_filtered g ≡ f → is_some (window_of ws g) ≡ is_some (window_of vs g)
    there e true f = same g f (supplied_has_path g q f e)
    there e false f = plain f

    at : (b : Bool) → does_supply g q ≡ b → has_it ws q g ≡ has_it vs q g
    at true e = ap (λ t. does_supply g q && t) (there e (is_filtered g) refl)
    at false e = ap (λ t. t && is_some (window_of ws g)) e ∙ sym (ap (λ t. t && is_some (window_of vs g)) e)

-- what is brought of q, where its region's part is alike and its source is the same with a window alike
pub alike_by : (d : Path) (q : Query) (c b : Brought) → AlikeAt d (part_base (region_part c.regions q.path)) (part_base (region_part b.regions q.path)) → source c q ≡ source b q
    → ((g : Query) → source b q ≡ Some g → AlikeAt d (window_base (window_of c.windows g)) (window_base (window_of b.windows g))) → AlikeAt d (base c q) (base b q)
alike_by d q c b part same window = alike_or d _ _ _ _ part (at (source b q) refl)
  where
    at : (o : Option Query) → source b q ≡ o → AlikeAt d (window_by c q) (window_by b q)
    at None e = alike_same d _ _ ((λ i. window_base (option_and_then (window_of c.windows) ((same ∙ e) i))) ∙ sym (ap (λ o. window_base (option_and_then (window_of b.windows) o)) e))
    at (Some g) e =
        subst (λ z. z) (λ i. AlikeAt d (window_base (option_and_then (window_of c.windows) (sym (same ∙ e) i))) (window_base (option_and_then (window_of b.windows) (sym e i)))) (window g e)

-- a push elsewhere leaves the source, and what is brought there
record LeavesBase (d : Path) (q : Query) (c b : Brought) : Type 0 where
  same : source c q ≡ source b q
  alike : AlikeAt d (base c q) (base b q)

-- the source of a query passes
passes : (b : Brought) (q g : Query) → source b q ≡ Some g → has_it b.windows q g ≡ true
passes b q g e = at (is_some (region_part b.regions q.path)) refl
  where
    at : (t : Bool) → is_some (region_part b.regions q.path) ≡ t → has_it b.windows q g ≡ true
    at true r = let none : None ≡ Some g = sym (ap (λ t. cond t None (source_among b.windows b.registered q)) r) ∙ e in cc
    at false r = subst (λ o. IfSome o (λ x. has_it b.windows q x ≡ true)) (sym (ap (λ t. cond t None (source_among b.windows b.registered q)) r) ∙ e) (find_passes (has_it b.windows q) b.registered)

plain_leaves : (b : Brought) (a : Assignment) (q : Query) (d : Path) → AreFiltered b.windows → AreApart a.0 (q.path ++ d) → LeavesBase d q (push_plain b a) b
plain_leaves b a q d filtered h =
    elim (is_some (region_part b.regions a.0)) as (λ c. LeavesBase d q (cond c inside outside) b) [
      | true ↦ record { same = inside_source; alike = alike_by d q inside b (put_regions a b.regions q.path d h) inside_source (λ g e. alike_same d _ _ refl) }
      | false ↦ record {
        same = outside_source;
        alike = alike_by d q outside b (alike_same d _ _ (ap part_base regions)) outside_source (λ g e.
            let p = passes b q g e in
            alike_same d _ _ (ap window_base (windows g (is_at b q g filtered (both_second (does_supply g q) _ p) (both_first (does_supply g q) _ p)).path)));
      }
    ]
  where
    inside : Brought
    inside = record b { regions = map (region_put a) b.regions }

    outside : Brought
    outside = record b {
      regions = map_of.put path_cmp a.0 a.1 (filter (λ r. not (is_at_or_above a.0 r.0)) b.regions);
      windows = filter (λ w. not (is_at_or_above a.0 (w.0).path)) b.windows;
    }

    inside_source : source inside q ≡ source b q
    inside_source =
        let there : is_some (region_part (map (region_put a) b.regions) q.path) ≡ is_some (region_part b.regions q.path) =
        sym (part_there (region_part (map (region_put a) b.regions) q.path)) ∙ (put_regions a b.regions q.path d h).there ∙ part_there (region_part b.regions q.path) in
        ap (λ t. cond t None (source_among b.windows b.registered q)) there

    low : is_at_or_above a.0 q.path ≡ false
    low = not_above a.0 q.path d h

    regions : region_part outside.regions q.path ≡ region_part b.regions q.path
    regions = region_part-put a.0 a.1 (filter (λ r. not (is_at_or_above a.0 r.0)) b.regions) q.path low ∙ region_part-filter a.0 b.regions q.path low

    windows : (g : Query) → g.path ≡ q.path → window_of outside.windows g ≡ window_of b.windows g
    windows g path = window_of-filter (λ f. not (is_at_or_above a.0 f.path)) b.windows g (ap (λ p. not (is_at_or_above a.0 p)) path ∙ ap not low)

    outside_filtered : AreFiltered outside.windows
    outside_filtered = All-filter (λ (w : Query × Window). not (is_at_or_above a.0 (w.0).path)) (λ (w : Query × Window). is_filtered w.0 ≡ true) b.windows filtered

    outside_source : source outside q ≡ source b q
    outside_source = λ i. cond (is_some (regions i)) None (find (λ g. agreeing q outside.windows b.windows outside_filtered filtered (λ g f path. ap is_some (windows g path)) g i) b.registered)

-- a push below a window's path puts into it
put_window : (f : Query) (ws : List (Query × Window)) (q : Query) (rest : Path) (u : PathTree) (d : Path) → ((query_eq q f ≡ true) → AreApart rest d)
    → ((vs : List (Query × Window)) → window_of (windows_beside f rest vs) q ≡ window_of vs q)
    → AlikeAt d (window_base (window_of (windows_pushed f rest u ws) q)) (window_base (window_of ws q))
put_window f ws q rest u d h clear =
    subst (λ z. AlikeAt d (window_base z) (window_base (window_of ws q))) (sym (clear (option_map_or (λ w. map_of.put query_cmp f w ws) (window_pushed rest u (window_of ws f)) ws))) (at (query_eq q f) refl)
  where
    after : Option Window → Option Window
    after o = window_of (option_map_or (λ w. map_of.put query_cmp f w ws) o ws) q

    other : query_eq q f ≡ false → (o : Option Window) → after o ≡ window_of ws q
    other e None = refl
    other e (Some w) = window_of-put f w ws q ∙ ap (λ b. cond b (Some w) (window_of ws q)) e

    own : query_eq q f ≡ true → (rest : Path) → AreApart rest d → (o : Option Window) → o ≡ window_of ws f → AlikeAt d (window_base (after (window_pushed rest u o))) (window_base (window_of ws q))
    own e [] x o g = absurd (true≢false (ap is_some x.down))
    own e (j ∷ r) x None g = alike_same d _ _ refl
    own e (j ∷ r) x (Some w) g =
        let new : Window = record w { children = put w.children (j ∷ r) u } in
        let now : after (Some new) ≡ Some new = window_of-put f new ws q ∙ ap (λ b. cond b (Some new) (window_of ws q)) e in
        let old : window_of ws q ≡ Some w = ap (window_of ws) ((query_eq_tells q f).0 e) ∙ sym g in
        subst (λ z. z) (λ i. AlikeAt d (window_base (sym now i)) (window_base (sym old i)))
        (record { there = refl; full = refl; part = sub-put_other w.children (j ∷ r) d u x.down x.up })

    at : (b : Bool) → query_eq q f ≡ b → AlikeAt d (window_base (after (window_pushed rest u (window_of ws f)))) (window_base (window_of ws q))
    at false e = alike_same d _ _ (ap window_base (other e (window_pushed rest u (window_of ws f))))
    at true e = own e rest (h e) (window_of ws f) refl

filtered_leaves : (b : Brought) (f : Query) (a : Assignment) (rest : Path) (q : Query) (d : Path) → is_filtered f ≡ true → AreFiltered b.windows → AreFiltered (windows_pushed f rest a.1 b.windows)
    → strip f.path a.0 ≡ Some rest → AreApart a.0 (q.path ++ d) → LeavesBase d q (record b { windows = windows_pushed f rest a.1 b.windows }) b
filtered_leaves b f a rest q d own filtered left e h = record {
  same = kept_source;
  alike = alike_by d q new b (alike_same d _ _ refl) kept_source (λ g s.
      let p = passes b q g s in
      let x = is_at b q g filtered (both_second (does_supply g q) _ p) (both_first (does_supply g q) _ p) in
      window g x.path);
}
  where
    new : Brought
    new = record b { windows = windows_pushed f rest a.1 b.windows }

    -- where the form is of q's path, what is put is apart from what is looked at
    apart_at : f.path ≡ q.path → AreApart rest d
    apart_at there =
        let at : a.0 ≡ q.path ++ rest = strip-some f.path a.0 rest e ∙ ap (λ z. z ++ rest) there in
        apart_under q.path rest d (subst (λ z. AreApart z (q.path ++ d)) at h)

    clear_by : (r : Path) → rest ≡ r → (g : Query) → g.path ≡ q.path → (vs : List (Query × Window)) → window_of (windows_beside f r vs) g ≡ window_of vs g
    clear_by (k ∷ r) t g path vs = refl
    clear_by [] t g path vs = beside_found g f [] vs (or_true (query_eq g f) (not (does_supply f g)) (ap not (never (does_supply f g) (λ s.
        absurd (true≢false (ap is_some (subst (λ r. AreApart r d) t (apart_at (supplied_has_path f g own s ∙ path))).down))))))

    window : (g : Query) → g.path ≡ q.path → AlikeAt d (window_base (window_of new.windows g)) (window_base (window_of b.windows g))
    window g path = put_window f b.windows g rest a.1 d (λ s. apart_at (sym (ap (λ (x : Query). x.path) ((query_eq_tells g f).0 s)) ∙ path)) (clear_by rest refl g path)

    kept_source : source new q ≡ source b q
    kept_source = λ i. cond (is_some (region_part b.regions q.path)) None (find (λ g. agreeing q new.windows b.windows left filtered (λ g t path.
        sym (window_there (window_of new.windows g)) ∙ (window g path).there ∙ window_there (window_of b.windows g)) g i) b.registered)

leaves_same : (d : Path) (q : Query) (b : Brought) → LeavesBase d q b b
leaves_same d q b = record { same = refl; alike = alike_same d _ _ refl }

push_leaves : (f : Query) (b : Brought) (a : Assignment) (q : Query) (d : Path) → IsCanonical b → AreApart a.0 (q.path ++ d) → LeavesBase d q (push f b a) b
push_leaves f b a q d c h = at (is_filtered f) refl
  where
    pushed : Bool → Brought
    pushed t = cond t (option_map_or (λ rest. record b { windows = windows_pushed f rest a.1 b.windows }) (strip f.path a.0) b) (push_plain b a)

    windowed : is_filtered f ≡ true → (o : Option Path) → strip f.path a.0 ≡ o → LeavesBase d q (option_map_or (λ rest. record b { windows = windows_pushed f rest a.1 b.windows }) o b) b
    windowed t None e = leaves_same d q b
    windowed t (Some rest) e =
        let is : (push f b a).windows ≡ windows_pushed f rest a.1 b.windows =
        (λ i. (pushed (t i)).windows) ∙ (λ i. (option_map_or (λ r. record b { windows = windows_pushed f r a.1 b.windows }) (e i) b).windows) in
        filtered_leaves b f a rest q d t c.filtered (subst AreFiltered is (push_stays f b a c).filtered) e h

    at : (t : Bool) → is_filtered f ≡ t → LeavesBase d q (push f b a) b
    at false e = subst (λ t. LeavesBase d q (pushed t) b) (sym e) (plain_leaves b a q d c.filtered h)
    at true e = subst (λ t. LeavesBase d q (pushed t) b) (sym e) (windowed e (strip f.path a.0) refl)

-- pushes that miss what is looked at
module _ (f : Query) (q : Query) (d : Path) where
  pushes_leave : (entries : List Assignment) (b : Brought) → IsCanonical b → list_any (λ (a : Assignment). do_overlap a.0 (q.path ++ d)) entries ≡ false → LeavesBase d q (fold (push f) b entries) b
  pushes_leave [] b c h = leaves_same d q b
  pushes_leave (a ∷ entries) b c h =
      let rest = pushes_leave entries (push f b a) (push_stays f b a c) (or_false_right (do_overlap a.0 (q.path ++ d)) _ h) in
      let one = push_leaves f b a q d c (apart_of a.0 (q.path ++ d) (or_false_left (do_overlap a.0 (q.path ++ d)) (list_any (λ (x : Assignment). do_overlap x.0 (q.path ++ d)) entries) h)) in
      record { same = rest.same ∙ one.same; alike = alike_trans d (base (fold (push f) (push f b a) entries) q) (base (push f b a) q) (base b q) rest.alike one.alike }

  pub pushes_alike : (entries : List Assignment) (b : Brought) → IsCanonical b → list_any (λ (a : Assignment). do_overlap a.0 (q.path ++ d)) entries ≡ false → AlikeAt d (base (fold (push f) b entries) q) (base b q)
  pushes_alike entries b c h = (pushes_leave entries b c h).alike

  pub pushes_source : (entries : List Assignment) (b : Brought) → IsCanonical b → list_any (λ (a : Assignment). do_overlap a.0 (q.path ++ d)) entries ≡ false → source (fold (push f) b entries) q ≡ source b q
  pushes_source entries b c h = (pushes_leave entries b c h).same

pub pushes_canonical : (f : Query) (entries : List Assignment) (b : Brought) → IsCanonical b → IsCanonical (fold (push f) b entries)
pushes_canonical f [] b c = c
pushes_canonical f (a ∷ entries) b c = pushes_canonical f entries (push f b a) (push_stays f b a c)
