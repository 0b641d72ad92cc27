-- A change of cover is a change in the sense of Moves: what it leaves, and to whom it hands windows on.
use Rattle.std.proofs.Common.{◌≡◌, Bool, true, false, cond, not, ◌&&◌, List, ◌++◌, refl, sym, ap, ◌∙◌, Option, Some, None, is_some}
use mathlib.Core.Bool.{true≢false}
use Rattle.std.specs.List.{filter, list_any, All, Any, Contains}
use Rattle.std.specs.Option.{option_or}
use Rattle.std.specs.FinMap.Entries.{find-where_key}
use Rattle.std.proofs.lemmas.List.Elements.{All-contains, Contains-get_or}
use Rattle.rt_tree.specs.PathTree.{Path, PathTree}
use Rattle.rt_tree.specs.TreeEq.{both}
use Rattle.rt_query.specs.Queries.{Query, is_filtered}
use Rattle.rt_query.specs.QueryEq.{query_eq}
use Rattle.rt_query.specs.Supply.{does_supply}
use Rattle.rt_query.specs.Needed.{Supplies, needed}
use Rattle.rt_query.specs.laws.NeededLaws.{Contains-filter, Contains-from_filter, passes-from_filter, needed_fewest, IsForm}
use Rattle.rt_query.specs.laws.QueryEq.{query_eq_tells}
use Rattle.rt_query.specs.laws.SupplyLaws.{form_filtered}
use Rattle.rt_query.specs.QueryOrder.{query_cmp}
use Rattle.rt_cache.specs.Brought.{Window, Brought, Base, region_part, window_of, base, knows}
use Rattle.rt_cache.specs.Canonical.{IsCanonical, Belongs}
use Rattle.rt_cache.specs.Recover.{reaches, regions_kept, is_among, cut, is_lost, heirs, window_left, handed_on, recover}
use Rattle.rt_cache.proofs.Among.{any_with, among, of_among}
use Rattle.rt_cache.proofs.Cuts.{any_above, part_any}
use Rattle.rt_cache.proofs.Heirs.{heir_is}
use Rattle.rt_cache.proofs.Keeping.{find-both, find-for_each}
use Rattle.rt_cache.proofs.Listing.{find-listed}
use Rattle.rt_cache.proofs.Moves.{IsBrought, IsChange}
use Rattle.rt_query.specs.laws.QueryOrder.{exact_queries}
use Rattle.rt_cache.proofs.RecoverLaws.{left_registered}
use Rattle.rt_cache.proofs.RunLaws.{never}
use Rattle.rt_cache.proofs.Sources.{found_all, apart_found}

-- what always holds, by the windows that are found
pub is_brought : (b : Brought) → IsCanonical b → Belongs b → IsBrought b
is_brought b c h = record {
  forms = λ f s. (found_all (Contains b.registered) f b.windows h.windows s, found_all (λ x. is_filtered x ≡ true) f b.windows c.filtered s);
  apart = λ f g s t e. apart_found b.windows h.apart f g s t e;
  outside = λ f s. none (region_part b.regions f.path) (part_any f.path b.regions ∙ found_all (λ x. any_above x.path b.regions ≡ false) f b.windows h.beside s);
}
  where
    none : (o : Option PathTree) → is_some o ≡ false → o ≡ None
    none None e = refl
    none (Some t) e = absurd (true≢false e)

module _ (registered kept : List Query) (b : Brought) where
  abbrev left : Brought
  left = cut registered kept b

  abbrev these : List Query
  these = heirs registered b left

  found_left : (f : Query) → Contains registered f → window_of left.windows f ≡ window_of b.windows f
  found_left f m =
      find-where_key query_cmp (is_among registered) f (λ x t. ap (is_among registered) (sym (exact_queries f x t))) b.windows
      ∙ ap (λ t. cond t (window_of b.windows f) None) (among registered f m)

  found_new : (f : Query) → window_of (recover registered kept b).windows f ≡ option_or (cond (is_among these f) (window_left (base b f)) None) (window_of left.windows f)
  found_new f =
      find-listed f (handed_on b these ++ left.windows) ∙ find-both f (handed_on b these) left.windows
      ∙ ap (λ o. option_or o (window_of left.windows f)) (find-for_each (λ x. window_left (base b x)) f these)

  -- a form that lost what it had is supplied by an heir
  above : (q : Query) → Contains registered q → is_lost b left q ≡ true → Any (λ h. Supplies h q) these
  above q m e =
      let lost : List Query = filter (is_lost b left) registered in
      let are : All IsForm lost = λ k d lt. own (Contains-get_or lost k d lt) in
      All-contains (λ r. Any (λ s. Supplies s r) (needed lost)) lost q ((needed_fewest lost are).supplying.each) (Contains-filter (is_lost b left) registered q m e)
    where
      own : {f : Query} → Contains (filter (is_lost b left) registered) f → IsForm f
      own {f = f} n = form_filtered f (filtered_of f (passes-from_filter (is_lost b left) registered f n))
        where
          filtered_of : (f : Query) → is_lost b left f ≡ true → is_filtered f ≡ true
          filtered_of f t = first (is_filtered f) (knows b f) (not (knows left f)) t
            where
              first : (x y z : Bool) → (x && y && z) ≡ true → x ≡ true
              first true y z t = refl
              first false y z t = absurd (true≢false (sym t))

  pub is_change : ((p : Path) → region_part (regions_kept kept b.regions) p ≡ cond (reaches kept p) (region_part b.regions p) None)
      → IsChange b left (recover registered kept b) (reaches kept) these
  is_change regions = record {
    same_forms = refl;
    regions = regions;
    same_regions = λ p. refl;
    stay = found_left;
    heir = λ f m. found_new f ∙ ap (λ t. option_or (cond t (window_left (base b f)) None) (window_of left.windows f)) (among these f m) ∙ first (base b f) (heir_is registered b left f m).knew (window_of left.windows f);
    other = λ f m e. found_new f ∙ ap (λ t. option_or (cond t (window_left (base b f)) None) (window_of left.windows f)) (turned f e);
    lost = λ h m. let x = heir_is registered b left h m in (x.filtered, x.knew, x.unknown);
    alone = λ g h m n s. by (query_eq g h) refl m n s;
    only = λ f s. found_all (Contains registered) f (recover registered kept b).windows (left_registered registered kept b) s;
    over = λ q m f k n. let x = above q m (λ i. f i && k i && not (n i)) in (x.1, (x.0, x.2, x.3), (heir_is registered b left x.1 (x.0, x.2, x.3)).registered, x.4);
  }
    where
      first : (o : Option Base) → is_some o ≡ true → (w : Option Window) → option_or (window_left o) w ≡ window_left o
      first None e w = absurd (true≢false (sym e))
      first (Some x) e w = refl

      turned : (f : Query) → list_any (query_eq f) these ≡ false → is_among these f ≡ false
      turned f e = never (is_among these f) (λ t. sym e ∙ any_with (query_eq f) these f (of_among these f t) ((query_eq_tells f f).1 refl))

      by : {g h : Query} (c : Bool) → query_eq g h ≡ c → Contains these g → Contains these h → Supplies g h → g ≡ h
      by {g = g} {h = h} true e m n s = (query_eq_tells g h).0 e
      by {g = g} {h = h} false e m n s =
          let x = heir_is registered b left h n in
          let lost = Contains-from_filter (λ f. not (list_any (λ y. not (query_eq y f) && does_supply y f) (filter (is_lost b left) registered))) (filter (is_lost b left) registered) g m in
          absurd (true≢false (sym (any_with (λ y. not (query_eq y h) && does_supply y h) (filter (is_lost b left) registered) g lost (both _ _ (ap not e) s)) ∙ x.alone))
