-- What a change of cover hands on: to whom, and that it is found from what is held.
use Rattle.std.proofs.Common.{◌≡◌, Bool, true, false, cond, not, ◌&&◌, ◌||◌, get_or, List, [], ◌++◌}
use Rattle.std.proofs.Common.{refl, sym, ap, ◌∙◌, None, is_some}
use mathlib.Core.Bool.{true≢false}
use Rattle.std.specs.List.{filter, list_any, All, Contains}
use Rattle.std.specs.Option.{option_or}
use Rattle.std.specs.FinMap as map_of
use Rattle.std.proofs.lemmas.List.Elements.{All-contains}
use Rattle.std.proofs.lemmas.List.Folds.{Any-from_list_any}
use Rattle.rt_tree.specs.PathTree.{Path, PathTree}
use Rattle.rt_tree.specs.TreeEq.{both_first, both_second, both}
use Rattle.rt_query.specs.Queries.{Query, is_filtered}
use Rattle.rt_query.specs.Supply.{does_supply}
use Rattle.rt_query.specs.Needed.{needed}
use Rattle.rt_query.specs.laws.SupplyLaws.{same_tests, supplied_has_path}
use Rattle.rt_query.specs.QueryOrder.{query_cmp}
use Rattle.rt_cache.specs.Brought.{Window, Brought, region_part, base, knows}
use Rattle.rt_cache.specs.Recover.{reaches, regions_kept, in_query_order, is_among, cut, is_lost, heirs, window_left, handed_on}
use Rattle.rt_cache.specs.declared.regions.Region.{Region}
use Rattle.rt_cache.specs.declared.run.BroughtCall.TheVariants.{Recover}
use Rattle.rt_cache.specs.declared.windows.Window as inside
use Rattle.rt_cache.specs.inside.Held.{pairs_of, entries_of, held}
use Rattle.rt_cache.specs.inside.Sources.{AreBeside, HaveForms}
use Rattle.rt_cache.specs.inside.Handing.{window_queries, is_alike, is_loser, AreThose}
use Rattle.rt_cache.proofs.Among.{any_with, among, of_among, any_passing, any_agreeing, needed_alike}
use Rattle.rt_cache.proofs.ByPaths.{any_map}
use Rattle.rt_cache.proofs.Cuts.{any_above, part_any}
use Rattle.rt_cache.proofs.Heirs.{left_forms}
use Rattle.rt_cache.proofs.Keeping.{find-for_each, find-both}
use Rattle.rt_cache.proofs.Listing.{Listed, listed_is, listed_sorted, find-listed}
use Rattle.rt_cache.proofs.RunLaws.{step_known}
use Rattle.rt_cache.proofs.Sources.{any_kept, knows_by}

-- ---- what is left

-- a region that is there then was there
still_held : (kept : List Query) (b : Brought) (p : Path) → is_some (region_part (regions_kept kept b.regions) p) ≡ true → is_some (region_part b.regions p) ≡ true
still_held kept b p e =
    part_any p b.regions
    ∙ both_first (any_above p b.regions) (reaches kept p) (sym (step_known p b (Recover [] kept)) ∙ sym (part_any p (regions_kept kept b.regions)) ∙ e)

-- where a region holds the path, no window's form supplies a query there
pub none_beside : (q : Query) (regions : List (Path × PathTree)) (ws : Listed) → AreBeside regions ws → All (λ (w : Query × Window). is_filtered w.0 ≡ true) ws
    → is_some (region_part regions q.path) ≡ true → list_any (λ (w : Query × Window). does_supply w.0 q) ws ≡ false
none_beside q regions ws beside filtered held = at (list_any (λ (w : Query × Window). does_supply w.0 q) ws) refl
  where
    at : (b : Bool) → list_any (λ (w : Query × Window). does_supply w.0 q) ws ≡ b → list_any (λ (w : Query × Window). does_supply w.0 q) ws ≡ false
    at false e = e
    at true e =
        let a = Any-from_list_any (λ (w : Query × Window). does_supply w.0 q) ws e in
        let w : Query × Window = a.1 in
        let m : Contains ws w = (a.0, a.2, a.3) in
        let path : (w.0).path ≡ q.path = supplied_has_path w.0 q (All-contains (λ (x : Query × Window). is_filtered x.0 ≡ true) ws w filtered m) a.4 in
        let clear : any_above (w.0).path regions ≡ false = All-contains (λ (x : Query × Window). any_above (x.0).path regions ≡ false) ws w beside m in
        absurd (true≢false (sym held ∙ part_any q.path regions ∙ ap (λ p. any_above p regions) (sym path) ∙ clear))

-- what is lost, by the regions and the windows: k and n, whether a region holds the path before and then; a and s, whether a window's form supplies it
lost_by : (f k n a s : Bool) → (n ≡ true → k ≡ true) → (k ≡ true → a ≡ false) → (s ≡ true → a ≡ true)
    → (f && (k || a) && not (n || s)) ≡ (f && (k && not n || a && not s))
lost_by false k n a s up beside less = refl
lost_by true true n true s up beside less = absurd (true≢false (beside refl))
lost_by true true n false true up beside less = absurd (true≢false (sym (less refl)))
lost_by true true true false false up beside less = refl
lost_by true true false false false up beside less = refl
lost_by true false true a s up beside less = absurd (true≢false (sym (up refl)))
lost_by true false false true true up beside less = refl
lost_by true false false true false up beside less = refl
lost_by true false false false true up beside less = refl
lost_by true false false false false up beside less = refl

module _ (were registered kept forms those : List Query) (among_those : Bool) (rs : List Region) (ws : List inside.Window)
    (h : HaveForms were (in_query_order (entries_of ws))) (beside : AreBeside (pairs_of rs) (in_query_order (entries_of ws)))
    (t : AreThose registered forms those among_those (window_queries ws)) where
  abbrev old : Brought
  old = held were rs ws

  abbrev left : Brought
  left = cut registered kept old

  abbrev stays : Query → Bool
  stays q = is_alike (is_among those q) among_those

  abbrev staying : List Query
  staying = filter stays (window_queries ws)

  windows_supply : (q : Query) → list_any (λ (w : Query × Window). does_supply w.0 q) old.windows ≡ list_any (λ f. does_supply f q) (window_queries ws)
  windows_supply q = any_kept (λ f. does_supply f q) ws ∙ any_map (λ (w : inside.Window). w.query) (λ f. does_supply f q) ws

  left_supply : (q : Query) → list_any (λ (w : Query × Window). does_supply w.0 q) left.windows ≡ list_any (λ f. does_supply f q) staying
  left_supply q =
      any_passing (λ (w : Query × Window). does_supply w.0 q) (λ (w : Query × Window). is_among registered w.0) old.windows
      ∙ any_kept (λ f. does_supply f q && is_among registered f) ws
      ∙ any_map (λ (w : inside.Window). w.query) (λ f. does_supply f q && is_among registered f) ws
      ∙ any_agreeing (λ f. does_supply f q && is_among registered f) (λ f. does_supply f q && stays f) (window_queries ws) (λ k d lt. ap (λ b. does_supply (get_or (window_queries ws) k d) q && b) (t.windows k d lt))
      ∙ sym (any_passing (λ f. does_supply f q) stays (window_queries ws))

  fewer : (q : Query) → list_any (λ f. does_supply f q) staying ≡ true → list_any (λ f. does_supply f q) (window_queries ws) ≡ true
  fewer q e =
      let a = Any-from_list_any (λ f. does_supply f q && stays f) (window_queries ws) (sym (any_passing (λ f. does_supply f q) stays (window_queries ws)) ∙ e) in
      any_with (λ f. does_supply f q) (window_queries ws) a.1 (a.0, a.2, a.3) (both_first (does_supply a.1 q) (stays a.1) a.4)

  -- what is lost is told by the regions and by the windows' queries
  lost_tells : (q : Query) → is_lost old left q ≡ is_loser kept (pairs_of rs) (window_queries ws) staying q
  lost_tells q =
      (λ i. is_filtered q && known i && not (still i))
      ∙ lost_by (is_filtered q) (is_some (region_part (pairs_of rs) q.path)) (is_some (region_part (regions_kept kept (pairs_of rs)) q.path))
      (list_any (λ f. does_supply f q) (window_queries ws)) (list_any (λ f. does_supply f q) staying)
      (still_held kept old q.path)
      (λ e. sym (windows_supply q) ∙ none_beside q (pairs_of rs) old.windows beside h.filtered e)
      (fewer q)
    where
      known : knows old q ≡ (is_some (region_part (pairs_of rs) q.path) || list_any (λ f. does_supply f q) (window_queries ws))
      known = knows_by old q h.registered ∙ ap (λ b. is_some (region_part (pairs_of rs) q.path) || b) (windows_supply q)

      still : knows left q ≡ (is_some (region_part (regions_kept kept (pairs_of rs)) q.path) || list_any (λ f. does_supply f q) staying)
      still = knows_by left q (left_forms registered kept old) ∙ ap (λ b. is_some (region_part (regions_kept kept (pairs_of rs)) q.path) || b) (left_supply q)

  -- those that lose what they had are just the registered ones that do
  losers_are : (p : Query → Bool) → list_any (λ q. p q && (stays q && is_loser kept (pairs_of rs) (window_queries ws) staying q)) forms ≡ list_any p (filter (is_lost old left) registered)
  losers_are p =
      same_tests (list_any (λ q. p q && (stays q && is_loser kept (pairs_of rs) (window_queries ws) staying q)) forms) (list_any (λ q. p q && is_lost old left q) registered) there back
      ∙ sym (any_passing p (is_lost old left) registered)
    where
      filtered_of : (q : Query) → is_lost old left q ≡ true → is_filtered q ≡ true
      filtered_of q e = both_first (is_filtered q) (knows old q) (both_first (is_filtered q && knows old q) (not (knows left q)) e)

      there : list_any (λ q. p q && (stays q && is_loser kept (pairs_of rs) (window_queries ws) staying q)) forms ≡ true → list_any (λ q. p q && is_lost old left q) registered ≡ true
      there e =
          let a = Any-from_list_any (λ q. p q && (stays q && is_loser kept (pairs_of rs) (window_queries ws) staying q)) forms e in
          let q : Query = a.1 in
          let rest : (stays q && is_loser kept (pairs_of rs) (window_queries ws) staying q) ≡ true = both_second (p q) _ a.4 in
          let lost : is_lost old left q ≡ true = lost_tells q ∙ both_second (stays q) _ rest in
          let is : is_among registered q ≡ true = t.forms q (filtered_of q lost) ∙ both _ _ (among forms q (a.0, a.2, a.3)) (both_first (stays q) _ rest) in
          any_with (λ x. p x && is_lost old left x) registered q (of_among registered q is) (both _ _ (both_first (p q) _ a.4) lost)

      back : list_any (λ q. p q && is_lost old left q) registered ≡ true → list_any (λ q. p q && (stays q && is_loser kept (pairs_of rs) (window_queries ws) staying q)) forms ≡ true
      back e =
          let a = Any-from_list_any (λ q. p q && is_lost old left q) registered e in
          let q : Query = a.1 in
          let lost : is_lost old left q ≡ true = both_second (p q) _ a.4 in
          let is : (is_among forms q && stays q) ≡ true = sym (t.forms q (filtered_of q lost)) ∙ among registered q (a.0, a.2, a.3) in
          any_with (λ x. p x && (stays x && is_loser kept (pairs_of rs) (window_queries ws) staying x)) forms q (of_among forms q (both_first (is_among forms q) _ is))
          (both _ _ (both_first (p q) _ a.4) (both _ _ (both_second (is_among forms q) _ is) (sym (lost_tells q) ∙ lost)))

  -- so are those of them that no other supplies
  pub heirs_are : (losing : List Query) → ((p : Query → Bool) → list_any p losing ≡ list_any (λ q. p q && (stays q && is_loser kept (pairs_of rs) (window_queries ws) staying q)) forms)
      → (x : Query) → is_among (needed losing) x ≡ is_among (heirs registered old left) x
  heirs_are losing same x = needed_alike losing (filter (is_lost old left) registered) (λ p. same p ∙ losers_are p) x

-- the same forms are handed the same windows
pub handed_alike : (b : Brought) (fs gs : List Query) → ((x : Query) → is_among fs x ≡ is_among gs x) → (x : Query) → map_of.find query_cmp x (handed_on b fs) ≡ map_of.find query_cmp x (handed_on b gs)
handed_alike b fs gs same x =
    find-for_each (λ q. window_left (base b q)) x fs
    ∙ ap (λ t. cond t (window_left (base b x)) None) (same x)
    ∙ sym (find-for_each (λ q. window_left (base b q)) x gs)

-- windows that are found alike, in front of those that are left
pub handed_listed : (handed hs left : Listed) (vs : List inside.Window) → ((x : Query) → map_of.find query_cmp x handed ≡ map_of.find query_cmp x hs)
    → in_query_order (entries_of vs) ≡ left → in_query_order (handed ++ entries_of vs) ≡ in_query_order (hs ++ left)
handed_listed handed hs left vs same e =
    listed_is (handed ++ entries_of vs) (in_query_order (hs ++ left)) (listed_sorted (hs ++ left))
    (λ x. find-both x handed (entries_of vs)
    ∙ (λ i. option_or (same x i) ((sym (find-listed x (entries_of vs)) ∙ ap (map_of.find query_cmp x) e) i))
    ∙ sym (find-listed x (hs ++ left) ∙ find-both x hs left))

-- ---- who stays

alike_true : (b : Bool) → is_alike b true ≡ b
alike_true true = refl
alike_true false = refl

alike_false : (b : Bool) → is_alike b false ≡ not b
alike_false true = refl
alike_false false = refl

-- the registered forms are those among themselves
pub those_registered : (registered those windows : List Query) → ((x : Query) → is_among those x ≡ is_among registered x) → AreThose registered registered those true windows
those_registered registered those windows same = record {
  forms = λ q f. again (is_among registered q) ∙ ap (λ b. is_among registered q && b) (sym (alike_true (is_among those q) ∙ same q));
  windows = λ k d lt. sym (alike_true (is_among those (get_or windows k d)) ∙ same (get_or windows k d));
}
  where
    again : (b : Bool) → b ≡ (b && b)
    again true = refl
    again false = refl

-- where forms end, the filtered ones are registered that were, and did not end
pub those_left : (registered were ended those windows : List Query) → ((x : Query) → is_among those x ≡ is_among ended x)
    → All (λ f. is_filtered f ≡ true → is_among registered f ≡ not (is_among ended f)) were → All (Contains were) registered
    → All (Contains were) windows → All (λ q. is_filtered q ≡ true) windows → AreThose registered were those false windows
those_left registered were ended those windows same h less there filtered = record {
  forms = λ q f. at q f (is_among were q) refl;
  windows = λ k d lt. one (get_or windows k d) (there k d lt) (filtered k d lt);
}
  where
    one : (q : Query) → Contains were q → is_filtered q ≡ true → is_among registered q ≡ is_alike (is_among those q) false
    one q m f = All-contains (λ x. is_filtered x ≡ true → is_among registered x ≡ not (is_among ended x)) were q h m f ∙ sym (alike_false (is_among those q) ∙ ap not (same q))

    at : (q : Query) → is_filtered q ≡ true → (b : Bool) → is_among were q ≡ b → is_among registered q ≡ (is_among were q && is_alike (is_among those q) false)
    at q f true e = one q (of_among were q e) f ∙ ap (λ b. b && is_alike (is_among those q) false) (sym e)
    at q f false e =
        none (is_among registered q) refl ∙ ap (λ b. b && is_alike (is_among those q) false) (sym e)
      where
        none : (b : Bool) → is_among registered q ≡ b → is_among registered q ≡ false
        none false t = t
        none true t = absurd (true≢false (sym (among were q (All-contains (Contains were) registered q less (of_among registered q t))) ∙ e))
