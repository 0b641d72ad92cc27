-- Where listeners end: what is named tells the same change of cover as all that is registered and kept.
use Rattle.std.proofs.Common.{◌≡◌, ℕ, zero, suc, ◌<◌, length, get_or, arith, Bool, true, false, cond, not, ◌&&◌, List, [], ◌∷◌, refl, sym, ap, ◌∙◌, Option, Some, None, is_some}
use Rattle.std.specs.Ordering.{eq_by_cmp}
use Rattle.std.specs.List.{filter, filter_map, flat_map, list_any, All, Contains}
use Rattle.std.specs.FinMap as map_of
use Rattle.std.specs.FinMap.Entries.{same_entries}
use Rattle.std.proofs.lemmas.List.Elements.{All-contains, All-head, All-tail}
use Rattle.std.proofs.lemmas.List.Folds.{Any-from_list_any, list_any_at}
use Rattle.rt_tree.specs.PathTree.{Path, PathTree, path_cmp, paths_total, exact_paths}
use Rattle.rt_tree.specs.Assignments.{is_at_or_above, have_overlap}
use Rattle.rt_tree.specs.TreeEq.{both_first, both_second, both}
use Rattle.rt_query.specs.Queries.{Query, is_filtered}
use Rattle.rt_query.specs.laws.SupplyLaws.{same_tests}
use Rattle.rt_cache.specs.Brought.{region_part}
use Rattle.rt_cache.specs.Recover.{reaches, parts_of, with_regions, is_under_lost, EndsForms}
use Rattle.rt_cache.specs.declared.regions.Region.{Region}
use Rattle.rt_cache.specs.inside.Cuts.{part_below, parts_left}
use Rattle.rt_cache.specs.inside.Held.{pair_of, pairs_of}
use Rattle.rt_cache.proofs.Among.{any_passing}
use Rattle.rt_cache.proofs.ByListens.{has_plain, neither, find-by_listens, find-by_regions, listed_apart}
use Rattle.rt_cache.proofs.Changes.{with_sorted}
use Rattle.rt_cache.proofs.Cuts.{any_above, part_any}
use Rattle.rt_cache.proofs.Parts.{same_path, find-with, or_none, all_parts_apart}
use Rattle.rt_cache.proofs.Stays.{Regions}

-- ---- regions

pub paired_all : (P : Path × PathTree → Type 0) (rs : List Region) → All P (pairs_of rs) → (k : ℕ) (d : Region) → k < length rs → P (pair_of (get_or rs k d))
paired_all P [] h k d lt = absurd (omega (arith, lt))
paired_all P (r ∷ rs) h zero d lt = All-head P (pair_of r) (pairs_of rs) h
paired_all P (r ∷ rs) h (suc k) d lt = paired_all P rs (All-tail P (pair_of r) (pairs_of rs) h) k d (omega (arith, lt))

module _ (ended begun were registered kept : List Query) (rs : Regions) (h : EndsForms ended begun were registered kept rs) where
  -- what begins is registered
  begun_registered : (q : Query) → Contains begun q → Contains registered q
  begun_registered q m = All-contains (Contains registered) kept q h.registered (All-contains (Contains kept) begun q h.begun_kept m)

  abbrev lost : Regions
  lost = filter (λ r. not (reaches kept r.0)) rs

  abbrev at_path : Path → Query → Bool
  at_path x k = not (is_filtered k) && eq_by_cmp path_cmp x k.path

  -- where a lost region holds the path, just the plain listens that begin have it
  plain_begins : (x : Path) → any_above x lost ≡ true → has_plain begun x ≡ has_plain kept x
  plain_begins x above = same_tests (has_plain begun x) (has_plain kept x) more fewer
    where
      more : has_plain begun x ≡ true → has_plain kept x ≡ true
      more e =
          let a = Any-from_list_any (at_path x) begun e in
          let m = All-contains (Contains kept) begun a.1 h.begun_kept (a.0, a.2, a.3) in
          list_any_at (at_path x) kept m.0 a.1 m.1 (ap (at_path x) m.2 ∙ a.4)

      fewer : has_plain kept x ≡ true → has_plain begun x ≡ true
      fewer e =
          let a = Any-from_list_any (at_path x) kept e in
          let k : Query = a.1 in
          let plain : not (is_filtered k) ≡ true = both_first (not (is_filtered k)) (eq_by_cmp path_cmp x k.path) a.4 in
          let path : x ≡ k.path = same_path x k.path (both_second (not (is_filtered k)) (eq_by_cmp path_cmp x k.path) a.4) in
          let held : list_any (λ (r : Path × PathTree). is_at_or_above r.0 k.path && not (reaches kept r.0)) rs ≡ true =
          sym (any_passing (λ (r : Path × PathTree). is_at_or_above r.0 k.path) (λ (r : Path × PathTree). not (reaches kept r.0)) rs) ∙ ap (λ p. any_above p lost) (sym path) ∙ above in
          let m = All-contains (λ k. is_under_lost kept rs k ≡ true → Contains begun k) kept k h.parts (a.0, a.2, a.3) (both _ _ plain held) in
          list_any_at (at_path x) begun m.0 k m.1 (ap (at_path x) m.2 ∙ a.4)

  begins_alike : (x : Path) → cond (has_plain begun x) (region_part lost x) None ≡ cond (has_plain kept x) (region_part lost x) None
  begins_alike x = at (region_part lost x) refl
    where
      at : (o : Option PathTree) → region_part lost x ≡ o → cond (has_plain begun x) (region_part lost x) None ≡ cond (has_plain kept x) (region_part lost x) None
      at None e = neither (has_plain begun x) (region_part lost x) e ∙ sym (neither (has_plain kept x) (region_part lost x) e)
      at (Some t) e = ap (λ b. cond b (region_part lost x) None) (plain_begins x (sym (part_any x lost) ∙ ap is_some e))

  -- the parts at the listens that begin are all that stay
  pub parts_begun : have_overlap rs ≡ false → with_regions [] (filter_map (part_below (filter (λ r. not (reaches kept r.0)) rs)) begun) ≡ parts_left kept rs
  parts_begun apart =
      let listed : Regions = filter_map (part_below lost) begun in
      let parts : Regions = flat_map (parts_of kept) lost in
      same_entries path_cmp paths_total exact_paths (with_regions [] listed) (with_regions [] parts) (with_sorted [] listed tt) (with_sorted [] parts tt)
      (λ x. find-with x [] listed (listed_apart begun lost h.begun_apart) ∙ or_none (map_of.find path_cmp x listed) ∙ find-by_listens x begun lost
      ∙ begins_alike x
      ∙ sym (find-with x [] parts (all_parts_apart kept rs h.apart apart) ∙ or_none (map_of.find path_cmp x parts) ∙ find-by_regions x kept lost))
