-- What always holds of what was brought: each region and each window stands once, in order, no region
-- is at or above another, nothing is deeper than trees are, and all belongs to registered forms.
use Rattle.std.specs.Prelude.{◌≡◌, ◌+◌, ◌≤◌, true, false, T, length}
use Rattle.std.specs.List.{All, AllPairs, Contains, list_any}
use Rattle.std.specs.FinMap as map_of
use Rattle.rt_tree.specs.PathTree.{Path, PathTree, path_cmp, levels}
use Rattle.rt_tree.specs.declared.limits.TheConstants.{MAX_LEVELS}
use Rattle.rt_tree.specs.Assignments.{is_at_or_above, have_overlap}
use Rattle.rt_query.specs.Queries.{Query, is_filtered}
use Rattle.rt_query.specs.Supply.{does_supply}
use Rattle.rt_query.specs.QueryOrder.{query_cmp}
use Rattle.rt_cache.specs.Brought.{Window, Brought}
use Rattle.rt_cache.specs.Recover.{reaches}

-- regions in the order of their paths, none at or above another; windows of filtered queries, in
-- the order of queries
pub record IsCanonical (b : Brought) : Type 0 where
  pub regions : T (map_of.is_sorted path_cmp b.regions)
  pub apart : have_overlap b.regions ≡ false
  pub windows : T (map_of.is_sorted query_cmp b.windows)
  pub filtered : All (λ (w : Query × Window). is_filtered w.0 ≡ true) b.windows

-- no leaf of a region or of a window stands under more than 32 keys
pub record FitsLevels (b : Brought) : Type 0 where
  pub regions : All (λ (r : Path × PathTree). length r.0 + levels r.1 ≤ MAX_LEVELS) b.regions
  pub windows : All (λ (w : Query × Window). length (w.0).path + levels (w.1).children ≤ MAX_LEVELS)
      b.windows

-- a registered plain form is at or above each region, each window is of a registered form, no region
-- is at or above a window's path, and of two windows neither form supplies the other
pub record Belongs (b : Brought) : Type 0 where
  pub regions : All (λ (r : Path × PathTree). reaches b.registered r.0 ≡ true) b.regions
  pub windows : All (λ (w : Query × Window). Contains b.registered w.0) b.windows
  pub beside : All (λ (w : Query × Window). list_any (λ r. is_at_or_above r.0 (w.0).path) b.regions
      ≡ false) b.windows
  pub apart : AllPairs (λ (v w : Query × Window). (does_supply v.0 w.0 ≡ false)
      × (does_supply w.0 v.0 ≡ false)) b.windows
