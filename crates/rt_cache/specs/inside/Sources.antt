-- Whose window is brought for a query, by what is found where windows are kept.
use Rattle.std.specs.Prelude.{◌≡◌, true, false, ◌&&◌, List, Option, is_some}
use Rattle.std.specs.List.{find, list_any, All, AllPairs, Contains}
use Rattle.std.specs.FinMap as map_of
use Rattle.rt_tree.specs.PathTree.{Path, PathTree}
use Rattle.rt_tree.specs.Assignments.{is_at_or_above}
use Rattle.rt_query.specs.Queries.{Query, is_filtered}
use Rattle.rt_query.specs.Supply.{does_supply}
use Rattle.rt_query.specs.QueryOrder.{query_cmp}
use Rattle.rt_cache.specs.Brought.{Window}

-- the first of the registered forms that supplies the query and has one of these windows
abbrev pub source_among : List (Query × Window) → List Query → Query → Option Query
source_among windows registered q =
    find (λ f. does_supply f q && is_some (map_of.find query_cmp f windows)) registered

-- no region is at or above a window's path
abbrev pub AreBeside : List (Path × PathTree) → List (Query × Window) → Type 0
AreBeside regions windows =
    All (λ (w : Query × Window). list_any (λ r. is_at_or_above r.0 (w.0).path) regions ≡ false) windows

-- of two windows neither form supplies the other
abbrev pub AreAlone : List (Query × Window) → Type 0
AreAlone windows = AllPairs (λ (v w : Query × Window). (does_supply v.0 w.0 ≡ false)
    × (does_supply w.0 v.0 ≡ false)) windows

-- the windows are of registered filtered forms, and of two of them neither form supplies the other
pub record HaveForms (forms : List Query) (windows : List (Query × Window)) : Type 0 where
  pub registered : All (λ (w : Query × Window). Contains forms w.0) windows
  pub filtered : All (λ (w : Query × Window). is_filtered w.0 ≡ true) windows
  pub apart : AreAlone windows
