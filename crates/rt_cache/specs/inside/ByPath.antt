-- What has a query, in the order of the paths, or of the queries.
use Rattle.std.specs.Prelude.{◌≡◌, Bool, false, ◌&&◌, not, List}
use Rattle.std.specs.List.{list_any, All}
use Rattle.std.specs.declared.cmp.Ordering.{Ordering}
use Rattle.std.specs.List.Sorted.{IsSorted}
use Rattle.rt_tree.specs.PathTree.{path_cmp}
use Rattle.rt_query.specs.Queries.{Query}
use Rattle.rt_query.specs.QueryEq.{query_eq}
use Rattle.rt_query.specs.QueryOrder.{query_cmp}
use Rattle.rt_query.specs.Supply.{does_supply}
use Rattle.rt_cache.specs.declared.windows.Window.{Window}

-- two elements by the paths of their queries
abbrev pub by_query : {X : Type 0} → (X → Query) → X → X → Ordering
by_query query x y = path_cmp (query x).path (query y).path

-- none stands before one in front of it
abbrev pub AreByPath : {X : Type 0} → (X → Query) → List X → Type 0
AreByPath query xs = IsSorted (by_query query) xs

-- two elements by their queries
abbrev pub by_whole : {X : Type 0} → (X → Query) → X → X → Ordering
by_whole query x y = query_cmp (query x) (query y)

-- none stands before one in front of it: so they stand by their paths too
abbrev pub AreByQuery : {X : Type 0} → (X → Query) → List X → Type 0
AreByQuery query xs = IsSorted (by_whole query) xs

-- whether a query is another one, and supplies this one
abbrev pub is_other_supplier : Query → Query → Bool
is_other_supplier f q = not (query_eq f q) && does_supply f q

-- none is supplied by another one of them
abbrev pub AreApart : {X : Type 0} → (X → Query) → List X → Type 0
AreApart query xs = All (λ x. list_any (λ y. is_other_supplier (query y) (query x)) xs ≡ false) xs

-- the query of a window
abbrev pub query_of : Window → Query
query_of w = w.query
