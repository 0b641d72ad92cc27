-- A query.
use Rattle.std.specs.Prelude.{◌≡◌, ℕ, ◌≤◌, Bool, ◌||◌, Option, None, is_some, IfSome}
use Rattle.rt_tree.specs.PathTree.{Path}
use Rattle.rt_order.specs.declared.index.Index.{Index}
use Rattle.rt_order.specs.declared.cut.Mark.{Mark}
use Rattle.rt_order.specs.declared.cut.Range.{Range}
use Rattle.rt_query.specs.declared.query.Limit.{Limit}
use Rattle.rt_query.specs.declared.query.Limit.TheVariants.{First, Last}

-- a path, an order, a range and a limit
pub record Query : Type 0 where
  pub path : Path
  pub index : Index
  pub range : Range
  pub limit : Option Limit

-- the query of all children in key order
abbrev pub plain : Path → Query
plain p =
    record { path = p; index = Index.Key; range = record { lower = None; upper = None }; limit = None }

-- whether the query has a start, an end or a limit
abbrev pub is_filtered : Query → Bool
is_filtered q = is_some q.range.lower || is_some q.range.upper || is_some q.limit

-- how many rows a limit lets through
abbrev pub most_rows : Limit → ℕ
most_rows (First n) = n
most_rows (Last n) = n

-- whether each cut of a range has the value null
abbrev pub HasNullCuts : Range → Type 0
HasNullCuts range =
    IfSome range.lower (λ cut. cut.value ≡ Mark.Null)
    × IfSome range.upper (λ cut. cut.value ≡ Mark.Null)

-- what holds of each query: a limit is at least 1, and in key order, where all values are null, so
-- are those of the cuts
abbrev pub IsQuery : Query → Type 0
IsQuery q = IfSome q.limit (λ l. 1 ≤ most_rows l) × (q.index ≡ Index.Key → HasNullCuts q.range)
