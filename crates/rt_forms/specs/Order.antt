-- The order of the filtered forms of a path.
use Rattle.std.specs.Prelude.{ℕ, List}
use Rattle.std.specs.List.Sorted.{IsSorted}
use Rattle.std.specs.declared.cmp.Ordering.{Ordering}
use Rattle.rt_query.specs.Queries.{Query}
use Rattle.rt_query.specs.QueryOrder.{query_cmp}

-- two of them by their forms
abbrev pub by_form : Query × List ℕ → Query × List ℕ → Ordering
by_form e f = query_cmp e.0 f.0

-- none stands before one in front of it
abbrev pub AreInOrder : List (Query × List ℕ) → Type 0
AreInOrder es = IsSorted by_form es
