-- A query that is being made.
use Rattle.std.specs.Prelude.{Option, None}
use Rattle.std.specs.Option.{unwrap_or}
use Rattle.rt_tree.specs.PathTree.{Path}
use Rattle.rt_order.specs.declared.index.Index.{Index}
use Rattle.rt_order.specs.declared.cut.Range.{Range}
use Rattle.rt_query.specs.declared.query.Limit.{Limit}
use Rattle.rt_query.specs.Queries.{Query, IsQuery}

-- a path; an order, if one is named; a range and a limit
pub record Draft : Type 0 where
  pub path : Path
  pub index : Option Index
  pub range : Range
  pub limit : Option Limit

-- before any call
abbrev pub new_draft : Path → Draft
new_draft p = record {
  path = p;
  index = None;
  range = record { lower = None; upper = None };
  limit = None;
}

-- the query; in key order, where no order is named
abbrev pub finished : Draft → Query
finished d = record {
  path = d.path;
  index = unwrap_or d.index Index.Key;
  range = d.range;
  limit =
      d.limit;
}

-- what holds of each draft: what holds of its query
abbrev pub IsDraft : Draft → Type 0
IsDraft d = IsQuery (finished d)
