-- The order of queries: by path, by what the children are ordered by, by limit, and by where the range begins and ends.
use Rattle.std.specs.Prelude.{ℕ, [], None}
use Rattle.std.specs.declared.cmp.Ordering.{Ordering}
use Rattle.std.specs.Ordering.{ordering_then, nat_cmp, flip_args}
use Rattle.std.specs.Option.{option_cmp}
use Rattle.rt_tree.specs.PathTree.{Path, path_cmp}
use Rattle.rt_order.specs.declared.index.Index.{Index}
use Rattle.rt_order.specs.declared.index.Index.TheVariants.{Key, Child, Value}
use Rattle.rt_order.specs.declared.cut.Range.{Range}
use Rattle.rt_order.specs.CutOrder.{cut_cmp}
use Rattle.rt_query.specs.declared.query.Limit.{Limit}
use Rattle.rt_query.specs.declared.query.Limit.TheVariants.{First, Last}
use Rattle.rt_query.specs.Queries.{Query, most_rows}

-- by keys, then by children, then by values
abbrev pub index_rank : Index → ℕ
index_rank Key = 0
index_rank (Child p) = 1
index_rank Value = 2

-- the path below each child, where there is one
abbrev pub index_path : Index → Path
index_path Key = []
index_path (Child p) = p
index_path Value = []

abbrev pub index_cmp : Index → Index → Ordering
index_cmp i j = ordering_then (nat_cmp (index_rank i) (index_rank j)) (path_cmp (index_path i) (index_path j))

-- the first rows, then the last
abbrev pub limit_rank : Limit → ℕ
limit_rank (First n) = 0
limit_rank (Last n) = 1

abbrev pub limit_cmp : Limit → Limit → Ordering
limit_cmp l m = ordering_then (nat_cmp (limit_rank l) (limit_rank m)) (nat_cmp (most_rows l) (most_rows m))

-- by the lower cut, and of those with one the widest first: what is absent bounds nothing, and comes first
abbrev pub range_cmp : Range → Range → Ordering
range_cmp r s = ordering_then (option_cmp cut_cmp r.lower s.lower) (option_cmp (flip_args cut_cmp) r.upper s.upper)

-- so the queries of a path and an order that may take in others stand together: those without a limit
abbrev pub query_cmp : Query → Query → Ordering
query_cmp q r = ordering_then (path_cmp q.path r.path) (ordering_then (index_cmp q.index r.index)
    (ordering_then (option_cmp limit_cmp q.limit r.limit) (range_cmp q.range r.range)))

-- the query without its limit
abbrev pub unlimited : Query → Query
unlimited q = record { path = q.path; index = q.index; range = q.range; limit = None }
