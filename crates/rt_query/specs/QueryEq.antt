-- The tests of equality of queries and of what they show.
use Rattle.std.specs.Prelude.{Bool, false, ◌&&◌, ◌==◌}
use Rattle.std.specs.Option.{option_eq}
use Rattle.std.specs.Cmp.Lexicographic.{pointwise}
use Rattle.rt_tree.specs.PathTree.{key_eq, path_eq}
use Rattle.rt_tree.specs.TreeEq.{leaf_eq, tree_eq}
use Rattle.rt_order.specs.Equality.{index_eq, range_eq}
use Rattle.rt_query.specs.declared.query.Limit.{Limit}
use Rattle.rt_query.specs.declared.query.Limit.TheVariants.{First, Last}
use Rattle.rt_query.specs.declared.row.Row.{Row}
use Rattle.rt_query.specs.Queries.{Query}
use Rattle.rt_query.specs.Select.{Shown}

-- whether two limits are equal
abbrev pub limit_eq : Limit → Limit → Bool
limit_eq (First m) (First n) = m == n
limit_eq (Last m) (Last n) = m == n
limit_eq _ _ = false

-- whether two queries are equal
abbrev pub query_eq : Query → Query → Bool
query_eq q r =
    path_eq q.path r.path && index_eq q.index r.index && range_eq q.range r.range
    && option_eq limit_eq q.limit r.limit

-- whether two rows are equal
abbrev pub row_eq : Row → Row → Bool
row_eq a b = key_eq a.key b.key && tree_eq a.value b.value

-- whether two views are equal
abbrev pub shown_eq : Shown → Shown → Bool
shown_eq a b = option_eq leaf_eq a.leaf b.leaf && pointwise row_eq a.rows b.rows
