-- Which ranges take in others.
use Rattle.std.specs.Prelude.{Bool, true, false, ◌&&◌, not, Option, Some, None, is_some}
use Rattle.std.specs.Ordering.{is_le}
use Rattle.rt_tree.specs.PathTree.{path_eq}
use Rattle.rt_order.specs.CutOrder.{cut_cmp}
use Rattle.rt_order.specs.Equality.{index_eq}
use Rattle.rt_order.specs.declared.cut.Cut.{Cut}
use Rattle.rt_query.specs.Queries.{Query, is_filtered}

-- whether a lower cut leaves out no more than another: it is absent, or the other isn't before it
abbrev pub is_lower_within : Option Cut → Option Cut → Bool
is_lower_within None c = true
is_lower_within (Some b) None = false
is_lower_within (Some b) (Some c) = is_le (cut_cmp b c)

-- whether an upper cut leaves out no more than another: it is absent, or the other isn't after it
abbrev pub is_upper_within : Option Cut → Option Cut → Bool
is_upper_within None c = true
is_upper_within (Some b) None = false
is_upper_within (Some b) (Some c) = is_le (cut_cmp c b)

-- whether q is a range without a limit, of r's path and order, that takes in r's
abbrev pub takes_in : Query → Query → Bool
takes_in q r =
    is_filtered q && is_filtered r && path_eq q.path r.path && index_eq q.index r.index
    && not (is_some q.limit) && is_lower_within q.range.lower r.range.lower
    && is_upper_within q.range.upper r.range.upper
