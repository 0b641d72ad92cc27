-- Which listen supplies which query.
use Rattle.std.specs.Prelude.{Bool, ◌&&◌, ◌||◌, not, if◌then◌else◌}
use Rattle.rt_tree.specs.Assignments.{is_at_or_above}
use Rattle.rt_query.specs.Queries.{Query, plain, is_filtered}
use Rattle.rt_query.specs.QueryEq.{query_eq}
use Rattle.rt_query.specs.Ranges.{takes_in}

-- the listening form: an unfiltered query is listened to as the plain query of its path
abbrev pub form : Query → Query
form q = if is_filtered q then q else plain q.path

-- whether listening to q brings what r needs: q is r's form, or unfiltered and at or above r's path,
-- or a range that takes in r's
abbrev pub does_supply : Query → Query → Bool
does_supply q r =
    query_eq q (form r) || not (is_filtered q) && is_at_or_above q.path r.path || takes_in q r
