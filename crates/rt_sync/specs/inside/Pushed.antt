-- The range on whose listen a push is.
use Rattle.std.specs.Prelude.{if◌then◌else◌, Option, Some, None}
use Rattle.rt_query.specs.Queries.{Query, is_filtered}

-- the form, if it is one of a range
abbrev pub range_of : Query → Option Query
range_of q = if is_filtered q then Some q else None
