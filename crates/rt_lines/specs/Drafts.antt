-- The query that calls make: each is looked at by itself, its own words first, then the draft.
use Rattle.std.specs.Prelude.{ℕ, List, [], ◌∷◌, Option, Some, None, Result, Ok, Err}
use Rattle.rt_order.specs.declared.index.Index.TheVariants as index
use Rattle.rt_query.specs.declared.error.QueryError.{QueryError}
use Rattle.rt_query.specs.declared.query.Limit.TheVariants.{First, Last}
use Rattle.rt_query.specs.Bounds as bounds
use Rattle.rt_query.specs.Calls.{bound_refusal, bounded_by, limit_refusal, limited_to}
use Rattle.rt_query.specs.Calls.{order_refusal, ordered_by}
use Rattle.rt_query.specs.Drafts.{Draft, finished, new_draft}
use Rattle.rt_query.specs.Queries.{Query}
use Rattle.rt_lines.specs.declared.call.BoundCall.{BoundCall}
use Rattle.rt_lines.specs.declared.call.BoundCall.TheVariants.{StartAt, StartAfter, EndAt, EndBefore}
use Rattle.rt_lines.specs.declared.call.BoundCall.TheVariants.{EqualTo}
use Rattle.rt_lines.specs.declared.error.LineError.{LineError}
use Rattle.rt_lines.specs.declared.error.LineError.TheVariants.{Refused}
use Rattle.rt_lines.specs.declared.error.Refusal.TheVariants as refusal
use Rattle.rt_lines.specs.Calls.{QueryCall, OrderByKey, OrderByValue, OrderByChild, LimitToFirst}
use Rattle.rt_lines.specs.Calls.{LimitToLast, Bound}
use Rattle.rt_lines.specs.Reading.{and_then, path_in, mark_in}

-- the bound of each call
abbrev pub bound_of : BoundCall → bounds.Bound
bound_of StartAt = bounds.start_at
bound_of StartAfter = bounds.start_after
bound_of EndAt = bounds.end_at
bound_of EndBefore = bounds.end_before
bound_of EqualTo = bounds.equal_to

-- a draft after a call that is not refused
abbrev pub allowed : Option QueryError → Draft → Result Draft LineError
allowed None draft = Ok draft
allowed (Some e) draft = Err (Refused (refusal.Query e))

-- a draft after a call
abbrev pub called : QueryCall → Draft → Result Draft LineError
called OrderByKey d = allowed (order_refusal d) (ordered_by index.Key d)
called OrderByValue d = allowed (order_refusal d) (ordered_by index.Value d)
called (OrderByChild path) d =
    and_then (path_in path) (λ p. allowed (order_refusal d) (ordered_by (index.Child p) d))
called (LimitToFirst n) d = allowed (limit_refusal n d) (limited_to (First n) d)
called (LimitToLast n) d = allowed (limit_refusal n d) (limited_to (Last n) d)
called (Bound bound value key) d =
    and_then (mark_in value) (λ mark. allowed (bound_refusal (bound_of bound) mark key d)
    (bounded_by (bound_of bound) mark key d))

-- a draft after calls, one after another
abbrev pub drafted : List QueryCall → Draft → Result Draft LineError
drafted [] d = Ok d
drafted (call ∷ calls) d = and_then (called call d) (drafted calls)

-- the query of a path and calls
abbrev pub query_in : List ℕ → List QueryCall → Result Query LineError
query_in path calls =
    and_then (path_in path) (λ p. and_then (drafted calls (new_draft p)) (λ d. Ok (finished d)))
