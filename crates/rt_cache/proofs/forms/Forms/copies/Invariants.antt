use Rattle.std.proofs.Common.{◌≡◌, ◌++◌, ℕ, ◌<◌, ◌≤◌, length, get_or, drop}
use Rattle.rt_tree.specs.declared.limits.TheConstants.{MAX_KEYS}
use Rattle.rt_query.specs.Queries.{Query}
use Rattle.rt_cache.proofs.forms.Forms.copies.Given as goal

-- those copied so far, and those that are left; so far the paths are short
abbrev pub invariant-loop-query : goal.invariant-loop-query
invariant-loop-query l =
    (l.forms ++ drop l.query-index l.queries ≡ l.queries)
    × ((k : ℕ) (d : Query) → k < l.query-index → length (get_or l.queries k d).path ≤ MAX_KEYS)
