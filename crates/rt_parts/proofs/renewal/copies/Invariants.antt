use Rattle.std.proofs.Common.{◌≡◌, ◌++◌, drop}
use Rattle.rt_parts.proofs.renewal.copies.Given as goal

abbrev pub invariant-loop-query : goal.invariant-loop-query
invariant-loop-query l = l.copies.items ++ drop l.query-index l.queries ≡ l.queries
