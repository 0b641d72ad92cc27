use Rattle.std.proofs.Common.{◌≡◌, ◌++◌, drop, map}
use Rattle.rt_cache.specs.inside.Handing.{lent_queries}
use Rattle.rt_cache.proofs.by_path.lend.Given as goal

-- those lent so far, and those that are left
abbrev pub invariant-loop-item : goal.invariant-loop-item
invariant-loop-item g l =
    lent_queries l.lent.items ++ map g.T.HasQuery.query_of (drop l.item-index l.items) ≡ map g.T.HasQuery.query_of l.items
