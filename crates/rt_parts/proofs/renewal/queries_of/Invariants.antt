use Rattle.std.proofs.Common.{◌≡◌, ◌&&◌, take}
use Rattle.std.specs.List.{list_any}
use Rattle.rt_tree.specs.PathTree.{path_eq}
use Rattle.rt_query.specs.Queries.{Query, is_filtered}
use Rattle.rt_cache.specs.Recover.{is_among}
use Rattle.rt_parts.proofs.RenewalLaws.{has_of}
use Rattle.rt_parts.proofs.renewal.queries_of.Given as goal

-- those of the numbers so far
abbrev pub invariant-loop-number : goal.invariant-loop-number
invariant-loop-number l =
    (q : Query) → is_among l.queries.items q ≡ (is_filtered q && path_eq q.path l.path && list_any (has_of l.listeners q) (take l.number-index l.numbers))
