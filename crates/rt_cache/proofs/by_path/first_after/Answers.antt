use Rattle.std.proofs.Common.{rules, not}
use Rattle.std.specs.Ordering.{is_gt}
use Rattle.std.proofs.lemmas.List.Sorted.{IsPartitionPoint-from_clause}
use Rattle.rt_query.specs.QueryOrder.{query_cmp}
use Rattle.rt_cache.proofs.Apart.{up_to_first}
use Rattle.rt_cache.proofs.by_path.first_after.Goals as goal

pub returns-clause-point : goal.returns-clause-point
returns-clause-point g c =
    let q = g.T.HasQuery.query_of in
    let xs = c.args.items.now in
    let r = c.args.query.now in
    IsPartitionPoint-from_clause (λ x. not (is_gt (query_cmp (q x) r))) xs c.partition_point.result c.partition_point.ensures.partitioned (up_to_first q r xs c.requires) (λ a r f' k. search rules)
