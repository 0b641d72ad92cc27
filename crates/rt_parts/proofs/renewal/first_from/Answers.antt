use Rattle.std.proofs.Common.{rules}
use Rattle.std.specs.Ordering.{is_lt}
use Rattle.std.proofs.lemmas.List.Sorted.{IsPartitionPoint-from_clause}
use Rattle.rt_query.specs.Queries.{Query}
use Rattle.rt_query.specs.QueryOrder.{query_cmp}
use Rattle.rt_parts.proofs.OrderLaws.{lesser_first}
use Rattle.rt_parts.proofs.renewal.first_from.Goals as goal

pub returns-clause-point : goal.returns-clause-point
returns-clause-point c =
    let qs = c.args.queries.now in
    let q = c.args.query.now in
    IsPartitionPoint-from_clause (λ (x : Query). is_lt (query_cmp x q)) qs c.partition_point.result c.partition_point.ensures.partitioned (lesser_first q qs c.requires) (λ a r f' k. search rules)
