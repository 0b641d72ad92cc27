use Rattle.std.proofs.Common.{rules, ℕ, List}
use Rattle.std.specs.Ordering.{is_lt}
use Rattle.std.proofs.lemmas.List.Sorted.{IsPartitionPoint-from_clause}
use Rattle.rt_query.specs.Queries.{Query}
use Rattle.rt_query.specs.QueryOrder.{query_cmp}
use Rattle.rt_forms.proofs.OrderLaws.{lesser_first}
use Rattle.rt_forms.proofs.standing.first_from.Goals as goal

pub returns-clause-point : goal.returns-clause-point
returns-clause-point c =
    let es = c.args.filtered.now in
    let q = c.args.query.now in
    IsPartitionPoint-from_clause (λ (e : Query × List ℕ). is_lt (query_cmp e.0 q)) es c.partition_point.result c.partition_point.ensures.partitioned (lesser_first q es c.requires) (λ a r f' k. search rules)
