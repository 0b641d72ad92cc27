use Rattle.std.proofs.Common.{rules, not}
use Rattle.std.specs.Ordering.{is_gt}
use Rattle.std.proofs.lemmas.List.Sorted.{IsPartitionPoint-from_clause}
use Rattle.rt_query.specs.QueryOrder.{query_cmp, unlimited}
use Rattle.rt_cover.proofs.TakerLaws.{up_to_first}
use Rattle.rt_cover.proofs.by_path.count_up_to.Goals as goal

pub returns-clause-point : goal.returns-clause-point
returns-clause-point g c =
    let q = g.T.HasForm.form_of in
    let xs = c.args.by_path.now in
    let r = unlimited c.args.query.now in
    IsPartitionPoint-from_clause (λ x. not (is_gt (query_cmp (q x) r))) xs c.partition_point.result c.partition_point.ensures.partitioned (up_to_first q r xs c.requires) (λ a r f' k. search rules)
