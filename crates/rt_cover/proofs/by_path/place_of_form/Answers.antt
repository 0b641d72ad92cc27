use Rattle.std.proofs.Common.{rules}
use Rattle.std.specs.Ordering.{is_lt}
use Rattle.std.proofs.lemmas.List.Sorted.{IsPartitionPoint-from_clause}
use Rattle.rt_query.specs.QueryOrder.{query_cmp}
use Rattle.rt_cover.proofs.SearchLaws.{lesser_first}
use Rattle.rt_cover.proofs.by_path.place_of_form.Goals as goal

pub returns-clause-point : goal.returns-clause-point
returns-clause-point g c =
    let q = g.T.HasForm.form_of in
    let ls = c.args.by_path.now in
    let f = c.args.form.now in
    IsPartitionPoint-from_clause (λ x. is_lt (query_cmp (q x) f)) ls c.partition_point.result c.partition_point.ensures.partitioned (lesser_first q f ls c.requires) (λ a r f' k. search rules)
