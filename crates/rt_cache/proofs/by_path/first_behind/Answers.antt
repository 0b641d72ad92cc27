use Rattle.std.proofs.Common.{rules, not}
use Rattle.std.specs.Ordering.{is_lt}
use Rattle.std.proofs.lemmas.List.Sorted.{IsPartitionPoint-from_clause}
use Rattle.rt_tree.specs.PathTree.{path_cmp}
use Rattle.rt_cache.proofs.ByPaths.{up_to_first}
use Rattle.rt_cache.proofs.by_path.first_behind.Goals as goal

pub returns-clause-point : goal.returns-clause-point
returns-clause-point g c =
    let q = g.T.HasQuery.query_of in
    let xs = c.args.items.now in
    let p = c.args.path.now in
    IsPartitionPoint-from_clause (λ x. not (is_lt (path_cmp p (q x).path))) xs c.partition_point.result c.partition_point.ensures.partitioned (up_to_first q p xs c.requires) (λ a r f' k. search rules)
