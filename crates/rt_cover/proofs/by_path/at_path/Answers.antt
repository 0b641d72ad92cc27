use Rattle.std.proofs.Common.{rules}
use Rattle.std.specs.Ordering.{is_le}
use Rattle.std.proofs.lemmas.List.Sorted.{IsPartitionPoint-from_clause}
use Rattle.rt_tree.specs.PathTree.{path_cmp}
use Rattle.rt_cover.proofs.SearchLaws.{rest_is, rest_first, run_of_rest}
use Rattle.rt_cover.proofs.by_path.at_path.Goals as goal

pub returns : goal.returns
returns g c =
    let q = g.T.HasForm.form_of in
    let ls = c.args.by_path.now in
    let p = c.args.path.now in
    let first = c.first_from-first.result in
    let count = c.partition_point-count.result in
    run_of_rest q p ls _ first count (rest_is ls first) c.first_from-first.ensures.within c.partition_point-count.ensures.bound
    c.first_from-first.ensures.point
    (IsPartitionPoint-from_clause (λ x. is_le (path_cmp (q x).path p)) _ count c.partition_point-count.ensures.partitioned (rest_first q p ls _ first (rest_is ls first) c.requires) (λ a r f' k. search rules))
