use Rattle.std.proofs.Common.{◌≡◌, rules, true, false, subst}
use Rattle.std.specs.Ordering.{is_lt}
use Rattle.std.specs.List.Sorted.{IsPartitionPoint}
use Rattle.std.proofs.lemmas.List.Sorted.{IsPartitionPoint-from_clause}
use Rattle.rt_tree.specs.PathTree.{path_cmp}
use Rattle.rt_tree.specs.Assignments.{is_at_or_above}
use Rattle.rt_cover.proofs.SearchLaws.{rest_is, under_first, span_of_rest}
use Rattle.rt_cover.proofs.by_path.under.Goals as goal

pub returns : goal.returns
returns g c =
    let q = g.T.HasForm.form_of in
    let ls = c.args.by_path.now in
    let p = c.args.path.now in
    let first = c.first_from-first.result in
    let count = c.partition_point-count.result in
    let from : IsPartitionPoint (λ x. is_lt (path_cmp (q x).path p) ≡ true) (λ x. is_lt (path_cmp (q x).path p) ≡ false) ls first =
    subst (λ z. IsPartitionPoint (λ x. is_lt (path_cmp (q x).path z) ≡ true) (λ x. is_lt (path_cmp (q x).path z) ≡ false) ls first) c.keys.ensures.keys c.first_from-first.ensures.point in
    span_of_rest q p ls _ first count (rest_is ls first) c.first_from-first.ensures.within c.partition_point-count.ensures.bound from
    (IsPartitionPoint-from_clause (λ x. is_at_or_above p (q x).path) _ count c.partition_point-count.ensures.partitioned
    (under_first q p ls _ first (rest_is ls first) c.first_from-first.ensures.within c.requires from) (λ a r f' k. search rules))
