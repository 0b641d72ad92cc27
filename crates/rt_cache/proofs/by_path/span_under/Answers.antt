use Rattle.std.proofs.Common.{rules, ◌≡◌, ℕ, sym, subst, drop, true, false}
use Rattle.std.proofs.lemmas.List.Sorted.{IsPartitionPoint-from_clause}
use Rattle.std.specs.List.Sorted.{IsPartitionPoint, IsPartitionedBy}
use Rattle.rt_tree.specs.Assignments.{is_at_or_above}
use Rattle.rt_cache.proofs.Under.{before_none_under, parted_by, span_exact_by}
use Rattle.rt_cache.proofs.by_path.span_under.Goals as goal

pub returns-clause-exact : goal.returns-clause-exact
returns-clause-exact g c =
    let q = g.T.HasQuery.query_of in
    let xs = c.args.items.now in
    let p = c.args.path.now in
    let start : ℕ = c.first_from-start.result in
    let back : c.split_at.result.1.now ≡ drop start xs = search rules in
    let point : IsPartitionPoint (λ x. is_at_or_above p (q x).path ≡ true) (λ x. is_at_or_above p (q x).path ≡ false) c.split_at.result.1.now c.partition_point-count.result =
    IsPartitionPoint-from_clause (λ x. is_at_or_above p (q x).path) c.split_at.result.1.now c.partition_point-count.result c.partition_point-count.ensures.partitioned
    (subst (λ ys. IsPartitionedBy (λ x. is_at_or_above p (q x).path) ys) (sym back)
    (parted_by q p xs start c.requires c.first_from-start.ensures.within (c.first_from-start.ensures.point).1))
    (λ a r f k. search rules) in
    let there : IsPartitionPoint (λ x. is_at_or_above p (q x).path ≡ true) (λ x. is_at_or_above p (q x).path ≡ false) (drop start xs) c.partition_point-count.result =
    subst (λ ys. IsPartitionPoint (λ x. is_at_or_above p (q x).path ≡ true) (λ x. is_at_or_above p (q x).path ≡ false) ys c.partition_point-count.result) back point in
    span_exact_by (λ x. (q x).path) p xs start c.partition_point-count.result c.first_from-start.ensures.within
    (before_none_under q p xs start (c.first_from-start.ensures.point).0 c.first_from-start.ensures.within) there.0 there.1
