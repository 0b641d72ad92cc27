use Rattle.std.proofs.Common.{rules, ◌≡◌, ℕ, sym, subst, drop, true, false, List}
use Rattle.std.proofs.lemmas.List.Sorted.{IsPartitionPoint-from_clause}
use Rattle.std.specs.List.Sorted.{IsPartitionPoint, IsPartitionedBy}
use Rattle.rt_tree.specs.Assignments.{is_at_or_above}
use Rattle.rt_cache.specs.declared.regions.Region.{Region}
use Rattle.rt_cache.proofs.Under.{parted, span_exact}
use Rattle.rt_cache.proofs.regions.span_under.Goals as goal

pub returns-clause-exact : goal.returns-clause-exact
returns-clause-exact c =
    let start : ℕ = c.first_under-start.result in
    let back : c.split_at.result.1.now ≡ drop start c.args.regions.now = search rules in
    let point : IsPartitionPoint (λ (r : Region). is_at_or_above c.args.path.now r.path ≡ true) (λ (r : Region). is_at_or_above c.args.path.now r.path ≡ false) c.split_at.result.1.now c.partition_point-count.result =
    IsPartitionPoint-from_clause (λ (r : Region). is_at_or_above c.args.path.now r.path) c.split_at.result.1.now c.partition_point-count.result c.partition_point-count.ensures.partitioned
    (subst (λ (rs : List Region). IsPartitionedBy (λ (r : Region). is_at_or_above c.args.path.now r.path) rs) (sym back)
    (parted c.args.path.now c.args.regions.now start c.requires.sorted c.first_under-start.ensures.within c.first_under-start.ensures.behind))
    (λ a r f k. search rules) in
    let there : IsPartitionPoint (λ (r : Region). is_at_or_above c.args.path.now r.path ≡ true) (λ (r : Region). is_at_or_above c.args.path.now r.path ≡ false) (drop start c.args.regions.now) c.partition_point-count.result =
    subst (λ (rs : List Region). IsPartitionPoint (λ (r : Region). is_at_or_above c.args.path.now r.path ≡ true) (λ (r : Region). is_at_or_above c.args.path.now r.path ≡ false) rs c.partition_point-count.result) back point in
    span_exact c.args.path.now c.args.regions.now start c.partition_point-count.result c.first_under-start.ensures.within c.first_under-start.ensures.front there.0 there.1
