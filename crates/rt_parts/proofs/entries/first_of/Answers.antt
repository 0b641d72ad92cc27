use Rattle.std.proofs.Common.{ℕ, rules}
use Rattle.std.specs.Ordering.{is_lt, nat_cmp}
use Rattle.std.proofs.lemmas.Cmp.{nat_cmp_total}
use Rattle.std.proofs.lemmas.List.Sorted.{IsPartitionPoint-from_clause}
use Rattle.rt_parts.specs.inside.Pairs.{met_cmp}
use Rattle.rt_parts.proofs.PlaceLaws.{befores_first}
use Rattle.rt_parts.proofs.entries.first_of.Goals as goal

pub returns-clause-point : goal.returns-clause-point
returns-clause-point c =
    IsPartitionPoint-from_clause (λ (o : ℕ × ℕ). is_lt (met_cmp o (c.args.number, 0))) c.args.pairs.now c.partition_point.result c.partition_point.ensures.partitioned
    (befores_first nat_cmp nat_cmp_total (λ (o : ℕ × ℕ). o) (c.args.number, 0) c.args.pairs.now c.requires) (λ a r f' k. search rules)
