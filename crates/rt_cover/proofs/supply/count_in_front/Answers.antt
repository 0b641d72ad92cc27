use Rattle.std.proofs.Common.{rules, List}
use Rattle.std.proofs.lemmas.List.Sorted.{IsPartitionPoint-from_clause}
use Rattle.rt_cover.specs.inside.Widest.{Entry, is_in_front}
use Rattle.rt_cover.proofs.WidestLaws.{fronts_first}
use Rattle.rt_cover.proofs.supply.count_in_front.Goals as goal

pub returns-clause-point : goal.returns-clause-point
returns-clause-point c =
    let es : List Entry = c.args.entries.now in
    let q = c.args.query.now in
    IsPartitionPoint-from_clause (is_in_front q) es c.partition_point.result c.partition_point.ensures.partitioned (fronts_first q es c.requires) (λ a r f' k. search rules)
