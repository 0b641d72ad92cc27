use Rattle.std.proofs.Common.{rules}
use Rattle.std.specs.Ordering.{is_lt}
use Rattle.std.proofs.lemmas.List.Sorted.{IsPartitionPoint-from_clause}
use Rattle.rt_sync.specs.declared.steps.losses.Had.{Had}
use Rattle.rt_sync.specs.inside.Moving.{had_cmp, had_of}
use Rattle.rt_sync.proofs.HadLaws.{lesser_first}
use Rattle.rt_sync.proofs.steps.losses.first_from.Goals as goal

pub returns-clause-point : goal.returns-clause-point
returns-clause-point c =
    let hs = c.args.had.now in
    let r = had_of c.args.query.now c.args.source.now in
    IsPartitionPoint-from_clause (λ (h : Had). is_lt (had_cmp h r)) hs c.partition_point.result c.partition_point.ensures.partitioned (lesser_first r hs c.requires) (λ a r f' k. search rules)
