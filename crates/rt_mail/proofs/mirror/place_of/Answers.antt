use Rattle.std.proofs.Common.{sym, ltb, rules}
use Rattle.std.proofs.lemmas.List.Sorted.{IsPartitionPoint-from_clause}
use Rattle.rt_mail.proofs.Halving.{lesser_first, place_is}
use Rattle.rt_mail.proofs.mirror.place_of.Goals as goal

pub returns-clause-first : goal.returns-clause-first
returns-clause-first c =
    let n = c.args.number in
    let ns = c.args.numbers.now in
    let i = c.partition_point.result in
    sym (place_is n ns i c.partition_point.ensures.bound
    (IsPartitionPoint-from_clause (λ m. ltb m n) ns i c.partition_point.ensures.partitioned (lesser_first n ns c.requires) (λ a r f' k. search rules)))
