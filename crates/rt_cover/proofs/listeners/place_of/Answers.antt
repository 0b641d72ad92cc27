use Rattle.std.proofs.Common.{sym, ltb, rules, []}
use Rattle.std.proofs.lemmas.List.Sorted.{IsPartitionPoint-from_clause}
use Rattle.rt_query.specs.Queries.{plain}
use Rattle.rt_cover.specs.Cover.{Registered}
use Rattle.rt_cover.proofs.PlaceLaws.{lesser_first, place_is}
use Rattle.rt_cover.proofs.listeners.place_of.Goals as goal

pub returns-clause-first : goal.returns-clause-first
returns-clause-first c =
    let n = c.args.number in
    let ls = c.args.listeners.now in
    let i = c.partition_point.result in
    sym (place_is n ls i c.partition_point.ensures.bound
    (IsPartitionPoint-from_clause (λ (l : Registered). ltb l.0 n) ls i c.partition_point.ensures.partitioned (lesser_first n ls c.requires) (λ a r f' k. search rules)) (0, plain []))
