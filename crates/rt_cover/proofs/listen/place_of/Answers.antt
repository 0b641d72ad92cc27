use Rattle.std.proofs.Common.{sym, ltb, rules, []}
use Rattle.std.proofs.lemmas.List.Sorted.{IsPartitionPoint-from_clause}
use Rattle.rt_query.specs.Queries.{plain}
use Rattle.rt_cover.specs.Cover.{Tagged}
use Rattle.rt_cover.proofs.TagPlaceLaws.{lesser_first, place_is}
use Rattle.rt_cover.proofs.listen.place_of.Goals as goal

pub returns-clause-first : goal.returns-clause-first
returns-clause-first c =
    let t = c.args.tag in
    let ks = c.args.kept.now in
    let i = c.partition_point.result in
    sym (place_is t ks i c.partition_point.ensures.bound
    (IsPartitionPoint-from_clause (λ (k : Tagged). ltb k.tag t) ks i c.partition_point.ensures.partitioned (lesser_first t ks c.requires) (λ a r f' k. search rules)) (record { tag = 0; form = plain [] }))
