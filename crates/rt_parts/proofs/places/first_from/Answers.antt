use Rattle.std.proofs.Common.{rules}
use Rattle.std.specs.Ordering.{is_lt}
use Rattle.std.proofs.lemmas.List.Sorted.{IsPartitionPoint-from_clause}
use Rattle.rt_tree.specs.PathTree.{path_cmp, paths_total}
use Rattle.rt_parts.specs.declared.places.ListenerPlace.{ListenerPlace}
use Rattle.rt_parts.specs.inside.Placed.{stand_cmp, stand_of}
use Rattle.rt_parts.proofs.PlaceLaws.{befores_first}
use Rattle.rt_parts.proofs.places.first_from.Goals as goal

pub returns-clause-point : goal.returns-clause-point
returns-clause-point c =
    IsPartitionPoint-from_clause (λ (x : ListenerPlace). is_lt (stand_cmp (stand_of x) (c.args.path.now, c.args.number))) c.args.places.now c.partition_point.result c.partition_point.ensures.partitioned
    (befores_first path_cmp paths_total stand_of (c.args.path.now, c.args.number) c.args.places.now c.requires) (λ a r f' k. search rules)
