-- What a change of cover takes out of regions, and what stays of it.
use Rattle.std.specs.Prelude.{◌≡◌, not, if◌then◌else◌, List, [], Option, None}
use Rattle.std.specs.List.{filter, flat_map}
use Rattle.std.specs.Option.{option_map}
use Rattle.rt_tree.specs.PathTree.{Path, PathTree}
use Rattle.rt_query.specs.Queries.{Query, is_filtered}
use Rattle.rt_cache.specs.Brought.{region_part}
use Rattle.rt_cache.specs.Recover.{reaches, parts_of, with_regions}
use Rattle.rt_cache.specs.declared.regions.Region.{Region}
use Rattle.rt_cache.specs.declared.by_path.Span.{Span}
use Rattle.rt_cache.specs.inside.Held.{pairs_of}
use Rattle.rt_cache.specs.inside.Spans.{AreLost}

-- the part of these regions at a plain listen under one of them
abbrev pub part_below : List (Path × PathTree) → Query → Option (Path × PathTree)
part_below regions k = if is_filtered k then None else option_map (λ t. (k.path, t))
    (region_part regions k.path)

-- the parts of the lost regions at the plain listens under them, in the order of paths
abbrev pub parts_left : List Query → List (Path × PathTree) → List (Path × PathTree)
parts_left kept regions = with_regions [] (flat_map (parts_of kept)
    (filter (λ r. not (reaches kept r.0)) regions))

-- where the regions stand that are lost, and the parts that stay of them
pub record IsCut (kept : List Query) (regions : List Region) (spans : List Span) (left : List Region) : Type 0 where
  pub lost : AreLost kept regions spans
  pub parts : pairs_of left ≡ parts_left kept (pairs_of regions)
