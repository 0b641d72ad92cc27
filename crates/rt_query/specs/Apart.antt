-- That of the plain listens kept none is at or above another.
use Rattle.std.specs.Prelude.{Bool, if◌then◌else◌, List, Some, None}
use Rattle.std.specs.List.{filter_map}
use Rattle.rt_tree.specs.PathTree.{null}
use Rattle.rt_tree.specs.Assignments.{Assignment, have_overlap}
use Rattle.rt_query.specs.Queries.{Query, is_filtered}

-- the paths of the plain listens, with nothing at them
abbrev pub plain_spots : List Query → List Assignment
plain_spots kept = filter_map (λ k. if is_filtered k then None else Some (k.path, null)) kept

-- whether of two plain listens one is at or above the other
abbrev pub do_plains_overlap : List Query → Bool
do_plains_overlap kept = have_overlap (plain_spots kept)
