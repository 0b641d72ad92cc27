use Rattle.std.specs.Prelude.{◌≡◌, map, take}
use Rattle.rt_query.specs.Select.{row_of}
use Rattle.rt_query.specs.inside.Sorting.{seen}
use Rattle.rt_query.proofs.row.rows.Given as goal

abbrev pub invariant-loop-child : goal.invariant-loop-child
invariant-loop-child l = l.rows.items ≡ map row_of (map seen (take l.child-index l.children))
