use Rattle.std.specs.Prelude.{◌≡◌, ◌++◌, map}
use Rattle.rt_query.specs.inside.Sorting.{in_range, seen}
use Rattle.rt_query.proofs.query.Query.children_in_range.Given as goal

abbrev pub invariant-loop-key : goal.invariant-loop-key
invariant-loop-key l = in_range l.self l.children.entries ≡ map seen l.found.items ++ in_range l.self l.key-iterator
