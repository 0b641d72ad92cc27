-- The pending writes as a map keeps them: the entries of each, by its number.
use Rattle.std.specs.Prelude.{ℕ, List, map}
use Rattle.std.specs.BTreeMap.{BTreeMap}
use Rattle.rt_tree.specs.Assignments.{Assignment}
use Rattle.rt_writes.specs.Writes.{Write}

-- the write that a number and its entries are
abbrev pub write_of : ℕ × List Assignment → Write
write_of e = record { id = e.0; entries = e.1 }

-- the writes of the map, in order of number
abbrev pub writes_of : BTreeMap ℕ (List Assignment) → List Write
writes_of m = map write_of m.entries
