-- The writes among requests.
use Rattle.std.specs.Prelude.{List, Option, Some, None}
use Rattle.rt_tree.specs.Assignments.{Assignment}
use Rattle.rt_wire.specs.declared.request.Asked.{Asked}
use Rattle.rt_wire.specs.declared.request.Asked.TheVariants.{Now, AtDisconnect}
use Rattle.rt_world.specs.World.{entries_of}

-- the entries of the write that is asked for, if one is
abbrev pub entries_asked : Asked → Option (List Assignment)
entries_asked (Now action) = Some (entries_of action)
entries_asked (AtDisconnect ending) = None
