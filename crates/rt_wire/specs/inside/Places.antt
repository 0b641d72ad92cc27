-- Places as the code holds them.
use Rattle.std.specs.Prelude.{List, map}
use Rattle.serde_json.specs.Data.{Data}
use Rattle.serde_json.specs.View.{view}
use Rattle.serde_json.specs.declared.value.Value.{Value}
use Rattle.rt_tree.specs.PathTree.{Path}
use Rattle.rt_wire.specs.declared.parts.FoundFields.{FoundFields}
use Rattle.rt_wire.specs.PartFields.{Unread}

-- each path, with the data of its value
abbrev pub places : List (Path × Value) → List (Path × Data)
places found = map (λ p. (p.0, view p.1)) found

-- a part, with the data of its values
abbrev pub unread : FoundFields → Unread
unread f = (f.tag, places f.places.items)
