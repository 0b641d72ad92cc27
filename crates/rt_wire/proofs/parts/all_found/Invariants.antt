use Rattle.std.proofs.Common.{◌≡◌, ◌++◌, map}
use Rattle.std.specs.Option.{option_map}
use Rattle.std.specs.Vec.Iter.{into_iter_items}
use Rattle.serde_json.specs.View.{items_view}
use Rattle.rt_wire.specs.PartFields.{all_parts}
use Rattle.rt_wire.specs.inside.Places.{unread}
use Rattle.rt_wire.proofs.parts.all_found.Given as goal

abbrev pub invariant-loop-part : goal.invariant-loop-part
invariant-loop-part l =
    all_parts (items_view l.fn.items.items)
    ≡ option_map (λ rest. map unread l.parts.items ++ rest) (all_parts (items_view (into_iter_items l.part-iterator)))
