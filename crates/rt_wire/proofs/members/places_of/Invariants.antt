use Rattle.std.proofs.Common.{◌≡◌, ◌++◌}
use Rattle.std.specs.Option.{option_map}
use Rattle.serde_json.specs.View.{members_view}
use Rattle.rt_wire.specs.EntryFields.{places_of}
use Rattle.rt_wire.specs.inside.Places.{places}
use Rattle.rt_wire.proofs.members.places_of.Given as goal

abbrev pub invariant-loop-name : goal.invariant-loop-name
invariant-loop-name l = places_of (members_view l.fn.members.entries) ≡ option_map (λ rest. places l.found.items ++ rest) (places_of (members_view l.name-iterator))
