use Rattle.std.proofs.Common.{◌∙◌, ap, sym, refl, string_bytes, ◌++◌}
use Rattle.std.specs.Option.{option_map}
use Rattle.serde_json.specs.View.{members_view}
use Rattle.rt_wire.specs.EntryFields.{places_of}
use Rattle.rt_wire.specs.Fields.{path_of_text}
use Rattle.rt_wire.specs.inside.Places.{places}
use Rattle.rt_wire.proofs.Places.{places-more}
use Rattle.rt_wire.proofs.members.places_of.Goals as goal

pub loop-name-preserved : goal.loop-name-preserved
loop-name-preserved c =
    places-more (places_of (members_view c.args.members.entries)) (places_of (members_view c.next.new.self)) c.loop-name.found.items (string_bytes c.in-Some.name) (members_view c.next.new.self)
    (c.in_ok-path.path, c.in-Some.value)
    (c.loop-name.invariant ∙ ap (λ es. option_map (λ rest. places c.loop-name.found.items ++ rest) (places_of (members_view es))) c.in-Some.ensures.steps)
    (ap path_of_text (sym c.as_str.ensures.value) ∙ c.in_ok-path.ensures.ok) refl
    ∙ ap (λ found. option_map (λ rest. places found ++ rest) (places_of (members_view c.next.new.self))) (sym c.in_ok-push.ensures.items)
