-- The parts that are read of a message, as the grammar says them.
use Rattle.std.proofs.Common.{◌≡◌, ℕ, ◌<◌, List, [], ◌∷◌, length, Option, Some, None, Ok, Err, refl, sym, ap, subst, ◌∙◌, arith}
use Rattle.std.specs.Prelude.{codes, Result}
use Rattle.std.specs.Option.{option_map, option_and_then}
use Rattle.std.proofs.lemmas.Option.{option_and_then_some, same_Some}
use Rattle.serde_json.specs.Data.{Data, Items, no_items, item, Members}
use Rattle.serde_json.specs.Find.{get, as_array, as_object}
use Rattle.rt_tree.specs.PathTree.{Path}
use Rattle.rt_tree.specs.Assignments.{Assignment}
use Rattle.rt_wire.specs.declared.error.WireError.{WireError}
use Rattle.rt_wire.specs.Parts.{Part}
use Rattle.rt_wire.specs.Fields.{field, number_of, with, made}
use Rattle.rt_wire.specs.EntryFields.{places_of, some_of, entries_of, trees_of}
use Rattle.rt_wire.specs.PartFields.{Unread, part_of, all_parts, parts_of, part_in_front, part_trees}
use Rattle.rt_wire.specs.Grammar.{HasNumber, HasEntries, ArePartsSaid, HasParts}
use Rattle.rt_wire.proofs.Said.{same_Ok, made_ok, map_some, some_filled, some_read, as_many, members_read, entries_said}

-- ---- what is read is said
part_in_front_ok : {P : Type 0} (tag : ℕ) (r : Result (List Assignment) WireError)
    (rest : Result (List Part) WireError) (ps : List Part)
    → part_in_front tag r rest ≡ Ok ps → ((es : List Assignment) (others : List Part) → r ≡ Ok es
    → rest ≡ Ok others → (tag, es) ∷ others ≡ ps → P) → P
part_in_front_ok tag (Err e) rest ps h k = absurd cc
part_in_front_ok tag (Ok es) rest ps h k = made_ok rest (λ parts. (tag, es) ∷ parts) ps h
    (λ others is same. k es others refl is same)

part_said : (d : Data) (u : Unread) (es : List Assignment) → part_of d ≡ Some u → trees_of u.1 ≡ Ok es
    → HasNumber (codes "tag") u.0 d × HasEntries es d
part_said d u es h g =
    option_and_then_some (λ tag. option_map (λ places. (tag, places)) (field entries_of (codes "entries") d))
    (field number_of (codes "tag") d) u h (λ tag is_tag mapped.
    map_some (λ places. (tag, places)) (field entries_of (codes "entries") d) u mapped (λ places are_places same. (
      is_tag ∙ ap (λ (x : Unread). Some x.0) same,
      entries_said d places es are_places (ap (λ (x : Unread). trees_of x.1) same ∙ g),
    )))

items_said : (ds : Items) (us : List Unread) (ps : List Part) → all_parts ds ≡ Some us
    → part_trees us ≡ Ok ps → ArePartsSaid ds ps
items_said no_items us ps h g = subst (ArePartsSaid no_items)
    (same_Ok [] ps (ap part_trees (same_Some [] us h) ∙ g)) tt
items_said (item d ds) us ps h g =
    option_and_then_some (λ p. option_map (λ rest. p ∷ rest) (all_parts ds)) (part_of d) us h (λ u is_u mapped.
    map_some (λ rest. u ∷ rest) (all_parts ds) us mapped (λ rest is_rest same.
    part_in_front_ok u.0 (trees_of u.1) (part_trees rest) ps (ap part_trees same ∙ g) (λ es others are_es are_others all.
    let said = part_said d u es is_u are_es in
    subst (ArePartsSaid (item d ds)) all (said.0, said.1, items_said ds rest others is_rest are_others))))

as_many_parts : (us : List Unread) (ps : List Part) → part_trees us ≡ Ok ps → length ps ≡ length us
as_many_parts [] ps h = ap length (sym (same_Ok [] ps h))
as_many_parts (u ∷ us) ps h = part_in_front_ok u.0 (trees_of u.1) (part_trees us) ps h
    (λ es others are_es are_others all. omega (arith, ap length all, as_many_parts us others are_others))

pub parts_said : (d : Data) (found : List Unread) (ps : List Part)
    → field parts_of (codes "parts") d ≡ Some found → part_trees found ≡ Ok ps → HasParts ps d
parts_said d found ps h g =
    option_and_then_some parts_of (get (codes "parts") d) found h (λ v is_v read.
    option_and_then_some some_of (option_and_then all_parts (as_array v)) found read (λ us are_us some.
    option_and_then_some all_parts (as_array v) us are_us (λ ds are_ds are_parts.
    let filled = some_filled us found some in (
      ds,
      ap (option_and_then as_array) is_v ∙ are_ds,
      omega (arith, as_many_parts found ps g, filled.1),
      items_said ds found ps (are_parts ∙ ap Some filled.0) g,
    ))))

-- ---- what is said is read
field_places : (o : Option Data) (ms : Members) → option_and_then as_object o ≡ Some ms
    → option_and_then entries_of o ≡ option_and_then some_of (places_of ms)
field_places None ms e = absurd cc
field_places (Some v) ms e = ap (λ o. option_and_then some_of (option_and_then places_of o)) e

part_read : (d : Data) (p : Part) → HasNumber (codes "tag") p.0 d → HasEntries p.1 d
    → (places : List (Path × Data)) × (part_of d ≡ Some (p.0, places)) × (trees_of places ≡ Ok p.1)
part_read d p n h =
    let read = members_read h.0 p.1 h.3 in
    let some : some_of read.0 ≡ Some read.0 = some_read read.0 (omega (arith, h.2, as_many read.0 p.1 read.2)) in
    let found : field entries_of (codes "entries") d ≡ Some read.0 =
    field_places (get (codes "entries") d) h.0 h.1 ∙ ap (option_and_then some_of) read.1 ∙ some in (
      read.0,
      (λ i. option_and_then (λ tag. option_map (λ places. (tag, places)) (found i)) (n i)),
      read.2,
    )

items_read : (ds : Items) (ps : List Part) → ArePartsSaid ds ps
    → (us : List Unread) × (all_parts ds ≡ Some us) × (part_trees us ≡ Ok ps)
items_read no_items [] h = ([], refl, refl)
items_read no_items (p ∷ ps) h = absurd h
items_read (item d ds) [] h = absurd h
items_read (item d ds) (p ∷ ps) h =
    let part = part_read d p h.0 h.1 in
    let rest = items_read ds ps h.2 in (
      (p.0, part.0) ∷ rest.0,
      (λ i. option_and_then (λ u. option_map (λ us. u ∷ us) (rest.1 i)) (part.1 i)),
      (λ i. part_in_front p.0 (part.2 i) (rest.2 i)),
    )

field_parts : {B : Type 0} (f : List Part → B) (o : Option Data) (ds : Items)
    → option_and_then as_array o ≡ Some ds
    → with (option_and_then parts_of o) (λ found. made (part_trees found) f) ≡ with
    (option_and_then some_of (all_parts ds)) (λ found. made (part_trees found) f)
field_parts f None ds e = absurd cc
field_parts f (Some v) ds e = ap (λ o. with (option_and_then some_of (option_and_then all_parts o))
    (λ found. made (part_trees found) f)) e

pub parts_read : {B : Type 0} (d : Data) (ps : List Part) (f : List Part → B) → HasParts ps d
    → with (field parts_of (codes "parts") d) (λ found. made (part_trees found) f) ≡ Ok (f ps)
parts_read d ps f h =
    let read = items_read h.0 ps h.3 in
    let some : some_of read.0 ≡ Some read.0 = some_read read.0 (omega (arith, h.2, as_many_parts read.0 ps read.2)) in
    field_parts f (get (codes "parts") d) h.0 h.1
    ∙ ap (λ o. with (option_and_then some_of o) (λ found. made (part_trees found) f)) read.1
    ∙ ap (λ o. with o (λ found. made (part_trees found) f)) some ∙ ap (λ r. made r f) read.2
