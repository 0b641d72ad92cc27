-- Parts that are written are read back, each with its entries in the order of their paths' texts.
use Rattle.std.proofs.Common.{◌≡◌, ℕ, ◌<◌, ◌≤◌, false, List, [], ◌∷◌, length, map, Some, Ok, refl, ap, ◌∙◌, arith}
use Rattle.std.specs.Prelude.{◌||◌}
use Rattle.std.specs.List.{AllByRecursion}
use Rattle.std.specs.Option.{option_map, option_and_then}
use Rattle.serde_json.specs.Data.{Data, depth, items_depth}
use Rattle.serde_json.specs.Written.{has_float, items_have_float}
use Rattle.rt_tree.specs.Assignments.{Assignment}
use Rattle.rt_tree.specs.Writing.{data_of}
use Rattle.rt_wire.specs.Parts.{Part}
use Rattle.rt_wire.specs.EntryFields.{some_of}
use Rattle.rt_wire.specs.PartFields.{Unread, part_of, all_parts, part_in_front, part_trees}
use Rattle.rt_wire.specs.ServerData.{part_data, part_items}
use Rattle.rt_wire.specs.ReadBack.{IsNumber, AreEntries, AreParts, AreSameParts}
use Rattle.rt_wire.specs.inside.StandingServer.{IsStandingPart}
use Rattle.rt_wire.proofs.FieldsBack.{number_back}
use Rattle.rt_wire.proofs.EntriesBack.{in_text_order, order_back, order_moved, trees_back, entries_places, entries_float, entries_depth}

-- a part with its entries in the order of their texts
pub in_order : Part → Part
in_order p = (p.0, in_text_order p.1)

-- what is found of it
pub found_of : Part → Unread
found_of p = (p.0, map (λ (e : Assignment). (e.0, data_of e.1)) (in_text_order p.1))

abbrev IsReadablePart : Part → Type 0
IsReadablePart p = IsNumber p.0 × AreEntries p.1

part_back : (p : Part) → IsStandingPart p → IsReadablePart p → part_of (part_data p) ≡ Some (found_of p)
unfolding found_of
part_back p s h =
    λ i. option_and_then (λ tag. option_map (λ places. (tag, places)) (entries_places p.1 s h.1 i)) (number_back p.0 h.0 i)

all_back : (ps : List Part) → AllByRecursion IsStandingPart ps → AllByRecursion IsReadablePart ps
    → all_parts (part_items ps) ≡ Some (map found_of ps)
all_back [] s h = refl
all_back (p ∷ ps) s h =
    λ i. option_and_then (λ u. option_map (λ us. u ∷ us) (all_back ps s.1 h.1 i)) (part_back p s.0 h.0 i)

some_found : (ps : List Part) → 0 < length ps → some_of (map found_of ps) ≡ Some (map found_of ps)
some_found [] h = absurd (omega arith)
some_found (p ∷ ps) h = refl

pub parts_found : (ps : List Part) → AllByRecursion IsStandingPart ps → AreParts ps
    → option_and_then some_of (all_parts (part_items ps)) ≡ Some (map found_of ps)
parts_found ps s h = ap (option_and_then some_of) (all_back ps s h.1) ∙ some_found ps h.0

pub part_trees_back : (ps : List Part) → AllByRecursion IsStandingPart ps → AllByRecursion IsReadablePart ps
    → part_trees (map found_of ps) ≡ Ok (map in_order ps)
unfolding found_of in_order
part_trees_back [] s h = refl
part_trees_back (p ∷ ps) s h =
    λ i. part_in_front p.0 (trees_back (in_text_order p.1) (order_back p.1 s.0 h.0.1.2) i) (part_trees_back ps s.1 h.1 i)

-- ---- the order of entries alone has changed
pub parts_moved : (ps : List Part) → AllByRecursion IsStandingPart ps → AllByRecursion IsReadablePart ps
    → AreSameParts ps (map in_order ps)
unfolding in_order
parts_moved [] s h = tt
parts_moved (p ∷ ps) s h = (refl, order_moved p.1 s.0 h.0.1.1, parts_moved ps s.1 h.1)

-- ---- what is written of them
part_float : (p : Part) → has_float (part_data p) ≡ false
part_float p = ap (λ b. b || false) (entries_float p.1)

pub parts_float : (ps : List Part) → items_have_float (part_items ps) ≡ false
parts_float [] = refl
parts_float (p ∷ ps) = λ i. part_float p i || parts_float ps i

pub parts_depth : (ps : List Part) → AllByRecursion IsStandingPart ps → items_depth (part_items ps) ≤ 35
parts_depth [] s = omega arith
parts_depth (p ∷ ps) s = omega (arith, entries_depth p.1 s.0, parts_depth ps s.1)
