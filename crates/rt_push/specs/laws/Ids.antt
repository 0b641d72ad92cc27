-- Ids rise, and digits stand in them as they were given.
use Rattle.std.specs.Prelude.{◌≡◌, ℕ, true, length, List, [], ◌∷◌, map, Option, Some, None, is_some}
use Rattle.std.specs.Prelude.{if◌then◌else◌}
use Rattle.std.specs.List.{list_all}
use Rattle.std.specs.List.Sorted.{IsStrictlySortedBy}
use Rattle.std.specs.Ordering.{nat_cmp}
use Rattle.std.specs.Cmp.Lexicographic.{slice_cmp}
use Rattle.rt_push.specs.Digits.{is_digit, number, digits}
use Rattle.rt_push.specs.PushIds.{Stamp, push_fault, push_id, used}

-- a call: the moment now, and the digits of a random part
abbrev pub Call : Type 0
Call = ℕ × List ℕ

-- what the ids that calls give are made of, in order, a refused call none
abbrev pub stamps : Option Stamp → List Call → List Stamp
stamps last [] = []
stamps last (call ∷ calls) =
    let stamp = used last call.0 (number call.1) in
    if is_some (push_fault last call.0 call.1) then stamps last calls else stamp ∷ stamps
    (Some stamp) calls

-- the ids that calls give, in order
abbrev pub ids : Option Stamp → List Call → List (List ℕ)
ids last calls = map push_id (stamps last calls)

-- of the ids that calls give, each is above those before it, by bytes
abbrev pub IdsRise : Type 0
IdsRise = (calls : List Call) → IsStrictlySortedBy (slice_cmp nat_cmp) (ids None calls)

-- the number that digits write has just these digits
abbrev pub DigitsStand : Type 0
DigitsStand =
    (values : List ℕ) → list_all is_digit values ≡ true
    → digits (length values) (number values) ≡ values
