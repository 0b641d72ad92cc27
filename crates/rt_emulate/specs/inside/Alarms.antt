-- When guests are looked at.
use Rattle.std.specs.Prelude.{◌≡◌, ◌≤◌, ◌<◌, ◌∷◌, [], ℕ, List, map, nat_le, if◌then◌else◌, Option, Some, None}
use Rattle.std.specs.Prelude.{◌-◌, Bool, ⊤}
use Rattle.std.specs.List.Sorted.{IsPermutation}
use Rattle.std.specs.Option.{option_map}
use Rattle.std.specs.Ordering.{nat_cmp, ordering_then}
use Rattle.std.specs.declared.cmp.Ordering.{Ordering}
use Rattle.std.specs.declared.cmp.Reverse.{Reverse}

-- ---- times

-- the sooner of two times, where there are some
abbrev pub sooner : Option ℕ → Option ℕ → Option ℕ
sooner None b = b
sooner (Some a) None = Some a
sooner (Some a) (Some b) = Some (if nat_le a b then a else b)

-- the soonest of some times, if there is one
abbrev pub soonest : List ℕ → Option ℕ
soonest [] = None
soonest (t ∷ ts) = sooner (Some t) (soonest ts)

-- how long may be waited, where something is next at that time; none: for ever
abbrev pub patience : Bool → Option ℕ → ℕ → Option ℕ
patience has_work next now = if has_work then Some 0 else option_map (λ at. at - now) next

-- ---- alarms

-- when a guest is looked at, the guest's serial number, and its place
abbrev pub Alarm : Type 0
Alarm = Reverse (ℕ × ℕ × ℕ)

abbrev pub alarm : ℕ → ℕ → ℕ → Alarm
alarm at serial place = record { 0 = (at, serial, place) }

-- the sooner one is the greater
abbrev pub in_order : Alarm → Alarm → Ordering
in_order x y = ordering_then (ordering_then (nat_cmp y.0.0 x.0.0) (nat_cmp y.0.1 x.0.1)) (nat_cmp y.0.2 x.0.2)

abbrev pub times : List Alarm → List ℕ
times alarms = map (λ a. a.0.0) alarms

-- when the next guest is looked at
abbrev pub next_time : List Alarm → Option ℕ
next_time alarms = soonest (times alarms)

-- that alarm was the next one, and rings by now: it is taken out
abbrev pub HasRung : ℕ → Alarm → List Alarm → List Alarm → Type 0
HasRung now a old new = (a.0.0 ≤ now) × (next_time old ≡ Some a.0.0) × IsPermutation old (a ∷ new)

-- no alarm rings by now
abbrev pub WaitsBeyond : ℕ → Option ℕ → Type 0
WaitsBeyond now None = ⊤
WaitsBeyond now (Some at) = now < at
