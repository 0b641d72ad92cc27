-- What the lock keeps is kept.
use Rattle.std.specs.Prelude.{◌≡◌, ℕ, List, Option, Some, None}
use Rattle.std.specs.Option.{option_map}
use Rattle.rt_world.specs.declared.limits.Limits.{Limits}
use Rattle.rt_world.specs.declared.step.Call.{Call}
use Rattle.rt_world.specs.declared.step.Step.{Step}
use Rattle.rt_world.specs.World.{World, empty_world}
use Rattle.rt_wire.specs.declared.client.ClientMessage.{ClientMessage}
use Rattle.rt_mail.specs.Lanes.{Line, Ring, without_first}
use Rattle.rt_client.specs.declared.shared.Done.{Done}
use Rattle.rt_client.specs.Seats.{caller_of}
use Rattle.rt_client.specs.Lanes.{new_lane, lane_of, IsChanged}
use Rattle.rt_client.specs.Shared.{AreTold, Held, IsKept, IsWhole, MakesStep}
use Rattle.rt_client.specs.Calls.{Made, Called}
use Rattle.rt_client.specs.Settling.{HandsDue, TakesFirst}

-- by each step, whatever it is answered
abbrev pub StepKeeps : Type 0
StepKeeps =
    (old new : Held) (w : World) (s : Step) → IsKept old → old.core ≡ Some w → MakesStep w s old new
    → IsKept new

-- at first, where no step was made and each lane is new
abbrev pub NewIsKept : Type 0
NewIsKept =
    (limits : Limits) (lanes : List (Option Line))
    → ((seat : ℕ) (lane : Line) → lane_of lanes seat ≡ Some lane → lane ≡ new_lane)
    → IsKept (record { core = Some (empty_world limits); lanes = lanes })

-- by a lane that hands over some of what waits
abbrev pub HandingKeeps : Type 0
HandingKeeps =
    (w : World) (old new : List (Option Line)) → AreTold w old
    → ((seat : ℕ) → (n : ℕ) × (lane_of new seat ≡ option_map (without_first n) (lane_of old seat)))
    → AreTold w new

-- so by a seat's lane that fills its ring
abbrev pub SettlingKeeps : Type 0
SettlingKeeps =
    (old new : Held) (seat : ℕ) (had left : Ring) → IsKept old → HandsDue old seat had new left
    → IsKept new

-- and by a message that is taken out
abbrev pub TakingKeeps : Type 0
TakingKeeps =
    (old new : Held) (message : Option ClientMessage) → IsKept old → TakesFirst old message new
    → IsKept new

-- ---- and of a seat that has no lane the core knows nothing

-- at first
abbrev pub NewIsWhole : Type 0
NewIsWhole =
    (limits : Limits) (lanes : List (Option Line))
    → ((seat : ℕ) (lane : Line) → lane_of lanes seat ≡ Some lane → lane ≡ new_lane)
    → IsWhole (record { core = Some (empty_world limits); lanes = lanes })

-- after a step that is no seat's call
abbrev pub StepStaysWhole : Type 0
StepStaysWhole =
    (old new : Held) (s : Step) (done : Done) → IsWhole old → caller_of s ≡ None
    → Made old s done new → IsWhole new

-- after the call of an open seat
abbrev pub CallStaysWhole : Type 0
CallStaysWhole =
    (old new : Held) (seat : ℕ) (had left : Ring) (c : Call) (done : Done) → IsWhole old
    → Called old seat had c done new left → IsWhole new

-- where a seat's lane fills its ring
abbrev pub SettlingStaysWhole : Type 0
SettlingStaysWhole =
    (old new : Held) (seat : ℕ) (had left : Ring) → IsWhole old → HandsDue old seat had new left
    → IsWhole new

-- where a message is taken out
abbrev pub TakingStaysWhole : Type 0
TakingStaysWhole =
    (old new : Held) (message : Option ClientMessage) → IsWhole old → TakesFirst old message new
    → IsWhole new

-- and where a seat that has no lane is opened
abbrev pub OpeningStaysWhole : Type 0
OpeningStaysWhole =
    (old new : Held) (seat : ℕ) → IsWhole old → lane_of old.lanes seat ≡ None
    → new.core ≡ old.core → IsChanged seat (Some new_lane) old.lanes new.lanes → IsWhole new
