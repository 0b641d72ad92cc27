-- What a client's lock keeps: a core's world, and the lanes of its seats.
use Rattle.std.specs.Prelude.{◌≡◌, ℕ, if◌then◌else◌, ◌==◌, List, [], Option, Some, None, Ok}
use Rattle.std.specs.Prelude.{Err}
use Rattle.std.specs.Option.{option_map, option_map_or}
use Rattle.rt_world.specs.declared.step.Step.{Step}
use Rattle.rt_world.specs.World.{World}
use Rattle.rt_world.specs.Answers.{Answer, step}
use Rattle.rt_world.specs.Limited.{IsWithin}
use Rattle.rt_world.specs.Sound.{IsSound}
use Rattle.rt_world.specs.laws.Holds.{IsSteady}
use Rattle.rt_mail.specs.declared.item.Receipt.{Receipt}
use Rattle.rt_mail.specs.Mailbox.{Known, nothing_known, known_of}
use Rattle.rt_mail.specs.Lanes.{Line, signed_lane}
use Rattle.rt_client.specs.Seats.{reflection, told_to, receipt_of, receipts_in, does_close}
use Rattle.rt_client.specs.Lanes.{lane_of, with_told}

-- ---- what is kept

-- all that a lane's seat knows once it has taken what was handed over and then what waits; none where
-- the lane has failed
abbrev pub foreseen : Line → Option Known
foreseen lane = option_map (λ m. known_of m lane.waiting) lane.mirror

-- for each open seat that is just what the core knows of it
abbrev pub AreTold : World → List (Option Line) → Type 0
AreTold w lanes =
    (seat : ℕ) (lane : Line) → lane_of lanes seat ≡ Some lane
    → foreseen lane ≡ Some (reflection w seat)

-- a core's world, none once it has failed, and the lanes of the seats
pub record Held : Type 0 where
  pub core : Option World
  pub lanes : List (Option Line)

-- the core has not failed, its world holds what holds between steps, and each open seat is told what
-- the core knows of it
pub record IsKept (h : Held) : Type 0 where
  pub world : World
  pub core : h.core ≡ Some world
  pub sound : IsSound world
  pub told : AreTold world h.lanes

-- of a seat that has no lane the core knows nothing
abbrev pub AreUnknown : World → List (Option Line) → Type 0
AreUnknown w lanes =
    (seat : ℕ) → lane_of lanes seat ≡ None → reflection w seat ≡ nothing_known

-- no receipt waits: each call is answered at once, in its seat's ring
abbrev pub NoReceiptWaits : List (Option Line) → Type 0
NoReceiptWaits lanes =
    (seat : ℕ) (lane : Line) → lane_of lanes seat ≡ Some lane → receipts_in lane.waiting ≡ []

-- all of it, so that a seat can be opened where there is no lane; and the world is one that steps lead to,
-- as far as the laws of its steps ask for it: what the listens brought belongs to them, and no limit is
-- passed
pub record IsWhole (h : Held) : Type 0 where
  pub kept : IsKept h
  pub unknown : (w : World) → h.core ≡ Some w → AreUnknown w h.lanes
  pub steady : (w : World) → h.core ≡ Some w → IsSteady w
  pub within : (w : World) → h.core ≡ Some w → IsWithin w
  pub answered : NoReceiptWaits h.lanes

-- ---- a step

-- the seat's lane from which all that waited was handed over, and then the receipt of the seat's call
abbrev pub signed_by : ℕ → Option (ℕ × Receipt) → Line → Line
signed_by seat r lane = option_map_or (λ r. if r.0 == seat then signed_lane r.1 lane else lane) r lane

-- the lane of a seat after an answer to a step: the receipt of its own call, and then its notes, which
-- wait; it goes where the step closes the seat
abbrev pub lane_after : ℕ → World → Step → Answer → Option Line → Option Line
lane_after seat w s (Ok report) lane =
    if does_close seat s then None
    else option_map (λ l. with_told (told_to seat report.notes) (signed_by seat (receipt_of w s) l)) lane
lane_after seat w s (Err e) lane = lane

-- the world's step, and what it leaves of each lane
pub record MakesStep (w : World) (s : Step) (old new : Held) : Type 0 where
  pub world : new.core ≡ Some (step w s).0
  pub lanes :
      (seat : ℕ) → lane_of new.lanes seat ≡ lane_after seat w s (step w s).1 (lane_of old.lanes seat)
