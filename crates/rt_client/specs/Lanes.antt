-- The lanes of a client's seats.
use Rattle.std.specs.Prelude.{◌≡◌, ℕ, zero, suc, min, length, take, ◌++◌, List, if◌then◌else◌, ◌==◌}
use Rattle.std.specs.Prelude.{[], ◌∷◌, ◌<◌, Option, Some, None}
use Rattle.std.specs.List.{slice_get}
use Rattle.std.specs.Option.{option_map, option_and_then}
use Rattle.rt_world.specs.declared.report.Note.{Note}
use Rattle.rt_mail.specs.declared.error.MailError.{MailError}
use Rattle.rt_mail.specs.declared.item.Item.{Item}
use Rattle.rt_mail.specs.declared.item.Item.TheVariants as item
use Rattle.rt_mail.specs.declared.item.Receipt.{Receipt}
use Rattle.rt_mail.specs.Mailbox.{nothing_known}
use Rattle.rt_mail.specs.Lanes.{Line, Ring, room, with_items, without_first, why_not}
use Rattle.rt_client.specs.Seats.{told_to}

-- nothing waits in a lane, and nothing was handed over
abbrev pub new_lane : Line
new_lane = record { waiting = []; mirror = Some nothing_known }

-- the lane of a seat; none where no seat has that number, or it is closed
abbrev pub lane_of : List (Option Line) → ℕ → Option Line
lane_of lanes zero = None
lane_of lanes (suc place) = option_and_then (λ lane. lane) (slice_get lanes place)

-- the lane with more items behind what waits
abbrev pub with_told : List Item → Line → Line
with_told items lane = record lane { waiting = lane.waiting ++ items }

-- each open seat's lane has the seat's notes behind what waited; those of closed seats are dropped
abbrev pub AreQueued : List Note → List (Option Line) → List (Option Line) → Type 0
AreQueued notes old new =
    (seat : ℕ) → lane_of new seat ≡ option_map (with_told (told_to seat notes)) (lane_of old seat)

-- some first notes are queued, and the lane of the next one's seat, which is open, has no memory for
-- it or has failed
pub record StopsAt (notes : List Note) (old : List (Option Line)) (why : MailError)
    (new : List (Option Line)) : Type 0 where
  pub before : ℕ
  pub note : Note
  pub next : slice_get notes before ≡ Some note
  pub lane : Line
  pub is_open : lane_of old note.seat ≡ Some lane
  pub refused : why ≡ why_not lane
  pub queued : AreQueued (take before notes) old new

-- the one seat's lane is changed
abbrev pub IsChanged : ℕ → Option Line → List (Option Line) → List (Option Line) → Type 0
IsChanged seat lane old new = (n : ℕ) → lane_of new n ≡ (if seat == n then lane else lane_of old n)

-- how many items a lane hands over to a ring
abbrev pub due : Ring → Line → ℕ
due ring lane = min (length lane.waiting) (room ring)

-- the lane and the ring after it
abbrev pub settled : Ring → Line → Line
settled ring lane = without_first (due ring lane) lane

abbrev pub settled_ring : Ring → Line → Ring
settled_ring ring lane = with_items (take (due ring lane) lane.waiting) ring

-- the lane is open, and the ring has room for all that waits and one more
abbrev pub HasRoom : Ring → Option Line → Type 0
HasRoom ring None = ⊥
HasRoom ring (Some lane) = length lane.waiting < room ring

-- the ring to which all that waits was handed over, and then a receipt
abbrev pub signed_ring : Receipt → Ring → Line → Ring
signed_ring receipt ring lane = with_items (lane.waiting ++ item.Receipt receipt ∷ []) ring
