-- How a seat's call finds room for its receipt: where the ring has none, all that it holds and all that waits behind
-- it is taken out of it, in order, and given before what comes then.
use Rattle.std.specs.Prelude.{◌≡◌, ◌≢◌, ◌⊎◌, ◌<◌, ◌≤◌, ℕ, List, [], ◌++◌, length, take, Some}
use Rattle.rt_mail.specs.declared.item.Item.{Item}
use Rattle.rt_mail.specs.Lanes.{Line, room, without_first}
use Rattle.rt_world.specs.declared.step.Call.{Call}
use Rattle.rt_client.specs.declared.shared.Done.{Done}
use Rattle.rt_client.specs.declared.error.ClientError.{ClientError}
use Rattle.rt_client.specs.declared.error.ClientError.TheVariants as client
use Rattle.rt_client.specs.Calls as calls
use Rattle.rt_client.specs.Calls.{IsOpen, Locked, Seated}
use Rattle.rt_client.specs.Lanes.{IsChanged}
use Rattle.rt_client.specs.Shared.{Held}

-- the seat is open
abbrev pub IsSeated : Locked → Seated → Type 0
IsSeated old seat = (before : Held) × (lane : Line) × IsOpen old before seat lane

-- it is, and its ring has no room for what waits and a receipt
pub record IsFull (old : Locked) (seat : Seated) : Type 0 where
  pub before : Held
  pub lane : Line
  pub is_open : IsOpen old before seat lane
  pub full : room seat.ring ≤ length lane.waiting

-- the ring has a place at least
abbrev pub CanHold : Seated → Type 0
CanHold seat = 0 < seat.ring.capacity

-- the seat's lane hands over its first items, so many. The seat has still to give what it had, and then these: some
-- are taken out of its ring, and the others are in it. Nothing else changes.
pub record TakesOut (old : Locked) (seat : Seated) (taken : List Item) (new : Locked) (left : Seated)
    (out : List Item) : Type 0 where
  pub before : Held
  pub lane : Line
  pub is_open : IsOpen old before seat lane
  pub handed : ℕ
  pub after : Held
  pub locked : new ≡ record old { held = Some after }
  pub core : after.core ≡ before.core
  pub lanes : IsChanged seat.number (Some (without_first handed lane)) before.lanes after.lanes
  pub kept : left ≡ record seat { ring = record seat.ring { items = left.ring.items } }
  pub items : out ++ left.ring.items ≡ (taken ++ seat.ring.items) ++ take handed lane.waiting

-- all that the ring holds and that waits is taken out
pub record TakesAll (old : Locked) (seat : Seated) (taken : List Item) (new : Locked) (left : Seated)
    (out : List Item) : Type 0 where
  pub takes : TakesOut old seat taken new left out
  pub ring : left.ring.items ≡ []
  pub lane : length takes.lane.waiting ≤ takes.handed

-- nothing is taken out
abbrev pub IsUntouched : Locked → Seated → List Item → Locked → Seated → List Item → Type 0
IsUntouched old seat taken new left out = (new ≡ old) × (left ≡ seat) × (out ≡ taken)

-- a call is made of the seat as it is, or, where its ring is full, once all is taken out
abbrev pub MakesRoom : Locked → Seated → List Item → Locked → Seated → List Item → Type 0
MakesRoom old seat taken new left out =
    IsUntouched old seat taken new left out ⊎ (IsFull old seat × TakesAll old seat taken new left out)

-- so it is made
pub record MakesCall (old : Locked) (seat : Seated) (taken : List Item) (c : Call) (done : Done) (new : Locked)
    (left : Seated) (out : List Item) : Type 0 where
  pub shared : Locked
  pub wide : Seated
  pub room : MakesRoom old seat taken shared wide out
  pub made : calls.MakesCall shared wide c done new left

-- so it is refused, and never for want of room in the ring
pub record IsUncalled (old : Locked) (seat : Seated) (taken : List Item) (c : Call) (why : ClientError)
    (new : Locked) (left : Seated) (out : List Item) : Type 0 where
  pub shared : Locked
  pub wide : Seated
  pub room : MakesRoom old seat taken shared wide out
  pub refused : calls.RefusesCall shared wide c why new left
  pub not_full : why ≢ client.MailboxFull

-- or memory lacks to take all out of the full ring: some of it may be taken out, and the call is not made
pub record LacksRoom (old : Locked) (seat : Seated) (taken : List Item) (why : ClientError) (new : Locked)
    (left : Seated) (out : List Item) : Type 0 where
  pub memory : why ≡ client.NoMemory
  pub full : IsFull old seat
  pub some : IsUntouched old seat taken new left out ⊎ TakesOut old seat taken new left out

abbrev pub RefusesCall : Locked → Seated → List Item → Call → ClientError → Locked → Seated → List Item → Type 0
RefusesCall old seat taken c why new left out =
    IsUncalled old seat taken c why new left out ⊎ LacksRoom old seat taken why new left out
