-- What is handed over, closed and taken out of a client's locked value, and what it shows.
use Rattle.std.specs.Prelude.{◌≡◌, ℕ, zero, suc, take, List, [], ◌++◌, Option, Some}
use Rattle.rt_mail.specs.declared.item.Item.{Item}
use Rattle.rt_cover.specs.declared.listen.Kept.{Kept}
use Rattle.rt_wire.specs.declared.client.ClientMessage.{ClientMessage}
use Rattle.rt_world.specs.declared.step.Step.{Step}
use Rattle.rt_world.specs.World.{World, cover}
use Rattle.rt_sync.specs.Core.{first_message, without_first}
use Rattle.rt_mail.specs.Lanes.{Line, Ring, with_items}
use Rattle.rt_client.specs.declared.shared.Done.{Done}
use Rattle.rt_client.specs.declared.error.ClientError.{ClientError}
use Rattle.rt_client.specs.declared.error.ClientError.TheVariants.{Failed, WrongSeat, MailboxFull}
use Rattle.rt_client.specs.declared.error.ClientError.TheVariants.{TooManySeats, Core, NoMemory}
use Rattle.rt_client.specs.Lanes.{lane_of, IsChanged, settled, settled_ring}
use Rattle.rt_client.specs.Shared.{Held}
use Rattle.rt_client.specs.Calls.{Locked, Seated, HasFailed, IsWrong, IsOpen, IsSame, Fails, Keeps}
use Rattle.rt_client.specs.Calls.{MakesOn, RefusesOn}

-- ---- what is held

-- an open seat's lane hands over as many items as the ring has room for, and nothing else changes
pub record HandsDue (old : Held) (seat : ℕ) (had : Ring) (new : Held) (left : Ring) : Type 0 where
  pub lane : Line
  pub is_open : lane_of old.lanes seat ≡ Some lane
  pub core : new.core ≡ old.core
  pub lanes : IsChanged seat (Some (settled had lane)) old.lanes new.lanes
  pub ring : left ≡ settled_ring had lane

-- after want of memory the ring has some first items of what waited: none, some or all
pub record HandsPart (old : Held) (seat : ℕ) (had left : Ring) : Type 0 where
  pub lane : Line
  pub is_open : lane_of old.lanes seat ≡ Some lane
  pub count : ℕ
  pub ring : left ≡ with_items (take count lane.waiting) had

-- the first message that is to be sent is taken out, if there is one
pub record TakesFirst (old : Held) (message : Option ClientMessage) (new : Held) : Type 0 where
  pub world : World
  pub core : old.core ≡ Some world
  pub first : message ≡ first_message world.outgoing
  pub left : new ≡ record old { core = Some (without_first world) }

-- the listens that are kept, by tag
pub record HasCover (h : Held) (kept : List Kept) : Type 0 where
  pub world : World
  pub core : h.core ≡ Some world
  pub listens : kept ≡ cover world

-- ---- the locked value

-- an open seat's ring is filled from its lane; no step is made
pub record Settles (old : Locked) (seat : Seated) (new : Locked) (left : Seated) : Type 0 where
  pub before : Held
  pub held : old.held ≡ Some before
  pub own : seat.client ≡ old.number
  pub after : Held
  pub locked : new ≡ record old { held = Some after }
  pub ring : Ring
  pub seated : left ≡ record seat { ring = ring }
  pub hands : HandsDue before seat.number seat.ring after ring

-- why it is not; only want of memory changes something: the client has failed then, and the ring has
-- some first items of what waited
abbrev pub RefusesSettle : Locked → Seated → ClientError → Locked → Seated → Type 0
RefusesSettle old seat Failed new left = HasFailed old × IsSame old seat new left
RefusesSettle old seat WrongSeat new left = IsWrong old seat × IsSame old seat new left
RefusesSettle old seat MailboxFull new left = ⊥
RefusesSettle old seat TooManySeats new left = ⊥
RefusesSettle old seat (Core why) new left = ⊥
RefusesSettle old seat NoMemory new left =
    (before : Held) × (old.held ≡ Some before) × (seat.client ≡ old.number)
    × (ring : Ring) × HandsPart before seat.number seat.ring ring
    × (left ≡ record seat { ring = ring }) × Fails old new

-- the first items that wait in the seat's lane, so many, in a value that the lock keeps
pub record IsHanded (seat : Seated) (items : List Item) : Type 0 where
  pub locked : Locked
  pub keeps : Keeps locked
  pub before : Held
  pub lane : Line
  pub is_open : IsOpen locked before seat lane
  pub count : ℕ
  pub first : items ≡ take count lane.waiting

-- what comes by so many settlings, one after another
abbrev pub Comes : ℕ → Seated → List Item → Type 0
Comes zero seat came = came ≡ []
Comes (suc n) seat came =
    (before : List Item) × (last : List Item) × (came ≡ before ++ last) × Comes n seat before
    × IsHanded seat last

-- the step that the end of an open seat is
pub record Closes (old : Locked) (seat : Seated) (new : Locked) : Type 0 where
  pub before : Held
  pub lane : Line
  pub is_open : IsOpen old before seat lane
  pub done : Done
  pub made : MakesOn old (Step.CloseSeat seat.number) done new

-- the step of an open seat's end is refused
abbrev pub RefusesEnd : Locked → Seated → ClientError → Locked → Type 0
RefusesEnd old seat why new =
    (before : Held) × (lane : Line) × IsOpen old before seat lane
    × RefusesOn old (Step.CloseSeat seat.number) why new

-- why a seat is not closed
abbrev pub RefusesClose : Locked → Seated → ClientError → Locked → Type 0
RefusesClose old seat Failed new = HasFailed old × (new ≡ old)
RefusesClose old seat WrongSeat new = IsWrong old seat × (new ≡ old)
RefusesClose old seat MailboxFull new = ⊥
RefusesClose old seat TooManySeats new = ⊥
RefusesClose old seat (Core why) new = RefusesEnd old seat (Core why) new
RefusesClose old seat NoMemory new = RefusesEnd old seat NoMemory new

-- the first message that is to be sent is taken out; no step is made
pub record TakesMessage (old : Locked) (message : Option ClientMessage) (new : Locked) : Type 0 where
  pub before : Held
  pub held : old.held ≡ Some before
  pub after : Held
  pub locked : new ≡ record old { held = Some after }
  pub takes : TakesFirst before message after

-- the listens that are kept are shown
pub record ShowsCover (old : Locked) (kept : List Kept) : Type 0 where
  pub before : Held
  pub held : old.held ≡ Some before
  pub shows : HasCover before kept

-- why they are not
abbrev pub RefusesCover : Locked → ClientError → Type 0
RefusesCover old Failed = HasFailed old
RefusesCover old WrongSeat = ⊥
RefusesCover old MailboxFull = ⊥
RefusesCover old TooManySeats = ⊥
RefusesCover old (Core why) = ⊥
RefusesCover old NoMemory = (before : Held) × (old.held ≡ Some before)
