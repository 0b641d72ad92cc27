-- What calls make of a client's locked value and of the caller's seat.
use Rattle.std.specs.Prelude.{◌≡◌, ◌≤◌, ℕ, length, [], ◌∷◌, ◌++◌, take, if◌then◌else◌, ◌==◌}
use Rattle.std.specs.Prelude.{Bool, false, Option, Some, None, Ok, Err}
use Rattle.std.specs.Option.{IfSome}
use Rattle.rt_push.specs.PushIds.{Stamp}
use Rattle.rt_world.specs.declared.step.Call.{Call}
use Rattle.rt_world.specs.declared.error.CoreError.{CoreError}
use Rattle.rt_world.specs.declared.report.Outcome.{Outcome}
use Rattle.rt_world.specs.declared.report.Report.{Report}
use Rattle.rt_world.specs.declared.step.Step.{Step}
use Rattle.rt_world.specs.Calls.{step_of}
use Rattle.rt_world.specs.World.{World}
use Rattle.rt_world.specs.Refusals.{refusal, is_stale}
use Rattle.rt_world.specs.Answers.{step}
use Rattle.rt_mail.specs.declared.item.Item.TheVariants as item
use Rattle.rt_mail.specs.declared.item.Receipt.{Receipt}
use Rattle.rt_mail.specs.Lanes.{Line, Ring, room, with_items}
use Rattle.rt_client.specs.declared.shared.Done.{Done}
use Rattle.rt_client.specs.declared.error.ClientError.{ClientError}
use Rattle.rt_client.specs.declared.error.ClientError.TheVariants.{Failed, WrongSeat, MailboxFull}
use Rattle.rt_client.specs.declared.error.ClientError.TheVariants.{TooManySeats, Core, NoMemory}
use Rattle.rt_client.specs.Seats.{receipt_of}
use Rattle.rt_client.specs.Lanes.{lane_of, signed_ring, HasRoom}
use Rattle.rt_client.specs.Shared.{Held, IsWhole, MakesStep}

-- ---- a client and its seats

-- the client's number, what its last push id was made of, what it holds, none once it has lacked memory,
-- and whether those who wait for it were told to stop
pub record Locked : Type 0 where
  pub number : ℕ
  pub ids : Option Stamp
  pub held : Option Held
  pub stopped : Bool

-- a seat: its client's number, its own, and its ring
pub record Seated : Type 0 where
  pub client : ℕ
  pub number : ℕ
  pub ring : Ring

-- the seat's lane; none where it is another client's, or closed
abbrev pub own_lane : Locked → Held → Seated → Option Line
own_lane locked held seat =
    if seat.client == locked.number then lane_of held.lanes seat.number else None

-- the client has failed
abbrev pub HasFailed : Locked → Type 0
HasFailed old = old.held ≡ None

-- a seat of another client, or one that is closed
pub record IsWrong (old : Locked) (seat : Seated) : Type 0 where
  pub before : Held
  pub held : old.held ≡ Some before
  pub none : own_lane old before seat ≡ None

-- an open seat of the client
pub record IsOpen (old : Locked) (before : Held) (seat : Seated) (lane : Line) : Type 0 where
  pub held : old.held ≡ Some before
  pub own : own_lane old before seat ≡ Some lane

-- what the lock keeps: the client has failed, or what it holds is whole
abbrev pub Keeps : Locked → Type 0
Keeps locked = IfSome locked.held IsWhole

-- nothing is changed
abbrev pub IsSame : Locked → Seated → Locked → Seated → Type 0
IsSame old seat new left = (new ≡ old) × (left ≡ seat)

-- the client fails
abbrev pub Fails : Locked → Locked → Type 0
Fails old new = new ≡ record old { held = None }

-- ---- what is held

-- the world's step is made, and answered with the outcome and the number that its report has
pub record Made (old : Held) (s : Step) (done : Done) (new : Held) : Type 0 where
  pub world : World
  pub core : old.core ≡ Some world
  pub report : Report
  pub answer : (step world s).1 ≡ Ok report
  pub told : done ≡ record { outcome = report.outcome; given = report.given }
  pub makes : MakesStep world s old new

-- the world refuses the step
pub record IsRefused (old : Held) (s : Step) (why : CoreError) : Type 0 where
  pub world : World
  pub core : old.core ≡ Some world
  pub answer : (step world s).1 ≡ Err why

-- want of memory hides no refusal: the world neither refuses the step, nor is it stale
pub record LacksMemory (old : Held) (s : Step) : Type 0 where
  pub world : World
  pub core : old.core ≡ Some world
  pub not_refused : refusal world s ≡ None
  pub not_stale : is_stale world s ≡ false

-- a refusal of a step: what is held stays as it is, or memory lacked
abbrev pub Refuses : Held → Step → ClientError → Held → Type 0
Refuses old s Failed new = ⊥
Refuses old s WrongSeat new = ⊥
Refuses old s MailboxFull new = ⊥
Refuses old s TooManySeats new = ⊥
Refuses old s (Core why) new = IsRefused old s why × (new ≡ old)
Refuses old s NoMemory new = LacksMemory old s

-- the step that an open seat's call is; its ring has all that waited, and then the receipt
pub record Called (old : Held) (seat : ℕ) (had : Ring) (c : Call) (done : Done) (new : Held)
    (left : Ring) : Type 0 where
  pub made : Made old (step_of seat c) done new
  pub lane : Line
  pub is_open : lane_of old.lanes seat ≡ Some lane
  pub receipt : Receipt
  pub signed : receipt_of made.world (step_of seat c) ≡ Some (seat, receipt)
  pub ring : left ≡ signed_ring receipt had lane

-- the ring has some first items of what waited and of the receipt behind it: none, some or all
pub record HandsFirst (lane : Line) (receipt : Receipt) (had left : Ring) : Type 0 where
  pub count : ℕ
  pub ring : left ≡ with_items (take count (lane.waiting ++ item.Receipt receipt ∷ [])) had

-- so it is after want of memory
pub record HandsSome (old : Held) (seat : ℕ) (had : Ring) (c : Call) (left : Ring) : Type 0 where
  pub world : World
  pub core : old.core ≡ Some world
  pub lane : Line
  pub is_open : lane_of old.lanes seat ≡ Some lane
  pub receipt : Receipt
  pub signed : receipt_of world (step_of seat c) ≡ Some (seat, receipt)
  pub hands : HandsFirst lane receipt had left

-- a refusal of a seat's call: what is held and the ring stay as they are, or memory lacked
abbrev pub RefusesCalled : Held → ℕ → Ring → Call → ClientError → Held → Ring → Type 0
RefusesCalled old seat ring c Failed new left = ⊥
RefusesCalled old seat ring c WrongSeat new left = ⊥
RefusesCalled old seat ring c MailboxFull new left = ⊥
RefusesCalled old seat ring c TooManySeats new left = ⊥
RefusesCalled old seat ring c (Core why) new left =
    IsRefused old (step_of seat c) why × (new ≡ old) × (left ≡ ring)
RefusesCalled old seat ring c NoMemory new left =
    LacksMemory old (step_of seat c) × HandsSome old seat ring c left

-- ---- steps on the locked value

-- one step of the world, which is no seat's call
pub record MakesOn (old : Locked) (s : Step) (done : Done) (new : Locked) : Type 0 where
  pub before : Held
  pub held : old.held ≡ Some before
  pub after : Held
  pub left : new ≡ record old { held = Some after }
  pub made : Made before s done after

-- why it is refused; only want of memory changes something: the client has failed then
abbrev pub RefusesOn : Locked → Step → ClientError → Locked → Type 0
RefusesOn old s Failed new = HasFailed old × (new ≡ old)
RefusesOn old s WrongSeat new = ⊥
RefusesOn old s MailboxFull new = ⊥
RefusesOn old s TooManySeats new = ⊥
RefusesOn old s (Core why) new =
    (before : Held) × (old.held ≡ Some before) × IsRefused before s why × (new ≡ old)
RefusesOn old s NoMemory new =
    (before : Held) × (old.held ≡ Some before) × LacksMemory before s × Fails old new

-- the step that the call of an open seat is
pub record MakesCall (old : Locked) (seat : Seated) (c : Call) (done : Done) (new : Locked)
    (left : Seated) : Type 0 where
  pub before : Held
  pub held : old.held ≡ Some before
  pub own : seat.client ≡ old.number
  pub after : Held
  pub locked : new ≡ record old { held = Some after }
  pub ring : Ring
  pub seated : left ≡ record seat { ring = ring }
  pub called : Called before seat.number seat.ring c done after ring

-- why it is refused; only want of memory changes something: the client has failed then, and the ring
-- has some first items of what waited and the receipt behind it
abbrev pub RefusesCall : Locked → Seated → Call → ClientError → Locked → Seated → Type 0
RefusesCall old seat c Failed new left = HasFailed old × IsSame old seat new left
RefusesCall old seat c WrongSeat new left = IsWrong old seat × IsSame old seat new left
RefusesCall old seat c MailboxFull new left =
    (before : Held) × (lane : Line) × IsOpen old before seat lane
    × (room seat.ring ≤ length lane.waiting) × IsSame old seat new left
RefusesCall old seat c TooManySeats new left = ⊥
RefusesCall old seat c (Core why) new left =
    (before : Held) × (old.held ≡ Some before) × HasRoom seat.ring (own_lane old before seat)
    × IsRefused before (step_of seat.number c) why × IsSame old seat new left
RefusesCall old seat c NoMemory new left =
    (before : Held) × (old.held ≡ Some before) × HasRoom seat.ring (own_lane old before seat)
    × LacksMemory before (step_of seat.number c)
    × (ring : Ring) × HandsSome before seat.number seat.ring c ring
    × (left ≡ record seat { ring = ring }) × Fails old new

-- the call, where it is handed back on a refusal: what it asks for was not looked at
abbrev pub handed_back : ClientError → Call → Option Call
handed_back Failed c = Some c
handed_back WrongSeat c = Some c
handed_back MailboxFull c = Some c
handed_back TooManySeats c = None
handed_back (Core why) c = None
handed_back NoMemory c = None

-- ---- what they answer

-- a seat's call is made, and its step gives the new listener or request that number
pub record Numbers (old : Locked) (seat : Seated) (c : Call) (n : ℕ) (new : Locked)
    (left : Seated) : Type 0 where
  pub done : Done
  pub given : done.given ≡ Some n
  pub made : MakesCall old seat c done new left

-- a step that is no seat's call is made, and has that outcome
pub record Comes (old : Locked) (s : Step) (outcome : Outcome) (new : Locked) : Type 0 where
  pub done : Done
  pub told : done.outcome ≡ outcome
  pub made : MakesOn old s done new
