-- A client as it is opened, and its seats.
use Rattle.std.specs.Prelude.{◌≡◌, ◌<◌, ◌≤◌, ℕ, ◌+◌, false, List, [], ◌∷◌, replicate, Option}
use Rattle.std.specs.Prelude.{Some, None, is_some, IsTrue}
use Rattle.rt_world.specs.declared.limits.Limits.{Limits}
use Rattle.rt_world.specs.World.{empty_world, limits_from}
use Rattle.rt_mail.specs.Lanes.{Line, new_ring}
use Rattle.rt_client.specs.declared.error.ClientError.{ClientError}
use Rattle.rt_client.specs.declared.error.ClientError.TheVariants.{Failed, WrongSeat, MailboxFull}
use Rattle.rt_client.specs.declared.error.ClientError.TheVariants.{TooManySeats, Core, NoMemory}
use Rattle.rt_client.specs.Lanes.{new_lane, lane_of, IsChanged}
use Rattle.rt_client.specs.Shared.{Held}
use Rattle.rt_client.specs.Calls.{Locked, Seated, HasFailed}

-- no step was made, no push id given, nobody told to stop, and nothing waits for the seats, which are
-- all open
abbrev pub new_locked : ℕ → ℕ → Limits → Locked
new_locked number seats limits = record {
  number = number;
  ids = None;
  held = Some (record {
    core = Some (empty_world (limits_from limits));
    lanes = replicate seats (Some new_lane);
  });
  stopped = false;
}

-- a seat for each capacity of a ring, with numbers from a first one on
abbrev pub seats_from : ℕ → ℕ → List ℕ → List Seated
seats_from client first [] = []
seats_from client first (capacity ∷ rest) =
    record { client = client; number = first; ring = new_ring capacity }
    ∷ seats_from client (first + 1) rest

-- ---- a seat that is opened later

-- each seat below that number is open
abbrev pub AreOpenBelow : ℕ → List (Option Line) → Type 0
AreOpenBelow number lanes =
    (n : ℕ) → 1 ≤ n → n < number → IsTrue (is_some (lane_of lanes n))

-- it gets the first number whose seat is not open, of those from 1 to 64, a ring of that capacity, and
-- a lane in which nothing waits; no step is made
pub record OpensSeat (old : Locked) (capacity : ℕ) (new : Locked) (seat : Seated) : Type 0 where
  pub before : Held
  pub held : old.held ≡ Some before
  pub number : ℕ
  pub one : 1 ≤ number
  pub most : number ≤ 64
  pub free : lane_of before.lanes number ≡ None
  pub first : AreOpenBelow number before.lanes
  pub after : Held
  pub locked : new ≡ record old { held = Some after }
  pub core : after.core ≡ before.core
  pub lanes : IsChanged number (Some new_lane) before.lanes after.lanes
  pub seated : seat ≡ record { client = old.number; number = number; ring = new_ring capacity }

-- why there is none: the client has failed, all 64 seats are open, or memory lacks for one that is not
abbrev pub RefusesSeat : Locked → ClientError → Type 0
RefusesSeat old Failed = HasFailed old
RefusesSeat old WrongSeat = ⊥
RefusesSeat old MailboxFull = ⊥
RefusesSeat old TooManySeats = (before : Held) × (old.held ≡ Some before) × AreOpenBelow 65 before.lanes
RefusesSeat old (Core why) = ⊥
RefusesSeat old NoMemory =
    (before : Held) × (old.held ≡ Some before) × (number : ℕ) × (number ≤ 64)
    × (lane_of before.lanes number ≡ None)
