-- Seats' calls on the locked value.
use Rattle.std.proofs.Common.{◌≡◌, ℕ, ◌+◌, ◌<◌, Bool, cond, ◌==◌, List, sym, ap, subst, ◌∙◌, arith, Option, Some, None, IsTrue}
use Rattle.std.specs.Cmp.{nat_eq_equiv}
use Rattle.rt_wire.specs.declared.server.ServerMessage.{ServerMessage}
use Rattle.rt_wire.specs.declared.server.ServerMessage.TheVariants as message
use Rattle.rt_world.specs.declared.error.CoreError.{CoreError}
use Rattle.rt_world.specs.Calls.{step_of_message}
use Rattle.rt_push.specs.PushIds.{Stamp}
use Rattle.rt_mail.specs.Lanes.{Line, Ring, new_ring}
use Rattle.rt_world.specs.declared.step.Call.{Call}
use Rattle.rt_client.specs.declared.shared.Done.{Done}
use Rattle.rt_client.specs.declared.error.ClientError.TheVariants.{Core, NoMemory}
use Rattle.rt_client.specs.Seats.{caller_of, closed_by}
use Rattle.rt_client.specs.Lanes.{new_lane, lane_of, IsChanged, HasRoom}
use Rattle.rt_client.specs.Opened.{AreOpenBelow, OpensSeat}
use Rattle.rt_client.specs.Shared.{Held}
use Rattle.rt_client.specs.Calls.{Locked, Seated, Called, RefusesCalled, MakesCall, RefusesCall}
use Rattle.rt_client.specs.inside.Receipts.{gives_number}
use Rattle.rt_client.proofs.Called.{held_of, number_given}

abbrev pub locked_of : ℕ → Option Stamp → Bool → Option Held → Locked
locked_of number ids stopped held = record { number = number; ids = ids; held = held; stopped = stopped }

abbrev pub seated_of : ℕ → ℕ → Ring → Seated
seated_of client number ring = record { client = client; number = number; ring = ring }

-- a seat of the client has its lane
pub own_is : (n seat : ℕ) (lanes : Option Line) → seat ≡ n → lanes ≡ cond (seat == n) lanes None
own_is n seat lanes e = ap (λ b. cond b lanes None) (sym (ap (λ m. seat == m) (sym e) ∙ nat_eq_equiv.refl seat))

pub seat_made : (n : ℕ) (ids : Option Stamp) (stopped : Bool) (client number : ℕ) (ring left : Ring) (before after : Held) (c : Call) (done : Done) → client ≡ n
    → Called before number ring c done after left
    → MakesCall (locked_of n ids stopped (Some before)) (seated_of client number ring) c done (locked_of n ids stopped (Some after)) (seated_of client number left)
seat_made n ids stopped client number ring left before after c done own called = record {
  before = before;
  held = λ i. Some before;
  own = own;
  after = after;
  locked = λ i. locked_of n ids stopped (Some after);
  ring = left;
  seated = λ i. seated_of client number left;
  called = called;
}

pub seat_refused : (n : ℕ) (ids : Option Stamp) (stopped : Bool) (client number : ℕ) (ring left : Ring) (before after : Held) (c : Call) (why : CoreError) → client ≡ n
    → HasRoom ring (lane_of before.lanes number) → RefusesCalled before number ring c (Core why) after left
    → RefusesCall (locked_of n ids stopped (Some before)) (seated_of client number ring) c (Core why) (locked_of n ids stopped (Some after)) (seated_of client number left)
seat_refused n ids stopped client number ring left before after c why own has h =
    (before, λ i. Some before, subst (HasRoom ring) (own_is n client (lane_of before.lanes number) own) has, h.0, (λ i. locked_of n ids stopped (Some (h.1 i)), λ i. seated_of client number (h.2 i)))

pub seat_gave_up : (n : ℕ) (ids : Option Stamp) (stopped : Bool) (client number : ℕ) (ring left : Ring) (before after : Held) (given_up : Option Held) (c : Call) → client ≡ n
    → HasRoom ring (lane_of before.lanes number) → given_up ≡ None → RefusesCalled before number ring c NoMemory after left
    → RefusesCall (locked_of n ids stopped (Some before)) (seated_of client number ring) c NoMemory (locked_of n ids stopped given_up) (seated_of client number left)
seat_gave_up n ids stopped client number ring left before after given_up c own has none h =
    (before, λ i. Some before, subst (HasRoom ring) (own_is n client (lane_of before.lanes number) own) has, h.0, left, h.1, λ i. seated_of client number left, λ i. locked_of n ids stopped (none i))

-- a call that makes a listener or a request is given a number
pub number_there : (old new : Locked) (seat left : Seated) (c : Call) (done : Done) → IsTrue (gives_number c) → MakesCall old seat c done new left → done.given ≡ None → ⊥
number_there old new seat left c done makes m none = number_given m.before m.after seat.number seat.ring m.ring c done makes m.called none

-- a message of the server is no seat's call
pub no_seats : (m : ServerMessage) → caller_of (step_of_message m) ≡ None
no_seats (message.Data tag path tree) = λ i. None
no_seats (message.DataMerge tag entries) = λ i. None
no_seats (message.Push parts) = λ i. None
no_seats (message.Accepted id) = λ i. None
no_seats (message.Refused id why) = λ i. None
no_seats (message.Revoked tag why) = λ i. None

-- nor does it close one
pub no_ends : (m : ServerMessage) → closed_by (step_of_message m) ≡ None
no_ends (message.Data tag path tree) = λ i. None
no_ends (message.DataMerge tag entries) = λ i. None
no_ends (message.Push parts) = λ i. None
no_ends (message.Accepted id) = λ i. None
no_ends (message.Refused id why) = λ i. None
no_ends (message.Revoked tag why) = λ i. None

-- a seat that is opened where there was no lane
pub seat_opened : (n : ℕ) (ids : Option Stamp) (stopped : Bool) (before : Held) (lanes : List (Option Line)) (place capacity : ℕ) (ring : Ring) → ring ≡ new_ring capacity → place < 64
    → lane_of before.lanes (place + 1) ≡ None → AreOpenBelow (place + 1) before.lanes → IsChanged (place + 1) (Some new_lane) before.lanes lanes
    → OpensSeat (locked_of n ids stopped (Some before)) capacity (locked_of n ids stopped (Some (held_of before.core lanes))) (seated_of n (place + 1) ring)
seat_opened n ids stopped before lanes place capacity ring is below free first changed = record {
  before = before;
  held = λ i. Some before;
  number = place + 1;
  one = omega arith;
  most = omega (arith, below);
  free = free;
  first = first;
  after = held_of before.core lanes;
  locked = λ i. locked_of n ids stopped (Some (held_of before.core lanes));
  core = λ i. before.core;
  lanes = changed;
  seated = λ i. seated_of n (place + 1) (is i);
}
