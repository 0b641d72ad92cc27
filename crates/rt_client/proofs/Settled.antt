-- Lanes that hand over what is due, messages that are taken out, and seats that end.
use Rattle.std.proofs.Common.{◌≡◌, ℕ, Bool, true, false, cond, ◌==◌, List, [], drop, inl, inr, refl, sym, ap, subst, ◌∙◌, Option, Some, None, Ok, IsTrue, is_some}
use mathlib.Core.Bool.{true≢false}
use Rattle.std.specs.Option.{option_map, option_map_or}
use Rattle.rt_cover.specs.declared.listen.Kept.{Kept}
use Rattle.rt_push.specs.PushIds.{Stamp}
use Rattle.rt_wire.specs.declared.client.ClientMessage.{ClientMessage}
use Rattle.rt_world.specs.World.{World, cover}
use Rattle.rt_world.specs.laws.Holds.{TakenIsSound}
use Rattle.rt_world.specs.Sound.{IsSound}
use Rattle.rt_sync.specs.Core.{Covers, TakesOut}
use Rattle.rt_sync.specs.Core.{without_first as without_sent}
use Rattle.rt_mail.specs.Mailbox.{Known, known_of}
use Rattle.rt_mail.specs.Lanes.{Line, Ring, without_first}
use Rattle.rt_world.specs.declared.error.CoreError.{CoreError}
use Rattle.rt_world.specs.declared.step.Step.{Step}
use Rattle.rt_client.specs.declared.shared.Done.{Done}
use Rattle.rt_client.specs.declared.error.ClientError.TheVariants as error
use Rattle.rt_client.specs.Lanes.{lane_of, IsChanged, due, settled, settled_ring}
use Rattle.rt_client.specs.Shared.{Held, AreTold, IsKept}
use Rattle.rt_client.specs.Settling.{HandsDue, TakesFirst, HasCover, Settles, Closes, RefusesClose}
use Rattle.rt_client.specs.Calls.{IsOpen, Made, Refuses, LacksMemory}
use Rattle.rt_client.specs.laws.Keeping.{SettlingKeeps, TakingKeeps}
use Rattle.rt_client.proofs.Called.{held_of}
use Rattle.rt_client.proofs.Kept.{handing_keeps}
use Rattle.rt_client.proofs.Numbers.{same_number}
use Rattle.rt_client.proofs.Seated.{locked_of, seated_of, own_is}
use Rattle.rt_client.proofs.Slots.{Lines}

-- ---- lanes

-- what is there
pub some_of : {X : Type 0} (o : Option X) → IsTrue (is_some o) → (x : X) × (o ≡ Some x)
some_of None h = absurd (true≢false (sym h))
some_of (Some x) h = (x, refl)

pub held_settled : (core : Option World) (lanes left : Lines) (seat : ℕ) (had ring : Ring) → IsTrue (is_some (lane_of lanes seat))
    → IsChanged seat (option_map (settled had) (lane_of lanes seat)) lanes left → ring ≡ option_map_or (settled_ring had) (lane_of lanes seat) had
    → HandsDue (held_of core lanes) seat had (held_of core left) ring
held_settled core lanes left seat had ring has changed e =
    let found = some_of (lane_of lanes seat) has in
    record {
      lane = found.0;
      is_open = found.1;
      core = refl;
      lanes = subst (λ o. IsChanged seat (option_map (settled had) o) lanes left) found.1 changed;
      ring = e ∙ ap (λ o. option_map_or (settled_ring had) o had) found.1;
    }

-- nothing is handed over
handed_none : (o : Option Line) → o ≡ option_map (without_first 0) o
handed_none None = refl
handed_none (Some l) = λ i. Some (record l { mirror = same l.mirror i })
  where
    same : (m : Option Known) → m ≡ option_map (λ k. known_of k []) m
    same None = refl
    same (Some k) = refl

handed_by : (old : Lines) (seat n : ℕ) (had : Ring) (lane : Line) (new : Option Line) (b : Bool) → (seat == n) ≡ b → lane_of old seat ≡ Some lane
    → new ≡ cond b (Some (settled had lane)) (lane_of old n) → (k : ℕ) × (new ≡ option_map (without_first k) (lane_of old n))
handed_by old seat n had lane new true t is e = (due had lane, e ∙ ap (option_map (without_first (due had lane))) (sym is ∙ ap (lane_of old) (same_number seat n t)))
handed_by old seat n had lane new false t is e = (0, e ∙ handed_none (lane_of old n))

pub settling_keeps : SettlingKeeps
settling_keeps old new seat had left kept s = record {
  world = kept.world;
  core = s.core ∙ kept.core;
  sound = kept.sound;
  told = handing_keeps kept.world old.lanes new.lanes kept.told (λ n. handed_by old.lanes seat n had s.lane (lane_of new.lanes n) (seat == n) refl s.is_open (s.lanes n));
}

-- ---- the core

pub taken_first : (old new : Option World) (lanes : Lines) (w : World) (message : Option ClientMessage) → old ≡ Some w → TakesOut old message new
    → TakesFirst (held_of old lanes) message (held_of new lanes)
taken_first None new lanes w message is t = cc
taken_first (Some v) new lanes w message is t = record { world = v; core = refl; first = t.0; left = λ i. held_of (t.1 i) lanes }

pub taking_keeps : TakenIsSound → TakingKeeps
taking_keeps taken old new message kept t =
    let same : kept.world ≡ t.world = cc in
    subst IsKept (sym t.left) (record {
      world = without_sent t.world;
      core = refl;
      sound = taken t.world (drop 1 t.world.outgoing) (subst IsSound same kept.sound);
      told = subst (λ v. AreTold v old.lanes) same kept.told;
    })

pub has_cover : (core : Option World) (lanes : Lines) (w : World) (kept : List Kept) → core ≡ Some w → Covers core (Ok kept) → HasCover (held_of core lanes) kept
has_cover None lanes w kept is c = cc
has_cover (Some v) lanes w kept is (inl e) = let same : kept ≡ cover v = cc in record { world = v; core = refl; listens = same }
has_cover (Some v) lanes w kept is (inr e) = cc

-- ---- the locked value

pub seat_settled : (n : ℕ) (ids : Option Stamp) (stopped : Bool) (client number : ℕ) (ring left : Ring) (before after : Held) → client ≡ n → HandsDue before number ring after left
    → Settles (locked_of n ids stopped (Some before)) (seated_of client number ring) (locked_of n ids stopped (Some after)) (seated_of client number left)
seat_settled n ids stopped client number ring left before after own hands = record {
  before = before;
  held = λ i. Some before;
  own = own;
  after = after;
  locked = λ i. locked_of n ids stopped (Some after);
  ring = left;
  seated = λ i. seated_of client number left;
  hands = hands;
}

-- ---- the end of a seat

-- a seat of the client that has its lane is open
open_by : (n : ℕ) (ids : Option Stamp) (stopped : Bool) (client number : ℕ) (ring : Ring) (before : Held) → client ≡ n → IsTrue (is_some (lane_of before.lanes number))
    → (lane : Line) × IsOpen (locked_of n ids stopped (Some before)) before (seated_of client number ring) lane
open_by n ids stopped client number ring before own has =
    let found = some_of (lane_of before.lanes number) has in
    (found.0, record { held = λ i. Some before; own = sym (own_is n client (lane_of before.lanes number) own) ∙ found.1 })

pub seat_closed : (n : ℕ) (ids : Option Stamp) (stopped : Bool) (client number : ℕ) (ring : Ring) (before after : Held) (done : Done) → client ≡ n
    → IsTrue (is_some (lane_of before.lanes number)) → Made before (Step.CloseSeat number) done after
    → Closes (locked_of n ids stopped (Some before)) (seated_of client number ring) (locked_of n ids stopped (Some after))
seat_closed n ids stopped client number ring before after done own has made =
    let found = open_by n ids stopped client number ring before own has in
    record {
      before = before;
      lane = found.0;
      is_open = found.1;
      done = done;
      made = record { before = before; held = λ i. Some before; after = after; left = λ i. locked_of n ids stopped (Some after); made = made };
    }

pub seat_stays : (n : ℕ) (ids : Option Stamp) (stopped : Bool) (client number : ℕ) (ring : Ring) (before after : Held) (why : CoreError) → client ≡ n
    → IsTrue (is_some (lane_of before.lanes number)) → Refuses before (Step.CloseSeat number) (error.Core why) after
    → RefusesClose (locked_of n ids stopped (Some before)) (seated_of client number ring) (error.Core why) (locked_of n ids stopped (Some after))
seat_stays n ids stopped client number ring before after why own has r =
    let found = open_by n ids stopped client number ring before own has in
    (before, found.0, found.1, (before, λ i. Some before, r.0, λ i. locked_of n ids stopped (Some (r.1 i))))

-- for want of memory the client fails
pub seat_fails : (n : ℕ) (ids : Option Stamp) (stopped : Bool) (client number : ℕ) (ring : Ring) (before : Held) (given_up : Option Held) → client ≡ n
    → IsTrue (is_some (lane_of before.lanes number)) → given_up ≡ None → LacksMemory before (Step.CloseSeat number)
    → RefusesClose (locked_of n ids stopped (Some before)) (seated_of client number ring) error.NoMemory (locked_of n ids stopped given_up)
seat_fails n ids stopped client number ring before given_up own has none r =
    let found = open_by n ids stopped client number ring before own has in
    (before, found.0, found.1, (before, λ i. Some before, r, λ i. locked_of n ids stopped (none i)))
