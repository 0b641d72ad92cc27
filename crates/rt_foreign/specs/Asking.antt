-- What calls of a seat make of a client.
use Rattle.std.specs.Prelude.{◌≡◌, ◌≢◌, ◌⊎◌, ℕ, List, Option, Some, None, Result, Ok, Err, unwrap_or}
use Rattle.rt_view.specs.declared.change.Kinds.{Kinds}
use Rattle.rt_world.specs.declared.step.Call.{Call}
use Rattle.rt_client.specs.declared.shared.Done.{Done}
use Rattle.rt_client.specs.declared.error.ClientError.{ClientError}
use Rattle.rt_client.specs.declared.error.ClientError.TheVariants as client
use Rattle.rt_client.specs.Calls.{Locked, Seated}
use Rattle.rt_client.specs.Settling as settling
use Rattle.rt_lines.specs.declared.error.LineError.{LineError}
use Rattle.rt_lines.specs.declared.error.LineError.TheVariants.{NoMemory}
use Rattle.rt_foreign.specs.Clients.{Client, place_at, unrefused, with_place}
use Rattle.rt_foreign.specs.Places.{OpenSeat, GivesNext, GivesNothing}
use Rattle.rt_foreign.specs.Refusing.{refusal_of, refusal_read, status_of, status_of_outcome, status_read}
use Rattle.rt_foreign.specs.Room.{MakesCall, RefusesCall}
use Rattle.rt_foreign.specs.Status as status
use Rattle.rt_foreign.specs.Wants.{with_want}

-- ---- calls that listen and write

-- the client inside and the seat of that number are others then
abbrev pub with_seat : Client → ℕ → Locked → OpenSeat → Client
with_seat client number shared place = record client {
  shared = shared;
  places = with_place number place client.places;
}

-- the call of a seat is made; its listener or request has that number, or it has none
pub record IsMade (old : Client) (number : ℕ) (place : OpenSeat) (c : Call) (result given : ℕ) (new : Client)
    : Type 0 where
  pub done : Done
  pub shared : Locked
  pub after : OpenSeat
  pub made : MakesCall old.shared place.seat place.taken c done shared after.seat after.taken
  pub kept : after.wants ≡ place.wants
  pub status : result ≡ status_of_outcome done.outcome
  pub numbered : given ≡ unwrap_or done.given 0
  pub client : new ≡ with_seat (unrefused old) number shared after

-- it is refused: by the client, or by its core, and then that is kept
pub record IsRefused (old : Client) (number : ℕ) (place : OpenSeat) (c : Call) (result given : ℕ) (new : Client)
    : Type 0 where
  pub why : ClientError
  pub shared : Locked
  pub after : OpenSeat
  pub refused : RefusesCall old.shared place.seat place.taken c why shared after.seat after.taken
  pub kept : after.wants ≡ place.wants
  pub status : result ≡ status_of why
  pub numbered : given ≡ 0
  pub client : new ≡ with_seat (record old { refused = refusal_of why }) number shared after

-- the client has no such seat
abbrev pub IsNoSeat : Client → ℕ → ℕ → Client → Type 0
IsNoSeat old result given new = (result ≡ status.wrong_seat) × (given ≡ 0) × (new ≡ unrefused old)

abbrev pub CallsSeat : Option OpenSeat → Client → ℕ → Call → ℕ → ℕ → Client → Type 0
CallsSeat None old number c result given new = IsNoSeat old result given new
CallsSeat (Some place) old number c result given new =
    IsMade old number place c result given new ⊎ IsRefused old number place c result given new

-- a call that was read is made by the seat of that number; one whose texts are bad or refused changes nothing
abbrev pub AsksFor : Result Call LineError → ℕ → Client → ℕ → ℕ → Client → Type 0
AsksFor (Ok c) number old result given new =
    CallsSeat (place_at old.places number) old number c result given new
AsksFor (Err e) number old result given new =
    (result ≡ status_read e) × (given ≡ 0) × (new ≡ record old { refused = refusal_read e })

-- so it is of what texts ask for; memory may lack to read them
abbrev pub Asks : Result Call LineError → ℕ → Client → ℕ → ℕ → Client → Type 0
Asks asked number old result given new =
    AsksFor asked number old result given new ⊎ AsksFor (Err NoMemory) number old result given new

-- ---- what a seat is told

-- the seat's ring is filled from its lane
pub record IsSettled (old : Client) (number : ℕ) (place : OpenSeat) (result : ℕ) (new : Client) : Type 0 where
  pub shared : Locked
  pub seat : Seated
  pub settles : settling.Settles old.shared place.seat shared seat
  pub status : result ≡ status.done
  pub client : new ≡ with_seat (unrefused old) number shared (record place { seat = seat })

-- it is not, and no memory has lacked for it
pub record IsUnsettled (old : Client) (number : ℕ) (place : OpenSeat) (result : ℕ) (new : Client) : Type 0 where
  pub why : ClientError
  pub memory : why ≢ client.NoMemory
  pub shared : Locked
  pub seat : Seated
  pub refused : settling.RefusesSettle old.shared place.seat why shared seat
  pub status : result ≡ status_of why
  pub client :
      new ≡ with_seat (record old { refused = refusal_of why }) number shared (record place { seat = seat })

abbrev pub SettlesSeat : Option OpenSeat → Client → ℕ → ℕ → Client → Type 0
SettlesSeat None old number result new = (result ≡ status.wrong_seat) × (new ≡ unrefused old)
SettlesSeat (Some place) old number result new =
    IsSettled old number place result new ⊎ IsUnsettled old number place result new

abbrev pub Settles : ℕ → Client → ℕ → Client → Type 0
Settles number old result new = SettlesSeat (place_at old.places number) old number result new

-- what a listener of the seat is told from then on; where memory lacks for that, it is told what it was told
abbrev pub WantsSeat : Option OpenSeat → ℕ → Client → ℕ → Kinds → ℕ → Client → Type 0
WantsSeat None number old listener kinds result new = (result ≡ status.wrong_seat) × (new ≡ unrefused old)
WantsSeat (Some place) number old listener kinds result new =
    ((result ≡ status.done) × (new ≡ record (unrefused old) {
      places = with_place number (record place { wants = with_want listener kinds place.wants }) old.places;
    }))
    ⊎ ((result ≡ status.no_memory) × (new ≡ record (unrefused old) {
      places = with_place number place old.places;
    }))

abbrev pub WantsOf : ℕ → ℕ → Kinds → Client → ℕ → Client → Type 0
WantsOf number listener kinds old result new =
    WantsSeat (place_at old.places number) number old listener kinds result new

-- the seat gives its next item; the others stay
abbrev pub TellsSeat : Option OpenSeat → Client → ℕ → List ℕ → ℕ → Client → List ℕ → ℕ → Type 0
TellsSeat None old number had result new left len =
    GivesNothing status.wrong_seat had result left len × (new ≡ unrefused old)
TellsSeat (Some place) old number had result new left len =
    (after : OpenSeat) × GivesNext place had result after left len
    × (new ≡ record (unrefused old) { places = with_place number after old.places })

abbrev pub Tells : ℕ → Client → List ℕ → ℕ → Client → List ℕ → ℕ → Type 0
Tells number old had result new left len =
    TellsSeat (place_at old.places number) old number had result new left len
