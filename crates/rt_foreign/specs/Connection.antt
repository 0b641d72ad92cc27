-- What the connection brings to a client, and what it takes.
use Rattle.std.specs.Prelude.{◌≡◌, ◌⊎◌, ◌==◌, ℕ, List, if◌then◌else◌, Option, Some, None, Result, Ok, Err}
use Rattle.serde_json.specs.Written.{compact_text}
use Rattle.rt_wire.specs.declared.client.ClientMessage.{ClientMessage}
use Rattle.rt_wire.specs.ClientData.{client_data}
use Rattle.rt_world.specs.declared.report.Outcome.{Outcome}
use Rattle.rt_client.specs.declared.error.ClientError.{ClientError}
use Rattle.rt_client.specs.Calls.{Comes, HasFailed, Locked, RefusesOn}
use Rattle.rt_client.specs.Settling.{TakesMessage}
use Rattle.rt_lines.specs.declared.error.LineError.{LineError}
use Rattle.rt_lines.specs.declared.error.LineError.TheVariants.{NoMemory}
use Rattle.rt_foreign.specs.declared.client.Event.{Event}
use Rattle.rt_foreign.specs.Clients.{Client, unrefused}
use Rattle.rt_foreign.specs.Events.{is_end, step_of_event}
use Rattle.rt_foreign.specs.Places.{GivesNothing}
use Rattle.rt_foreign.specs.Refusing.{refusal_of, refusal_read, status_of, status_of_outcome, status_read}
use Rattle.rt_foreign.specs.Status as status
use Rattle.rt_foreign.specs.Texts.{Gives}

-- ---- what it brings

-- the step is made; where the connection has ended, a message that was still to be given is gone with it
pub record IsHeard (e : Event) (old : Client) (result : ℕ) (new : Client) : Type 0 where
  pub outcome : Outcome
  pub shared : Locked
  pub comes : Comes old.shared (step_of_event e) outcome shared
  pub status : result ≡ status_of_outcome outcome
  pub client : new ≡ record old {
    shared = shared;
    message = if is_end e then None else old.message;
    refused = None;
  }

pub record IsUnheard (e : Event) (old : Client) (result : ℕ) (new : Client) : Type 0 where
  pub why : ClientError
  pub shared : Locked
  pub refused : RefusesOn old.shared (step_of_event e) why shared
  pub status : result ≡ status_of why
  pub client : new ≡ record old { shared = shared; refused = refusal_of why }

-- what was read is heard; a text that is bad or refused changes nothing
abbrev pub HearsOf : Result Event LineError → Client → ℕ → Client → Type 0
HearsOf (Ok e) old result new = IsHeard e old result new ⊎ IsUnheard e old result new
HearsOf (Err e) old result new =
    (result ≡ status_read e) × (new ≡ record old { refused = refusal_read e })

-- so it is of what a text says; memory may lack to read it
abbrev pub Hears : Result Event LineError → Client → ℕ → Client → Type 0
Hears event old result new = HearsOf event old result new ⊎ HearsOf (Err NoMemory) old result new

-- ---- what it takes

-- the first message that is to be sent is taken out, where none was before
abbrev pub LooksOut : Option ClientMessage → Client → Client → Type 0
LooksOut (Some m) old new = new ≡ unrefused old
LooksOut None old new =
    (message : Option ClientMessage) × (shared : Locked) × TakesMessage old.shared message shared
    × (new ≡ record (unrefused old) { shared = shared; message = message })

-- a message is given whole, and then it is gone; or not at all, and then it is still to be had
pub record GivesMessage (m : ClientMessage) (client : Client) (had : List ℕ) (result : ℕ) (new : Client)
    (left : List ℕ) (len : ℕ) : Type 0 where
  pub text : Gives (compact_text (client_data m)) had result left len
  pub rest : new ≡ (if result == status.done then record client { message = None } else client)

-- the message that was taken out is given, if there is one; memory may lack for its text, and then it stays
abbrev pub GivesTaken : Option ClientMessage → Client → List ℕ → ℕ → Client → List ℕ → ℕ → Type 0
GivesTaken None client had result new left len =
    GivesNothing status.none had result left len × (new ≡ client)
GivesTaken (Some m) client had result new left len =
    GivesMessage m client had result new left len
    ⊎ (GivesNothing status.no_memory had result left len × (new ≡ client))

-- the first message that is to be sent is given
pub record GivesOut (old : Client) (had : List ℕ) (result : ℕ) (new : Client) (left : List ℕ) (len : ℕ)
    : Type 0 where
  pub taken : Client
  pub looks : LooksOut old.message old taken
  pub gives : GivesTaken taken.message taken had result new left len

-- a client that has failed has none
pub record HasNone (old : Client) (had : List ℕ) (result : ℕ) (new : Client) (left : List ℕ) (len : ℕ)
    : Type 0 where
  pub none : old.message ≡ None
  pub failed : HasFailed old.shared
  pub nothing : GivesNothing status.failed had result left len
  pub client : new ≡ unrefused old

abbrev pub Sends : Client → List ℕ → ℕ → Client → List ℕ → ℕ → Type 0
Sends old had result new left len =
    GivesOut old had result new left len ⊎ HasNone old had result new left len
