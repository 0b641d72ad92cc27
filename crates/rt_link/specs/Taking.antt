-- What messages of the server make of a client, and what is taken out of it.
use Rattle.std.specs.Prelude.{◌≡◌, ◌⊎◌, ◌≤◌, ◌<◌, ℕ, List, [], ◌∷◌, ◌++◌, length, Option, Some, None}
use Rattle.std.specs.Prelude.{Result, Ok, Err}
use Rattle.std.specs.Option.{option_map, option_map_or}
use Rattle.rt_wire.specs.declared.client.ClientMessage.{ClientMessage}
use Rattle.rt_wire.specs.declared.error.WireError.{WireError}
use Rattle.rt_wire.specs.declared.server.ServerMessage.{ServerMessage}
use Rattle.rt_world.specs.declared.report.Outcome.{Outcome}
use Rattle.rt_world.specs.Calls.{step_of_message}
use Rattle.rt_world.specs.World.{World}
use Rattle.rt_client.specs.Calls.{Comes, Locked, RefusesOn}
use Rattle.rt_client.specs.Shared.{Held}
use Rattle.rt_client.specs.declared.error.ClientError.{ClientError}
use Rattle.rt_client.specs.declared.error.ClientError.TheVariants as client
use Rattle.rt_link.specs.declared.turn.Passed.{Passed}
use Rattle.rt_link.specs.declared.turn.Passed.TheVariants.{Wire, Core}

-- ---- messages of the server

-- a message is taken, or passed over: the step that it is is made, or is refused by the core; a text that is
-- none changes nothing
abbrev pub TakesOne : Result ServerMessage WireError → Locked → Option Passed → Locked → Type 0
TakesOne (Ok m) old None new = (outcome : Outcome) × Comes old (step_of_message m) outcome new
TakesOne (Ok m) old (Some (Core why)) new = RefusesOn old (step_of_message m) (client.Core why) new
TakesOne (Ok m) old (Some (Wire why)) new = ⊥
TakesOne (Err e) old None new = ⊥
TakesOne (Err e) old (Some (Core why)) new = ⊥
TakesOne (Err e) old (Some (Wire why)) new = (why ≡ e) × (new ≡ old)

-- what is noted of that
abbrev pub noted : Option Passed → List Passed
noted None = []
noted (Some why) = why ∷ []

-- messages are taken one after another, and noted is which were passed over
abbrev pub TakesAll : List (Result ServerMessage WireError) → Locked → List Passed → Locked → Type 0
TakesAll [] old passed new = (passed ≡ []) × (new ≡ old)
TakesAll (r ∷ rs) old passed new =
    (first : Option Passed) × (rest : List Passed) × (mid : Locked)
    × TakesOne r old first mid × TakesAll rs mid rest new × (passed ≡ noted first ++ rest)

-- a message is not taken, since the client has failed or fails
abbrev pub FailsAt : Result ServerMessage WireError → Locked → ClientError → Locked → Type 0
FailsAt (Ok m) old e new =
    ((e ≡ client.Failed) ⊎ (e ≡ client.NoMemory)) × RefusesOn old (step_of_message m) e new
FailsAt (Err why) old e new = ⊥

-- ---- messages of the client

-- the messages that are to be sent
abbrev pub waiting_in : Held → List ClientMessage
waiting_in h = option_map_or (λ (w : World). w.outgoing) h.core []

abbrev pub waiting_of : Locked → List ClientMessage
waiting_of locked = option_map_or waiting_in locked.held []

-- the same client with nothing to be sent
abbrev pub nothing_waits : Held → Held
nothing_waits h = record h { core = option_map (λ (w : World). record w { outgoing = [] }) h.core }

abbrev pub without_waiting : Locked → Locked
without_waiting locked = record locked { held = option_map nothing_waits locked.held }

-- the first of them are taken out, at most so many, and fewer only where no more are left; nothing else
-- changes
pub record TakesBatch (most : ℕ) (old : Locked) (messages : List ClientMessage) (new : Locked) : Type 0 where
  pub few : length messages ≤ most
  pub taken : waiting_of old ≡ messages ++ waiting_of new
  pub all : length messages < most → waiting_of new ≡ []
  pub rest : without_waiting new ≡ without_waiting old
