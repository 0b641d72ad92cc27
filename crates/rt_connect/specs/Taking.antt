-- What a text of the server makes of a client, and prints.
use Rattle.std.specs.Prelude.{◌≡◌, ◌≢◌, ◌⊎◌, ℕ, List, None, Result, Ok, Err}
use Rattle.rt_wire.specs.declared.error.WireError.{WireError}
use Rattle.rt_wire.specs.declared.server.ServerMessage.{ServerMessage}
use Rattle.rt_world.specs.declared.report.Outcome.{Outcome}
use Rattle.rt_lines.specs.Printing.{line, outcome_text}
use Rattle.rt_lines.specs.Printing as lines
use Rattle.rt_lines.specs.declared.error.Refusal.TheVariants.{Wire}
use Rattle.rt_world.specs.Calls.{step_of_message}
use Rattle.rt_client.specs.Calls.{Comes, Locked, RefusesOn}
use Rattle.rt_client.specs.declared.error.ClientError.{ClientError}
use Rattle.rt_client.specs.declared.error.ClientError.TheVariants.{NoMemory}
use Rattle.rt_connect.specs.Printing.{refusal_text}

-- the step of a message is made, and its outcome printed
abbrev pub IsMade : Locked → ServerMessage → Locked → List ℕ → Type 0
IsMade old m new text =
    (outcome : Outcome) × Comes old (step_of_message m) outcome new
    × (text ≡ line (outcome_text outcome None))

-- or it is refused for another cause than memory, and printed why
abbrev pub IsRefused : Locked → ServerMessage → Locked → List ℕ → Type 0
IsRefused old m new text =
    (why : ClientError) × RefusesOn old (step_of_message m) why new × (why ≢ NoMemory)
    × (text ≡ refusal_text why)

-- a text as it is read: a message, or why it is none, which changes nothing
abbrev pub Takes : Result ServerMessage WireError → Locked → Locked → List ℕ → Type 0
Takes (Ok m) old new text = IsMade old m new text ⊎ IsRefused old m new text
Takes (Err e) old new text = (new ≡ old) × (text ≡ lines.refusal_text (Wire e))
