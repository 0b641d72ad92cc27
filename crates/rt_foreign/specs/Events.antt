-- What the connection brings.
use Rattle.std.specs.Prelude.{ℕ, List, Bool, true, false, Result, Ok, Err}
use Rattle.rt_wire.specs.declared.error.WireError.{WireError}
use Rattle.rt_wire.specs.declared.server.ServerMessage.{ServerMessage}
use Rattle.rt_wire.specs.Server.{server_message}
use Rattle.rt_world.specs.declared.step.Step.{Step}
use Rattle.rt_world.specs.Calls.{step_of_message}
use Rattle.rt_lines.specs.declared.error.LineError.{LineError}
use Rattle.rt_lines.specs.declared.error.LineError.TheVariants.{Refused}
use Rattle.rt_lines.specs.declared.error.Refusal.TheVariants.{Wire}
use Rattle.rt_lines.specs.Reading.{and_then}
use Rattle.rt_foreign.specs.declared.client.Event.{Event}
use Rattle.rt_foreign.specs.declared.client.Event.TheVariants.{Connected, Disconnected, Message}
use Rattle.rt_foreign.specs.Reading.{text_read}

-- the step that it is
abbrev pub step_of_event : Event → Step
step_of_event Connected = Step.Connected
step_of_event Disconnected = Step.Disconnected
step_of_event (Message m) = step_of_message m

-- whether the connection has ended
abbrev pub is_end : Event → Bool
is_end Connected = false
is_end Disconnected = true
is_end (Message m) = false

-- a message that was read, or why it was not
abbrev pub message_or_fault : Result ServerMessage WireError → Result Event LineError
message_or_fault (Ok m) = Ok (Message m)
message_or_fault (Err e) = Err (Refused (Wire e))

-- the message of the server that a text is
abbrev pub event_read : List ℕ → Result Event LineError
event_read bytes = and_then (text_read bytes) (λ text. message_or_fault (server_message text))
