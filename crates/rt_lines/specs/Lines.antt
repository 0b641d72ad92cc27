-- What a line asks for: its form is looked at first, then its words in their order.
use Rattle.std.specs.Prelude.{ℕ, nat_eq, Bool, List, [], ◌∷◌, drop, if◌then◌else◌, Option, None, Result, Ok, Err}
use Rattle.std.specs.List.{starts_with}
use Rattle.std.specs.Option.{option_map_or}
use Rattle.std.specs.Str.{is_utf8}
use Rattle.serde_json.specs.Data.{Data as Json}
use Rattle.serde_json.specs.Read.{read}
use Rattle.rt_wire.specs.declared.error.WireError.{WireError}
use Rattle.rt_wire.specs.declared.request.Ending.TheVariants.{Run, Cancel}
use Rattle.rt_wire.specs.declared.server.ServerMessage.{ServerMessage}
use Rattle.rt_wire.specs.Server.{server_message}
use Rattle.rt_world.specs.declared.step.Step.{Step}
use Rattle.rt_world.specs.declared.step.Step.TheVariants as step
use Rattle.rt_world.specs.Calls.{step_of_message}
use Rattle.rt_lines.specs.declared.error.LineError.{LineError}
use Rattle.rt_lines.specs.declared.error.LineError.TheVariants.{Bad, Refused}
use Rattle.rt_lines.specs.declared.error.Refusal.TheVariants.{Wire}
use Rattle.rt_lines.specs.declared.line.Line.{Line}
use Rattle.rt_lines.specs.declared.line.Line.TheVariants as line
use Rattle.rt_lines.specs.Forms.{LineForm, form_in}
use Rattle.rt_lines.specs.Forms as form
use Rattle.rt_lines.specs.Reading.{and_then, path_in, tree_in, entries_in, parts_read, action_in}
use Rattle.rt_lines.specs.Drafts.{query_in}

-- the step of a message of the server that was read, or why there is none
abbrev pub step_or_fault : Result ServerMessage WireError → Result Step LineError
step_or_fault (Err e) = Err (Refused (Wire e))
step_or_fault (Ok m) = Ok (step_of_message m)

-- the step of a text of the server
abbrev pub server_step : List ℕ → Result Step LineError
server_step text = step_or_fault (server_message text)

-- a line that makes a step
abbrev pub makes : Step → Result Line LineError
makes s = Ok (line.Step s)

-- what a line of a form asks for
abbrev pub line_in : LineForm → Result Line LineError
line_in (form.Listen seat path calls) = and_then (query_in path calls) (λ q. makes (step.Listen seat q))
line_in (form.Unlisten seat listener) = makes (step.Unlisten seat listener)
line_in (form.Write seat written) = and_then (action_in written) (λ a. makes (step.Write seat a))
line_in (form.OnDisconnect seat written) =
    and_then (action_in written) (λ a. makes (step.OnDisconnect seat (Run a)))
line_in (form.CancelDisconnect seat path) =
    and_then (path_in path) (λ p. makes (step.OnDisconnect seat (Cancel p)))
line_in (form.Close seat) = makes (step.CloseSeat seat)
line_in (form.Data tag path value) =
    and_then (path_in path) (λ p. and_then (tree_in value) (λ t. makes (step.Data tag p t)))
line_in (form.Merge tag ms) = and_then (entries_in ms) (λ entries. makes (step.DataMerge tag entries))
line_in (form.Parts ps) = and_then (parts_read ps) (λ parts. makes (step.Push parts))
line_in (form.Accepted id) = makes (step.Accepted id)
line_in (form.Refused id why) = makes (step.Refused id why)
line_in (form.Revoked tag why) = makes (step.Revoked tag why)
line_in (form.Server text) = and_then (server_step text) makes
line_in form.Connected = makes step.Connected
line_in form.Disconnected = makes step.Disconnected
line_in form.Out = Ok line.Out
line_in form.Cover = Ok line.Cover
line_in (form.View listener) = Ok (line.View listener)
line_in (form.Push now random) = Ok (line.Push now random)

-- what a JSON value asks for
abbrev pub line_of_data : Json → Result Line LineError
line_of_data d = option_map_or line_in (form_in d) (Err Bad)

-- whether bytes begin with a byte order mark
abbrev pub has_mark : List ℕ → Bool
has_mark bytes = starts_with nat_eq bytes (239 ∷ 187 ∷ 191 ∷ [])

-- bytes without that mark
abbrev pub unmarked : List ℕ → List ℕ
unmarked bytes = if has_mark bytes then drop 3 bytes else bytes

-- the JSON value of bytes, perhaps behind a byte order mark
abbrev pub data_of_bytes : List ℕ → Option Json
data_of_bytes bytes = if is_utf8 (unmarked bytes) then read (unmarked bytes) else None

-- what bytes ask for: they are a text of UTF-8 that is JSON
abbrev pub line_of_bytes : List ℕ → Result Line LineError
line_of_bytes bytes = option_map_or line_of_data (data_of_bytes bytes) (Err Bad)
