-- What a line asks of a client that is connected: some of the forms of a script, and that messages are
-- read.
use Rattle.std.specs.Prelude.{ℕ, ◌&&◌, nat_le, nat_lt, bytes_eq, codes, Bool, true, false, if◌then◌else◌}
use Rattle.std.specs.Prelude.{List, [], ◌∷◌, Option, Some, None, Result, Ok, Err, option_and_then}
use Rattle.std.specs.Option.{option_map_or}
use Rattle.serde_json.specs.Data.{Data as Json}
use Rattle.rt_wire.specs.declared.request.Ending.TheVariants.{Run, Cancel}
use Rattle.rt_world.specs.declared.step.Call.{Call}
use Rattle.rt_world.specs.declared.step.Call.TheVariants as call
use Rattle.rt_lines.specs.declared.error.LineError.{LineError}
use Rattle.rt_lines.specs.declared.error.LineError.TheVariants.{Bad, Refused, NoMemory}
use Rattle.rt_lines.specs.declared.order.Order.{Order}
use Rattle.rt_lines.specs.declared.order.Order.TheVariants as order
use Rattle.rt_lines.specs.Drafts.{query_in}
use Rattle.rt_lines.specs.Forms.{LineForm, form_named}
use Rattle.rt_lines.specs.Forms as form
use Rattle.rt_lines.specs.Lines.{data_of_bytes}
use Rattle.rt_lines.specs.Reading.{action_in, and_then, path_in}
use Rattle.rt_lines.specs.Words.{parts_in, whole}

-- how many messages a line reads
abbrev pub some_times : ℕ → Option ℕ
some_times n = if nat_lt 0 n && nat_le n 1000 then Some n else None

-- `n`
abbrev pub times_in : List Json → Option ℕ
times_in (n ∷ []) = option_and_then some_times (whole n)
times_in _ = None

-- a seat's call
abbrev pub calls : ℕ → Call → Result Order LineError
calls seat c = Ok (order.Seat seat c)

-- what a line of a form asks of a client; what the server sends, the connection, messages to be sent, views
-- and push ids are none of a client's lines
abbrev pub order_in : LineForm → Result Order LineError
order_in (form.Listen seat path cs) = and_then (query_in path cs) (λ q. calls seat (call.Listen q))
order_in (form.Unlisten seat listener) = calls seat (call.Unlisten listener)
order_in (form.Write seat written) = and_then (action_in written) (λ a. calls seat (call.Write a))
order_in (form.OnDisconnect seat written) =
    and_then (action_in written) (λ a. calls seat (call.OnDisconnect (Run a)))
order_in (form.CancelDisconnect seat path) =
    and_then (path_in path) (λ p. calls seat (call.OnDisconnect (Cancel p)))
order_in (form.Close seat) = Ok (order.Close seat)
order_in form.Cover = Ok order.Cover
order_in (form.Data tag path value) = Err Bad
order_in (form.Merge tag ms) = Err Bad
order_in (form.Parts ps) = Err Bad
order_in (form.Accepted id) = Err Bad
order_in (form.Refused id why) = Err Bad
order_in (form.Revoked tag why) = Err Bad
order_in (form.Server text) = Err Bad
order_in form.Connected = Err Bad
order_in form.Disconnected = Err Bad
order_in form.Out = Err Bad
order_in (form.View listener) = Err Bad
order_in (form.Push now random) = Err Bad

-- what a name and the words behind it ask for
abbrev pub order_named : List ℕ → List Json → Result Order LineError
order_named name words =
    if bytes_eq name (codes "read") then option_map_or (λ n. Ok (order.Read n)) (times_in words) (Err Bad)
    else option_map_or order_in (form_named name words) (Err Bad)

-- what a JSON value asks for
abbrev pub order_of_data : Json → Result Order LineError
order_of_data d = option_map_or (λ parts. order_named parts.0 parts.1) (parts_in d) (Err Bad)

-- what bytes ask for: they are a text of UTF-8 that is JSON
abbrev pub order_of_bytes : List ℕ → Result Order LineError
order_of_bytes bytes = option_map_or order_of_data (data_of_bytes bytes) (Err Bad)

-- whether a line is of one of the forms, though a word of it may be refused
abbrev pub is_formed : Result Order LineError → Bool
is_formed (Ok o) = true
is_formed (Err Bad) = false
is_formed (Err (Refused r)) = true
is_formed (Err NoMemory) = true

-- whether a line is good: empty, or an order
abbrev pub is_good_order : List ℕ → Bool
is_good_order [] = true
is_good_order (b ∷ bs) = is_formed (order_of_bytes (b ∷ bs))
