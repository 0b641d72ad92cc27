-- What became of a request.
use Rattle.std.specs.Prelude.{◌-◌, Bool, true, false, if◌then◌else◌, List, length, Option, Some, None}
use Rattle.std.specs.List.{slice_get}
use Rattle.std.specs.Option.{option_map_or}
use Rattle.rt_wire.specs.declared.request.Asked.{Asked}
use Rattle.rt_wire.specs.declared.request.Asked.TheVariants as Asks
use Rattle.rt_wire.specs.declared.client.ClientMessage.{ClientMessage}
use Rattle.rt_wire.specs.declared.client.ClientMessage.TheVariants.{Hello, Listen, Unlisten, Ask}
use Rattle.rt_wire.specs.declared.server.ServerMessage.{ServerMessage}
use Rattle.rt_wire.specs.declared.server.ServerMessage.TheVariants as Says
use Rattle.rt_peer.specs.declared.pushes.Sent.{Sent}
use Rattle.rt_hub.specs.declared.refusal.Verdict.{Verdict}
use Rattle.rt_hub.specs.declared.refusal.Verdict.TheVariants.{Accepted, Refused, NoRequest}
use Rattle.rt_hub.specs.declared.refusal.When.{When}
use Rattle.rt_hub.specs.declared.refusal.When.TheVariants.{Now, AtEnd}

-- when a message is done, where it is a request: a write at once, what is for the connection's end then
abbrev pub when_asked : Asked → When
when_asked (Asks.Now action) = Now
when_asked (Asks.AtDisconnect ending) = AtEnd

abbrev pub when_in : ClientMessage → Option When
when_in (Hello version) = None
when_in (Listen tag query) = None
when_in (Unlisten tag) = None
when_in (Ask id asked) = Some (when_asked asked)

-- a message of the server that accepts a request
abbrev pub is_ok : ServerMessage → Bool
is_ok (Says.Data tag path tree) = false
is_ok (Says.DataMerge tag entries) = false
is_ok (Says.Push parts) = false
is_ok (Says.Accepted id) = true
is_ok (Says.Refused id why) = false
is_ok (Says.Revoked tag why) = false

-- whether what is sent for a request accepts it: it is answered last
abbrev pub says_ok : List Sent → Bool
says_ok sent = option_map_or (λ (s : Sent). is_ok s.message) (slice_get sent (length sent - 1)) false

-- what became of a message, by what is sent for it
abbrev pub verdict_when : Option When → List Sent → Verdict
verdict_when None sent = NoRequest
verdict_when (Some when) sent = if says_ok sent then Accepted when else Refused

abbrev pub verdict_of : ClientMessage → List Sent → Verdict
verdict_of message sent = verdict_when (when_in message) sent
