-- What is answered by what: each request by its number, and each listen, by its tag, by the first that is
-- sent for it.
use Rattle.std.specs.Prelude.{List, [], ◌∷◌, map, Option, Some, None}
use Rattle.rt_wire.specs.declared.client.ClientMessage.{ClientMessage}
use Rattle.rt_wire.specs.declared.client.ClientMessage.TheVariants as client
use Rattle.rt_wire.specs.declared.server.ServerMessage.{ServerMessage}
use Rattle.rt_wire.specs.declared.server.ServerMessage.TheVariants as server
use Rattle.rt_connect.specs.declared.link.Name.{Name}
use Rattle.rt_connect.specs.declared.link.Name.TheVariants.{Request, Listen}

-- what the answer to a message names; the version and the end of a listen are not answered
abbrev pub answer_to : ClientMessage → Option Name
answer_to (client.Hello version) = None
answer_to (client.Listen tag query) = Some (Listen tag)
answer_to (client.Unlisten tag) = None
answer_to (client.Ask id asked) = Some (Request id)

-- what a message answers: a push, the listen of each of its parts
abbrev pub answered_by : ServerMessage → List Name
answered_by (server.Data tag path tree) = Listen tag ∷ []
answered_by (server.DataMerge tag entries) = Listen tag ∷ []
answered_by (server.Push parts) = map (λ p. Listen p.0) parts
answered_by (server.Accepted id) = Request id ∷ []
answered_by (server.Refused id why) = Request id ∷ []
answered_by (server.Revoked tag why) = Listen tag ∷ []
