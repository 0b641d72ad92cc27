-- What the messages of the client are written as: one object, its members in the order of the bytes
-- of their names.
use Rattle.std.specs.Prelude.{ℕ, List, [], ◌∷◌, ◌++◌, codes}
use Rattle.serde_json.specs.Data.{Data}
use Rattle.rt_query.specs.Queries.{Query}
use Rattle.rt_wire.specs.declared.request.Action.{Action}
use Rattle.rt_wire.specs.declared.request.Action.TheVariants.{Put, Merge}
use Rattle.rt_wire.specs.declared.request.Ending.TheVariants.{Run, Cancel}
use Rattle.rt_wire.specs.declared.request.Asked.TheVariants.{Now, AtDisconnect}
use Rattle.rt_wire.specs.declared.client.ClientMessage.{ClientMessage}
use Rattle.rt_wire.specs.declared.client.ClientMessage.TheVariants.{Hello, Listen, Unlisten, Ask}
use Rattle.rt_wire.specs.FieldData.{kind, number_field, path_field, tree_field, entries_field}
use Rattle.rt_wire.specs.FieldData.{object_of}
use Rattle.rt_wire.specs.QueryData.{query_field}

abbrev pub listen_data : ℕ → Query → Data
listen_data tag query =
    object_of (kind (codes "listen") ∷ path_field query.path ∷ (query_field query
    ++ number_field (codes "tag") tag ∷ []))

-- a write, by the kind of its set and of its update
abbrev pub action_data : ℕ → List ℕ → List ℕ → Action → Data
action_data id put merge (Put path tree) =
    object_of (number_field (codes "id") id ∷ kind put ∷ path_field path ∷ tree_field tree ∷ [])
action_data id put merge (Merge entries) =
    object_of (entries_field entries ∷ number_field (codes "id") id ∷ kind merge ∷ [])

abbrev pub client_data : ClientMessage → Data
client_data (Hello version) = object_of (kind (codes "hello") ∷ number_field (codes "version") version ∷ [])
client_data (Listen tag query) = listen_data tag query
client_data (Unlisten tag) = object_of (kind (codes "unlisten") ∷ number_field (codes "tag") tag ∷ [])
client_data (Ask id (Now action)) = action_data id (codes "put") (codes "merge") action
client_data (Ask id (AtDisconnect (Run action))) =
    action_data id (codes "od-put") (codes "od-merge") action
client_data (Ask id (AtDisconnect (Cancel path))) =
    object_of (number_field (codes "id") id ∷ kind (codes "od-cancel") ∷ path_field path ∷ [])
