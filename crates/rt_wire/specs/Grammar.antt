-- The grammar of the wire as a relation: which text says which message. A text that says none is
-- refused; `Server` and `Client` have the message that a text says as a function, and the order of
-- the faults.
use Rattle.std.specs.Prelude.{◌≡◌, ℕ, ◌<◌, true, List, [], ◌∷◌, length, codes, Option, Some, None, Ok}
use Rattle.serde_json.specs.Data.{Data, Items, no_items, item, Members, no_members, member}
use Rattle.serde_json.specs.Find.{get, as_array, as_object, as_str}
use Rattle.serde_json.specs.Read.{read}
use Rattle.rt_tree.specs.PathTree.{Path, PathTree}
use Rattle.rt_tree.specs.Assignments.{Assignment}
use Rattle.rt_query.specs.Queries.{Query, plain, is_filtered}
use Rattle.rt_wire.specs.declared.server.ServerMessage.{ServerMessage}
use Rattle.rt_wire.specs.declared.server.ServerMessage.TheVariants as server
use Rattle.rt_wire.specs.declared.request.Action.{Action}
use Rattle.rt_wire.specs.declared.request.Action.TheVariants.{Put, Merge}
use Rattle.rt_wire.specs.declared.request.Ending.TheVariants.{Run, Cancel}
use Rattle.rt_wire.specs.declared.request.Asked.TheVariants.{Now, AtDisconnect}
use Rattle.rt_wire.specs.declared.client.ClientMessage.{ClientMessage}
use Rattle.rt_wire.specs.declared.client.ClientMessage.TheVariants.{Hello, Listen, Unlisten, Ask}
use Rattle.rt_wire.specs.Parts.{Part}
use Rattle.rt_wire.specs.Fields.{field, number_of, path_of, path_of_text, reason_of, tree_of}
use Rattle.rt_wire.specs.QueryFields.{index_of, cut_of, limit_of, if_there}
use Rattle.rt_wire.specs.Server.{server_message}
use Rattle.rt_wire.specs.Client.{client_message}

-- ---- members

-- of the kind of that name
abbrev pub IsOfKind : List ℕ → Data → Type 0
IsOfKind kind d = field as_str (codes "k") d ≡ Some kind

abbrev pub HasNumber : List ℕ → ℕ → Data → Type 0
HasNumber name n d = field number_of name d ≡ Some n

abbrev pub HasPath : Path → Data → Type 0
HasPath path d = field path_of (codes "path") d ≡ Some path

abbrev pub HasReason : List ℕ → Data → Type 0
HasReason why d = field reason_of (codes "why") d ≡ Some why

abbrev pub HasTree : PathTree → Data → Type 0
HasTree tree d = (value : Data) × (get (codes "value") d ≡ Some value) × (tree_of value ≡ Ok tree)

-- an entry for each member, in the same order: of its name the path, of its value the tree
abbrev pub AreSaid : Members → List Assignment → Type 0
AreSaid no_members [] = Unit {0}
AreSaid no_members (e ∷ es) = ⊥
AreSaid (member name d ms) [] = ⊥
AreSaid (member name d ms) (e ∷ es) = (path_of_text name ≡ Some e.0) × (tree_of d ≡ Ok e.1)
    × AreSaid ms es

-- at least one
abbrev pub HasEntries : List Assignment → Data → Type 0
HasEntries entries d = (ms : Members) × (field as_object (codes "entries") d ≡ Some ms)
    × (0 < length entries) × AreSaid ms entries

-- a part for each element, in the same order: its tag and its entries
abbrev pub ArePartsSaid : Items → List Part → Type 0
ArePartsSaid no_items [] = Unit {0}
ArePartsSaid no_items (p ∷ ps) = ⊥
ArePartsSaid (item d ds) [] = ⊥
ArePartsSaid (item d ds) (p ∷ ps) = HasNumber (codes "tag") p.0 d × HasEntries p.1 d × ArePartsSaid ds ps

-- at least one
abbrev pub HasParts : List Part → Data → Type 0
HasParts parts d = (ds : Items) × (field as_array (codes "parts") d ≡ Some ds) × (0 < length parts)
    × ArePartsSaid ds parts

-- what a listen asks for: all of a path, or what `q` has of an order, a range and a limit
abbrev pub IsSaidByQ : Query → Data → Type 0
IsSaidByQ query q =
    (field index_of (codes "order") q ≡ Some query.index)
    × (if_there (cut_of query.index) (get (codes "lower") q) ≡ Some query.range.lower)
    × (if_there (cut_of query.index) (get (codes "upper") q) ≡ Some query.range.upper)
    × (if_there limit_of (get (codes "limit") q) ≡ Some query.limit) × (is_filtered query ≡ true)

abbrev pub IsSaidBy : Query → Option Data → Type 0
IsSaidBy query None = query ≡ plain query.path
IsSaidBy query (Some q) = IsSaidByQ query q

abbrev pub HasQuery : Query → Data → Type 0
HasQuery query d = HasPath query.path d × IsSaidBy query (get (codes "q") d)

-- ---- messages of the server
abbrev pub SaysServer : ServerMessage → Data → Type 0
SaysServer (server.Data tag path tree) d =
    IsOfKind (codes "data") d × HasNumber (codes "tag") tag d × HasPath path d × HasTree tree d
SaysServer (server.DataMerge tag entries) d =
    IsOfKind (codes "data-merge") d × HasNumber (codes "tag") tag d × HasEntries entries d
SaysServer (server.Push parts) d = IsOfKind (codes "push") d × HasParts parts d
SaysServer (server.Accepted id) d = IsOfKind (codes "ok") d × HasNumber (codes "id") id d
SaysServer (server.Refused id why) d = IsOfKind (codes "no") d × HasNumber (codes "id") id d
    × HasReason why d
SaysServer (server.Revoked tag why) d = IsOfKind (codes "revoke") d × HasNumber (codes "tag") tag d
    × HasReason why d

-- the text says the message
abbrev pub IsServerWord : List ℕ → ServerMessage → Type 0
IsServerWord text m = (d : Data) × (read text ≡ Some d) × SaysServer m d

-- ---- messages of the client

-- what a write sets, by the kind of its set and of its update
abbrev pub SaysAction : List ℕ → List ℕ → Action → Data → Type 0
SaysAction put merge (Put path tree) d = IsOfKind put d × HasPath path d × HasTree tree d
SaysAction put merge (Merge entries) d = IsOfKind merge d × HasEntries entries d

abbrev pub SaysClient : ClientMessage → Data → Type 0
SaysClient (Hello version) d = IsOfKind (codes "hello") d × HasNumber (codes "version") version d
SaysClient (Listen tag query) d = IsOfKind (codes "listen") d × HasNumber (codes "tag") tag d
    × HasQuery query d
SaysClient (Unlisten tag) d = IsOfKind (codes "unlisten") d × HasNumber (codes "tag") tag d
SaysClient (Ask id (Now action)) d = HasNumber (codes "id") id d
    × SaysAction (codes "put") (codes "merge") action d
SaysClient (Ask id (AtDisconnect (Run action))) d =
    HasNumber (codes "id") id d × SaysAction (codes "od-put") (codes "od-merge") action d
SaysClient (Ask id (AtDisconnect (Cancel path))) d =
    HasNumber (codes "id") id d × IsOfKind (codes "od-cancel") d × HasPath path d

-- the text says the message
abbrev pub IsClientWord : List ℕ → ClientMessage → Type 0
IsClientWord text m = (d : Data) × (read text ≡ Some d) × SaysClient m d

-- ---- a message is read of just the texts that say it
abbrev pub ServerGrammar : Type 0
ServerGrammar =
    (text : List ℕ) (m : ServerMessage) → (server_message text ≡ Ok m → IsServerWord text m)
    × (IsServerWord text m → server_message text ≡ Ok m)

abbrev pub ClientGrammar : Type 0
ClientGrammar =
    (text : List ℕ) (m : ClientMessage) → (client_message text ≡ Ok m → IsClientWord text m)
    × (IsClientWord text m → client_message text ≡ Ok m)
