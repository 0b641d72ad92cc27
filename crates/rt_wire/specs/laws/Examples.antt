-- Messages that the prover computes: what texts are read as, what they are refused as, and what is
-- written.
use Rattle.std.specs.Prelude.{◌≡◌, ℕ, zero, suc, pos, List, [], ◌∷◌, ◌++◌, map, take, codes}
use Rattle.std.specs.Prelude.{replicate, Some, None, Result, Ok, Err}
use Rattle.serde_json.specs.Written.{compact_text}
use Rattle.rt_tree.specs.Leaf.{number}
use Rattle.rt_tree.specs.Path.{path_keys}
use Rattle.rt_tree.specs.PathTree.{null, of_leaf}
use Rattle.rt_tree.specs.Assignments.{Assignment}
use Rattle.rt_order.specs.declared.index.Index.TheVariants as index
use Rattle.rt_order.specs.declared.cut.Mark.TheVariants as mark
use Rattle.rt_order.specs.declared.cut.Place.TheVariants.{Before, Max}
use Rattle.rt_query.specs.declared.query.Limit.TheVariants.{First}
use Rattle.rt_query.specs.Queries.{Query, plain}
use Rattle.rt_wire.specs.declared.error.WireError.{WireError}
use Rattle.rt_wire.specs.declared.error.WireError.TheVariants.{NotJson, UnknownKind, BadField, BadTree}
use Rattle.rt_wire.specs.declared.server.ServerMessage.{ServerMessage}
use Rattle.rt_wire.specs.declared.server.ServerMessage.TheVariants.{Data, DataMerge, Push, Accepted, Refused}
use Rattle.rt_wire.specs.declared.request.Action.{Action}
use Rattle.rt_wire.specs.declared.request.Action.TheVariants.{Put}
use Rattle.rt_wire.specs.declared.request.Ending.TheVariants.{Run, Cancel}
use Rattle.rt_wire.specs.declared.request.Asked.TheVariants.{Now, AtDisconnect}
use Rattle.rt_wire.specs.declared.client.ClientMessage.{ClientMessage}
use Rattle.rt_wire.specs.declared.client.ClientMessage.TheVariants.{Hello, Listen, Unlisten, Ask}
use Rattle.rt_wire.specs.Parts.{Part}
use Rattle.rt_wire.specs.Server.{server_message}
use Rattle.rt_wire.specs.ServerData.{server_data}
use Rattle.rt_wire.specs.Client.{client_message}
use Rattle.rt_wire.specs.ClientData.{client_data}
use Rattle.rt_wire.specs.QueryData.{query_data}
use Rattle.rt_wire.specs.Grammar.{IsServerWord, IsClientWord}
use Rattle.rt_wire.specs.ReadBack.{IsServerSame, IsServerText, IsClientText}

-- ---- messages of the server

abbrev pub ok_one : List ℕ
ok_one = codes "{\"k\":\"ok\",\"id\":1}"

-- the order of members is free, of equal names the last counts, and others are ignored
abbrev pub AnswersAreRead : Type 0
AnswersAreRead =
    (server_message ok_one ≡ Ok (Accepted 1))
    × (server_message (codes "{\"id\":1,\"k\":\"ok\"}") ≡ Ok (Accepted 1))
    × (server_message (codes "{\"k\":\"hello\",\"k\":\"ok\",\"id\":1,\"x\":[]}") ≡ Ok (Accepted 1))
    × (server_message (codes "{\"k\":\"no\",\"id\":2,\"why\":\"denied\"}")
    ≡ Ok (Refused 2 (codes "denied")))

-- n, n - 1, .., 0
abbrev pub down_from : ℕ → List ℕ
down_from zero = 0 ∷ []
down_from (suc n) = suc n ∷ down_from n

-- no text that breaks off is a message
abbrev pub PrefixesAreNoMessages : Type 0
PrefixesAreNoMessages = map (λ n. server_message (take n ok_one)) (down_from 16)
    ≡ replicate 17 (Err NotJson)

-- what is no object, or of no kind of the server
abbrev pub KindsAreUnknown : Type 0
KindsAreUnknown =
    (server_message (codes "[1]") ≡ Err UnknownKind)
    × (server_message (codes "{\"k\":\"hello\"}") ≡ Err UnknownKind)
    × (server_message (codes "{\"k\":1}") ≡ Err UnknownKind)
    × (server_message (codes "{\"k\":\"unlisten\",\"tag\":1}") ≡ Err UnknownKind)

-- numbers are whole, from 1 to 9007199254740991
abbrev pub NumbersHaveBounds : Type 0
NumbersHaveBounds =
    (server_message (codes "{\"k\":\"ok\",\"id\":0}") ≡ Err BadField)
    × (server_message (codes "{\"k\":\"ok\",\"id\":9007199254740991}") ≡ Ok (Accepted 9007199254740991))
    × (server_message (codes "{\"k\":\"ok\",\"id\":9007199254740992}") ≡ Err BadField)
    × (server_message (codes "{\"k\":\"ok\",\"id\":1.0}") ≡ Err BadField)
    × (server_message (codes "{\"k\":\"ok\"}") ≡ Err BadField)

-- a `data` and a `data-merge` on the first listen
abbrev pub data_by : List ℕ → Result ServerMessage WireError
data_by rest = server_message (codes "{\"k\":\"data\",\"tag\":1," ++ (rest ++ codes "}"))

abbrev pub merge_by : List ℕ → Result ServerMessage WireError
merge_by entries = server_message
    (codes "{\"k\":\"data-merge\",\"tag\":1,\"entries\":" ++ (entries ++ codes "}"))

-- a bad field comes before a bad tree, and each path before each tree
abbrev pub FieldsComeFirst : Type 0
FieldsComeFirst =
    (data_by (codes "\"path\":\"/a\",\"value\":1.5") ≡ Err BadTree)
    × (data_by (codes "\"path\":\"/a.b\",\"value\":1.5") ≡ Err BadField)
    × (merge_by (codes "{\"a\":1.5,\"b.c\":1}") ≡ Err BadField) × (merge_by (codes "{}") ≡ Err BadField)

-- two spellings of a path are two entries, in the order of their bytes; of one spelling the last counts
abbrev pub entry_at : List ℕ → ℕ → Assignment
entry_at path n = (path_keys path, of_leaf (number (pos n)))

abbrev pub SpellingsAreEntries : Type 0
SpellingsAreEntries =
    merge_by (codes "{\"a\":1,\"/a\":2,\"a\":3}") ≡ Ok
    (DataMerge 1 (entry_at (codes "/a") 2 ∷ entry_at (codes "/a") 3 ∷ []))

-- `data` with a value that is so many nested arrays
abbrev pub nested : ℕ → Result ServerMessage WireError
nested n = data_by (codes "\"path\":\"/\",\"value\":" ++ (replicate n 91 ++ replicate n 93))

-- nothing stands under more than 32 keys, and no JSON nests deeper than 127 levels
abbrev pub DepthIsBounded : Type 0
DepthIsBounded = (nested 40 ≡ Err BadTree) × (nested 200 ≡ Err NotJson)

-- a push of these parts
abbrev pub push_by : List ℕ → Result ServerMessage WireError
push_by parts = server_message (codes "{\"k\":\"push\",\"parts\":" ++ (parts ++ codes "}"))

-- a push on two listens, as it is written
abbrev pub push_two : List ℕ
push_two = codes "{\"k\":\"push\",\"parts\":[{\"entries\":{\"/a/x\":1},\"tag\":1},{\"entries\":{\"/b/y\":2},\"tag\":2}]}"

abbrev pub two_parts : List Part
two_parts =
    (1, entry_at (codes "/a/x") 1 ∷ [])
    ∷ (2, entry_at (codes "/b/y") 2 ∷ [])
    ∷ []

-- parts are read in their order, whatever their tags
abbrev pub PartsAreRead : Type 0
PartsAreRead =
    (server_message push_two ≡ Ok (Push two_parts))
    × (push_by (codes "[{\"tag\":7,\"entries\":{\"a\":1}},{\"tag\":7,\"entries\":{\"a\":2}}]")
    ≡ Ok (Push ((7, entry_at (codes "a") 1 ∷ []) ∷ (7, entry_at (codes "a") 2 ∷ []) ∷ [])))

-- there is at least one part, each an object with a tag and entries; all fields of all parts come
-- before any tree
abbrev pub PartsHaveFaults : Type 0
PartsHaveFaults =
    (push_by (codes "[]") ≡ Err BadField) × (push_by (codes "[{\"tag\":1}]") ≡ Err BadField)
    × (push_by (codes "[7]") ≡ Err BadField) × (push_by (codes "{}") ≡ Err BadField)
    × (push_by (codes "[{\"tag\":1,\"entries\":{}}]") ≡ Err BadField)
    × (push_by (codes "[{\"tag\":1,\"entries\":{\"/a\":1.5}}]") ≡ Err BadTree)
    × (push_by (codes "[{\"tag\":1,\"entries\":{\"/a\":1.5}},{\"tag\":0,\"entries\":{\"/a\":1}}]")
    ≡ Err BadField)

-- ---- messages of the client

abbrev pub HelloIsRead : Type 0
HelloIsRead =
    (client_message (codes "{\"k\":\"hello\",\"version\":2}") ≡ Ok (Hello 2))
    × (client_message (codes "{\"k\":\"hello\",\"version\":0}") ≡ Err BadField)
    × (client_message (codes "{\"k\":\"hello\"}") ≡ Err BadField)
    × (client_message (codes "{\"k\":\"hello\",\"version\":9007199254740992}") ≡ Err BadField)

abbrev pub first_two : Query
first_two = record {
  path = path_keys (codes "/a");
  index = index.Key;
  range = record { lower = None; upper = None };
  limit = Some (First 2);
}

-- the listen of `first_two`
abbrev pub listen_first : List ℕ
listen_first = codes "{\"k\":\"listen\",\"path\":\"/a\",\"q\":{\"limit\":[\"first\",2],\"order\":\"key\"},\"tag\":1}"

-- 5 at /x
abbrev pub five : Action
five = Put (path_keys (codes "/x")) (of_leaf (number (pos 5)))

-- a request of that kind, of which the rest follows
abbrev pub ask_by : List ℕ → Result ClientMessage WireError
ask_by rest = client_message (codes "{\"id\":1,\"k\":" ++ (rest ++ codes "}"))

abbrev pub RequestsAreRead : Type 0
RequestsAreRead =
    (client_message listen_first ≡ Ok (Listen 1 first_two))
    × (client_message (codes "{\"k\":\"unlisten\",\"tag\":1}") ≡ Ok (Unlisten 1))
    × (ask_by (codes "\"put\",\"path\":\"/x\",\"value\":5") ≡ Ok (Ask 1 (Now five)))
    × (ask_by (codes "\"od-put\",\"path\":\"x\",\"value\":5") ≡ Ok (Ask 1 (AtDisconnect (Run five))))
    × (ask_by (codes "\"od-cancel\",\"path\":\"/p\"") ≡ Ok
    (Ask 1 (AtDisconnect (Cancel (path_keys (codes "/p"))))))

-- a listen of the root with that `q`
abbrev pub listen_by : List ℕ → Result ClientMessage WireError
listen_by q = client_message (codes "{\"k\":\"listen\",\"path\":\"/\",\"tag\":1,\"q\":"
    ++ (q ++ codes "}"))

-- `q` has an order, and a start, an end or a limit; in key order a cut is null and next to a key
abbrev pub QueriesHaveFaults : Type 0
QueriesHaveFaults =
    (listen_by (codes "null") ≡ Err BadField) × (listen_by (codes "{\"order\":\"key\"}") ≡ Err BadField)
    × (listen_by (codes "{\"limit\":[\"first\",2]}") ≡ Err BadField)
    × (listen_by (codes "{\"limit\":[\"last\",0],\"order\":\"key\"}") ≡ Err BadField)
    × (listen_by (codes "{\"lower\":[null,\"min\"],\"order\":\"key\"}") ≡ Err BadField)
    × (listen_by (codes "{\"lower\":[1,\"before\",\"k\"],\"order\":\"key\"}") ≡ Err BadField)
    × (listen_by (codes "{\"lower\":[1,\"before\",\"k.\"],\"order\":\"value\"}") ≡ Err BadField)

-- from before the key b on, up to all that is null
abbrev pub some_range : Query
some_range = record {
  path = [];
  index = index.Child (path_keys (codes "/v"));
  range = record {
    lower = Some (record { value = mark.Null; place = Before (codes "b") });
    upper = Some (record { value = mark.Null; place = Max });
  };
  limit = None;
}

abbrev pub CutsAreRead : Type 0
CutsAreRead =
    listen_by (codes "{\"order\":\"/v/\",\"upper\":[null,\"max\"],\"lower\":[null,\"before\",\"b\"]}")
    ≡ Ok (Listen 1 some_range)

-- ---- what is written: the members of each object in the order of the bytes of their names
abbrev pub MessagesAreWritten : Type 0
MessagesAreWritten =
    (compact_text (server_data (Data 1 (path_keys (codes "a//b/")) null))
    ≡ codes "{\"k\":\"data\",\"path\":\"/a/b\",\"tag\":1,\"value\":null}")
    × (compact_text (server_data (Push two_parts)) ≡ push_two)
    × (compact_text (client_data (Hello 2)) ≡ codes "{\"k\":\"hello\",\"version\":2}")
    × (compact_text (query_data first_two) ≡ codes "{\"limit\":[\"first\",2],\"order\":\"key\"}")
    × (compact_text (client_data (Listen 1 first_two)) ≡ listen_first)
    × (compact_text (query_data some_range)
    ≡ codes "{\"lower\":[null,\"before\",\"b\"],\"order\":\"/v\",\"upper\":[null,\"max\"]}")

-- ---- what does not hold

abbrev pub two_entries : List ℕ
two_entries = codes "{\"k\":\"data-merge\",\"tag\":1,\"entries\":{\"a\":1,\"b\":2}}"

-- a text says no other number, no other kind, nothing where its number is 0, no part of its entries,
-- no part of its parts, no query without its limit and no other version
abbrev pub NothingElseIsSaid : Type 0
NothingElseIsSaid =
    (IsServerWord ok_one (Accepted 2) → ⊥) × (IsServerWord ok_one (Refused 1 []) → ⊥)
    × (IsServerWord (codes "{\"k\":\"ok\",\"id\":0}") (Accepted 0) → ⊥)
    × (IsServerWord two_entries (DataMerge 1 (entry_at (codes "a") 1 ∷ [])) → ⊥)
    × (IsServerWord push_two (Push ((1, entry_at (codes "/a/x") 1 ∷ []) ∷ [])) → ⊥)
    × (IsClientWord (codes "{\"k\":\"hello\",\"version\":2}") (Hello 1) → ⊥)
    × (IsClientWord listen_first (Listen 1 (plain (path_keys (codes "/a")))) → ⊥)

-- what is read back is no other message, has no entry less, and its parts in the same order
abbrev pub NothingElseIsReadBack : Type 0
NothingElseIsReadBack =
    (IsServerText (Accepted 2) ok_one → ⊥)
    × (IsClientText (Unlisten 2) (codes "{\"k\":\"unlisten\",\"tag\":1}") → ⊥)
    × (IsServerSame (DataMerge 1 (entry_at [] 1 ∷ entry_at [] 1 ∷ []))
    (DataMerge 1 (entry_at [] 1 ∷ [])) → ⊥)
    × (IsServerSame (Push ((1, []) ∷ (2, []) ∷ [])) (Push ((2, []) ∷ (1, []) ∷ [])) → ⊥)
