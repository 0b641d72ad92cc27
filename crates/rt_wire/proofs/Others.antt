-- What tells messages apart.
use Rattle.std.proofs.Common.{ℕ, Bool, false, List, [], ◌∷◌, length, Ok, Err}
use Rattle.std.specs.Prelude.{Result}
use Rattle.rt_query.specs.Queries.{is_filtered}
use Rattle.rt_wire.specs.Parts.{Part}
use Rattle.rt_wire.specs.declared.error.WireError.{WireError}
use Rattle.rt_wire.specs.declared.server.ServerMessage.{ServerMessage}
use Rattle.rt_wire.specs.declared.server.ServerMessage.TheVariants.{Data, DataMerge, Push, Accepted, Refused, Revoked}
use Rattle.rt_wire.specs.declared.client.ClientMessage.{ClientMessage}
use Rattle.rt_wire.specs.declared.client.ClientMessage.TheVariants.{Hello, Listen, Unlisten, Ask}

-- the number of an answer, and how many entries or parts a message has
abbrev pub number_in : ServerMessage → ℕ
number_in (Data tag path tree) = tag
number_in (DataMerge tag entries) = length entries
number_in (Push parts) = length parts
number_in (Accepted id) = id
number_in (Refused id why) = id
number_in (Revoked tag why) = tag

abbrev pub server_number : Result ServerMessage WireError → ℕ
server_number (Err e) = 0
server_number (Ok m) = number_in m

-- the tag of the first part
abbrev pub first_tag : List Part → ℕ
first_tag [] = 0
first_tag (p ∷ parts) = p.0

abbrev pub tag_pushed : ServerMessage → ℕ
tag_pushed (Data tag path tree) = tag
tag_pushed (DataMerge tag entries) = tag
tag_pushed (Push parts) = first_tag parts
tag_pushed (Accepted id) = 0
tag_pushed (Refused id why) = 0
tag_pushed (Revoked tag why) = tag

abbrev pub tag_in : ClientMessage → ℕ
tag_in (Hello version) = version
tag_in (Listen tag query) = tag
tag_in (Unlisten tag) = tag
tag_in (Ask id asked) = id

abbrev pub client_number : Result ClientMessage WireError → ℕ
client_number (Err e) = 0
client_number (Ok m) = tag_in m

-- whether a listen is of a filtered query
abbrev pub asks_for_part : ClientMessage → Bool
asks_for_part (Hello version) = false
asks_for_part (Listen tag query) = is_filtered query
asks_for_part (Unlisten tag) = false
asks_for_part (Ask id asked) = false

abbrev pub is_filtered_by : Result ClientMessage WireError → Bool
is_filtered_by (Err e) = false
is_filtered_by (Ok m) = asks_for_part m

-- of which kind a message is; 0 for none
abbrev pub kind_in : ServerMessage → ℕ
kind_in (Data tag path tree) = 1
kind_in (DataMerge tag entries) = 2
kind_in (Push parts) = 6
kind_in (Accepted id) = 3
kind_in (Refused id why) = 4
kind_in (Revoked tag why) = 5

abbrev pub server_kind : Result ServerMessage WireError → ℕ
server_kind (Err e) = 0
server_kind (Ok m) = kind_in m
