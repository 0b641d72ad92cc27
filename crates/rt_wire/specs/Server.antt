-- The messages of the server: which text is which message, and what a text that is none is refused as.
use Rattle.std.specs.Prelude.{List, ℕ, codes, bytes_eq, if◌then◌else◌, Result, Ok, Err}
use Rattle.std.specs.Option.{option_map_or}
use Rattle.serde_json.specs.Data.{Data}
use Rattle.serde_json.specs.Find.{as_str}
use Rattle.serde_json.specs.Read.{read}
use Rattle.rt_wire.specs.declared.error.WireError.{WireError}
use Rattle.rt_wire.specs.declared.error.WireError.TheVariants.{NotJson, UnknownKind}
use Rattle.rt_wire.specs.declared.server.ServerMessage.{ServerMessage}
use Rattle.rt_wire.specs.declared.server.ServerMessage.TheVariants.{Data as DataMessage, DataMerge, Push}
use Rattle.rt_wire.specs.declared.server.ServerMessage.TheVariants.{Accepted, Refused, Revoked}
use Rattle.rt_wire.specs.Fields.{field, any_of, number_of, path_of, reason_of, tree_of, with, made}
use Rattle.rt_wire.specs.EntryFields.{entries_of, trees_of}
use Rattle.rt_wire.specs.PartFields.{parts_of, part_trees}

-- ---- the message of each kind: `data`, `data-merge`, `push`, `ok`, `no` and `revoke`
abbrev pub data_in : Data → Result ServerMessage WireError
data_in d =
    with (field number_of (codes "tag") d) (λ tag. with (field path_of (codes "path") d) (λ path.
    with (field any_of (codes "value") d) (λ value.
    made (tree_of value) (λ tree. DataMessage tag path tree))))

abbrev pub data_merge_in : Data → Result ServerMessage WireError
data_merge_in d =
    with (field number_of (codes "tag") d) (λ tag. with (field entries_of (codes "entries") d)
    (λ places.
    made (trees_of places) (λ entries. DataMerge tag entries)))

-- all fields of all parts are looked at before any tree
abbrev pub push_in : Data → Result ServerMessage WireError
push_in d =
    with (field parts_of (codes "parts") d) (λ found. made (part_trees found) (λ parts. Push parts))

abbrev pub ok_in : Data → Result ServerMessage WireError
ok_in d = with (field number_of (codes "id") d) (λ id. Ok (Accepted id))

abbrev pub no_in : Data → Result ServerMessage WireError
no_in d = with (field number_of (codes "id") d) (λ id.
    with (field reason_of (codes "why") d) (λ why. Ok (Refused id why)))

abbrev pub revoke_in : Data → Result ServerMessage WireError
revoke_in d = with (field number_of (codes "tag") d) (λ tag.
    with (field reason_of (codes "why") d) (λ why. Ok (Revoked tag why)))

-- the message of that kind
abbrev pub of_kind : List ℕ → Data → Result ServerMessage WireError
of_kind kind d =
    if bytes_eq kind (codes "data") then data_in d
    else if bytes_eq kind (codes "data-merge") then data_merge_in d
    else if bytes_eq kind (codes "push") then push_in d
    else if bytes_eq kind (codes "ok") then ok_in d
    else if bytes_eq kind (codes "no") then no_in d
    else if bytes_eq kind (codes "revoke") then revoke_in d
    else Err UnknownKind

-- the message that a JSON value is, or its first fault
abbrev pub server_message_in : Data → Result ServerMessage WireError
server_message_in d = option_map_or (λ kind. of_kind kind d) (field as_str (codes "k") d)
    (Err UnknownKind)

-- the message that a text is, or its first fault
abbrev pub server_message : List ℕ → Result ServerMessage WireError
server_message text = option_map_or server_message_in (read text) (Err NotJson)
