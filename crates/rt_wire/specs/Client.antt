-- The messages of the client: which text is which message, and what a text that is none is refused as.
use Rattle.std.specs.Prelude.{List, ℕ, codes, bytes_eq, if◌then◌else◌, Option, Some, None, Result}
use Rattle.std.specs.Prelude.{Ok, Err}
use Rattle.std.specs.Option.{option_map_or}
use Rattle.serde_json.specs.Data.{Data}
use Rattle.serde_json.specs.Find.{get, as_str}
use Rattle.serde_json.specs.Read.{read}
use Rattle.rt_tree.specs.PathTree.{Path}
use Rattle.rt_query.specs.Queries.{Query, plain}
use Rattle.rt_wire.specs.declared.error.WireError.{WireError}
use Rattle.rt_wire.specs.declared.error.WireError.TheVariants.{NotJson, UnknownKind}
use Rattle.rt_wire.specs.declared.request.Action.{Action}
use Rattle.rt_wire.specs.declared.request.Action.TheVariants.{Put, Merge}
use Rattle.rt_wire.specs.declared.request.Ending.TheVariants.{Run, Cancel}
use Rattle.rt_wire.specs.declared.request.Asked.{Asked}
use Rattle.rt_wire.specs.declared.request.Asked.TheVariants.{Now, AtDisconnect}
use Rattle.rt_wire.specs.declared.client.ClientMessage.{ClientMessage}
use Rattle.rt_wire.specs.declared.client.ClientMessage.TheVariants.{Hello, Listen, Unlisten, Ask}
use Rattle.rt_wire.specs.Fields.{field, any_of, number_of, path_of, tree_of, with, made}
use Rattle.rt_wire.specs.EntryFields.{entries_of, trees_of}
use Rattle.rt_wire.specs.QueryFields.{query_of}

-- ---- parts

-- the query of a path: all of it, where there is no `q`
abbrev pub query_at : Path → Option Data → Option Query
query_at path None = Some (plain path)
query_at path (Some q) = query_of path q

-- what a write sets: a tree at a path, or several
abbrev pub put_in : Data → Result Action WireError
put_in d =
    with (field path_of (codes "path") d) (λ path. with (field any_of (codes "value") d) (λ value.
    made (tree_of value) (λ tree. Put path tree)))

abbrev pub merge_in : Data → Result Action WireError
merge_in d = with (field entries_of (codes "entries") d) (λ places.
    made (trees_of places) (λ entries. Merge entries))

-- a request with its number, which is looked at first
abbrev pub ask : Data → Result Asked WireError → Result ClientMessage WireError
ask d asked = with (field number_of (codes "id") d) (λ id. made asked (λ a. Ask id a))

-- ---- the message of each kind: `hello`, `listen`, `unlisten`, `put`, `merge`, `od-put`, `od-merge`
-- and `od-cancel`
abbrev pub hello_in : Data → Result ClientMessage WireError
hello_in d = with (field number_of (codes "version") d) (λ version. Ok (Hello version))

abbrev pub listen_in : Data → Result ClientMessage WireError
listen_in d =
    with (field number_of (codes "tag") d) (λ tag. with (field path_of (codes "path") d) (λ path.
    with (query_at path (get (codes "q") d)) (λ query.
    Ok (Listen tag query))))

abbrev pub unlisten_in : Data → Result ClientMessage WireError
unlisten_in d = with (field number_of (codes "tag") d) (λ tag. Ok (Unlisten tag))

abbrev pub put_message : Data → Result ClientMessage WireError
put_message d = ask d (made (put_in d) (λ action. Now action))

abbrev pub merge_message : Data → Result ClientMessage WireError
merge_message d = ask d (made (merge_in d) (λ action. Now action))

abbrev pub od_put_message : Data → Result ClientMessage WireError
od_put_message d = ask d (made (put_in d) (λ action. AtDisconnect (Run action)))

abbrev pub od_merge_message : Data → Result ClientMessage WireError
od_merge_message d = ask d (made (merge_in d) (λ action. AtDisconnect (Run action)))

abbrev pub od_cancel_message : Data → Result ClientMessage WireError
od_cancel_message d =
    ask d (with (field path_of (codes "path") d) (λ path. Ok (AtDisconnect (Cancel path))))

-- the message of that kind
abbrev pub client_of_kind : List ℕ → Data → Result ClientMessage WireError
client_of_kind kind d =
    if bytes_eq kind (codes "hello") then hello_in d
    else if bytes_eq kind (codes "listen") then listen_in d
    else if bytes_eq kind (codes "unlisten") then unlisten_in d
    else if bytes_eq kind (codes "put") then put_message d
    else if bytes_eq kind (codes "merge") then merge_message d
    else if bytes_eq kind (codes "od-put") then od_put_message d
    else if bytes_eq kind (codes "od-merge") then od_merge_message d
    else if bytes_eq kind (codes "od-cancel") then od_cancel_message d
    else Err UnknownKind

-- the message that a JSON value is, or its first fault
abbrev pub client_message_in : Data → Result ClientMessage WireError
client_message_in d = option_map_or (λ kind. client_of_kind kind d) (field as_str (codes "k") d)
    (Err UnknownKind)

-- the message that a text is, or its first fault
abbrev pub client_message : List ℕ → Result ClientMessage WireError
client_message text = option_map_or client_message_in (read text) (Err NotJson)
