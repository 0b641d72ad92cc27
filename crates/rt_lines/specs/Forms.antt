-- Which JSON value has the form of a line of a script: a name, and the words behind it.
use Rattle.std.specs.Prelude.{ℕ, List, [], ◌∷◌, bytes_eq, codes, if◌then◌else◌, Option, Some, None}
use Rattle.std.specs.Prelude.{option_map, option_and_then}
use Rattle.serde_json.specs.Data.{Data as Json, Members}
use Rattle.serde_json.specs.Find.{as_array, as_object, as_str}
use Rattle.rt_lines.specs.Calls.{QueryCall, calls_in}
use Rattle.rt_lines.specs.Words.{elements, named_in, random_in, seat_in, whole}

-- what a write sets: a value at a path, several values at their paths, or nothing at a path
pub data Written : Type 0 where
  Set : List ℕ → Json → Written
  Update : Members → Written
  Remove : List ℕ → Written

-- a line of one of the forms: numbers, texts, calls and JSON data, as they stand there
pub data LineForm : Type 0 where
  Listen : ℕ → List ℕ → List QueryCall → LineForm
  Unlisten : ℕ → ℕ → LineForm
  Write : ℕ → Written → LineForm
  OnDisconnect : ℕ → Written → LineForm
  CancelDisconnect : ℕ → List ℕ → LineForm
  Close : ℕ → LineForm
  Data : ℕ → List ℕ → Json → LineForm
  Merge : ℕ → Members → LineForm
  Parts : List (ℕ × Members) → LineForm
  Accepted : ℕ → LineForm
  Refused : ℕ → List ℕ → LineForm
  Revoked : ℕ → List ℕ → LineForm
  Server : List ℕ → LineForm
  Connected : LineForm
  Disconnected : LineForm
  Out : LineForm
  Cover : LineForm
  View : ℕ → LineForm
  Push : ℕ → List ℕ → LineForm

-- ---- what a write sets

-- `path,value`
abbrev pub set_words : List Json → Option Written
set_words (path ∷ value ∷ []) = option_map (λ p. Set p value) (as_str path)
set_words _ = None

-- `{path:value,..}`
abbrev pub update_words : List Json → Option Written
update_words (entries ∷ []) = option_map Update (as_object entries)
update_words _ = None

-- `path`
abbrev pub remove_words : List Json → Option Written
remove_words (path ∷ []) = option_map Remove (as_str path)
remove_words _ = None

-- what a set, an update or a remove sets
abbrev pub written_in : List ℕ → List Json → Option Written
written_in name words =
    if bytes_eq name (codes "set") then set_words words
    else if bytes_eq name (codes "update") then update_words words
    else if bytes_eq name (codes "remove") then remove_words words
    else None

-- ---- the words behind the name, form by form: what a seat asks for

-- `["listen",seat,path,[call,..]]`
abbrev pub listen_form : List Json → Option LineForm
listen_form (seat ∷ path ∷ calls ∷ []) =
    option_and_then (λ n. option_and_then (λ p. option_map (Listen n p) (calls_in calls))
    (as_str path)) (seat_in seat)
listen_form _ = None

-- `["unlisten",seat,listener]`
abbrev pub unlisten_form : List Json → Option LineForm
unlisten_form (seat ∷ listener ∷ []) =
    option_and_then (λ n. option_map (Unlisten n) (whole listener)) (seat_in seat)
unlisten_form _ = None

-- `["set",seat,path,value]`, `["update",seat,{path:value,..}]`, `["remove",seat,path]`
abbrev pub write_form : List ℕ → List Json → Option LineForm
write_form name [] = None
write_form name (seat ∷ words) =
    option_and_then (λ n. option_map (Write n) (written_in name words)) (seat_in seat)

-- `["onDisconnect",seat,"cancel",path]`
abbrev pub cancel_form : ℕ → List Json → Option LineForm
cancel_form seat (path ∷ []) = option_map (CancelDisconnect seat) (as_str path)
cancel_form seat _ = None

-- what is asked for the end of the connection: to cancel, or a write
abbrev pub ending_form : ℕ → List ℕ → List Json → Option LineForm
ending_form seat what words =
    if bytes_eq what (codes "cancel") then cancel_form seat words
    else option_map (OnDisconnect seat) (written_in what words)

-- `["onDisconnect",seat,"set",path,value]` and the like
abbrev pub on_disconnect_form : List Json → Option LineForm
on_disconnect_form (seat ∷ what ∷ words) =
    option_and_then (λ n. option_and_then (λ w. ending_form n w words) (as_str what)) (seat_in seat)
on_disconnect_form _ = None

-- `["close",seat]`
abbrev pub close_form : List Json → Option LineForm
close_form (seat ∷ []) = option_map Close (seat_in seat)
close_form _ = None

-- ---- what the server sends

-- `["data",tag,path,value]`
abbrev pub data_form : List Json → Option LineForm
data_form (tag ∷ path ∷ value ∷ []) =
    option_and_then (λ n. option_map (λ p. Data n p value) (as_str path)) (whole tag)
data_form _ = None

-- `["merge",tag,{path:value,..}]`
abbrev pub merge_form : List Json → Option LineForm
merge_form (tag ∷ entries ∷ []) =
    option_and_then (λ n. option_map (Merge n) (as_object entries)) (whole tag)
merge_form _ = None

-- a part: `[tag,{path:value,..}]`
abbrev pub part_words : List Json → Option (ℕ × Members)
part_words (tag ∷ entries ∷ []) =
    option_and_then (λ n. option_map (λ ms. (n, ms)) (as_object entries)) (whole tag)
part_words _ = None

abbrev pub part_in : Json → Option (ℕ × Members)
part_in d = option_and_then (λ ds. part_words (elements ds)) (as_array d)

-- the parts that JSON values are, if each is one
abbrev pub all_parts : List Json → Option (List (ℕ × Members))
all_parts [] = Some []
all_parts (d ∷ ds) = option_and_then (λ part. option_map (λ parts. part ∷ parts) (all_parts ds)) (part_in d)

-- the parts of an array, if each of its values is one
abbrev pub parts_in : Json → Option (List (ℕ × Members))
parts_in d = option_and_then (λ ds. all_parts (elements ds)) (as_array d)

-- `["parts",[[tag,{path:value,..}],..]]`
abbrev pub parts_form : List Json → Option LineForm
parts_form (parts ∷ []) = option_map Parts (parts_in parts)
parts_form _ = None

-- `["ok",id]`
abbrev pub ok_form : List Json → Option LineForm
ok_form (id ∷ []) = option_map Accepted (whole id)
ok_form _ = None

-- `["no",id,why]`
abbrev pub no_form : List Json → Option LineForm
no_form (id ∷ why ∷ []) = option_and_then (λ n. option_map (Refused n) (as_str why)) (whole id)
no_form _ = None

-- `["revoke",tag,why]`
abbrev pub revoke_form : List Json → Option LineForm
revoke_form (tag ∷ why ∷ []) = option_and_then (λ n. option_map (Revoked n) (as_str why)) (whole tag)
revoke_form _ = None

-- `["server",text]`
abbrev pub server_form : List Json → Option LineForm
server_form (text ∷ []) = option_map Server (as_str text)
server_form _ = None

-- ---- the connection, and looks at the core

-- `["connected"]`, `["disconnected"]`, `["out"]`, `["cover"]`
abbrev pub lone_form : LineForm → List Json → Option LineForm
lone_form form [] = Some form
lone_form form _ = None

-- `["view",listener]`
abbrev pub view_form : List Json → Option LineForm
view_form (listener ∷ []) = option_map View (whole listener)
view_form _ = None

-- ---- push ids

-- `["push",ms,[r1,..,r12]]`
abbrev pub push_form : List Json → Option LineForm
push_form (now ∷ random ∷ []) =
    option_and_then (λ ms. option_map (Push ms) (random_in random)) (whole now)
push_form _ = None

-- ---- a line of that name

abbrev pub server_named : List ℕ → List Json → Option LineForm
server_named name words =
    if bytes_eq name (codes "data") then data_form words
    else if bytes_eq name (codes "merge") then merge_form words
    else if bytes_eq name (codes "ok") then ok_form words
    else if bytes_eq name (codes "no") then no_form words
    else if bytes_eq name (codes "revoke") then revoke_form words
    else if bytes_eq name (codes "server") then server_form words
    else None

abbrev pub lone_named : List ℕ → List Json → Option LineForm
lone_named name words =
    if bytes_eq name (codes "connected") then lone_form Connected words
    else if bytes_eq name (codes "disconnected") then lone_form Disconnected words
    else if bytes_eq name (codes "out") then lone_form Out words
    else if bytes_eq name (codes "cover") then lone_form Cover words
    else if bytes_eq name (codes "view") then view_form words
    else if bytes_eq name (codes "push") then push_form words
    else server_named name words

abbrev pub seat_named : List ℕ → List Json → Option LineForm
seat_named name words =
    if bytes_eq name (codes "unlisten") then unlisten_form words
    else if bytes_eq name (codes "set") then write_form name words
    else if bytes_eq name (codes "update") then write_form name words
    else if bytes_eq name (codes "remove") then write_form name words
    else if bytes_eq name (codes "onDisconnect") then on_disconnect_form words
    else if bytes_eq name (codes "close") then close_form words
    else lone_named name words

abbrev pub form_named : List ℕ → List Json → Option LineForm
form_named name words =
    if bytes_eq name (codes "listen") then listen_form words
    else if bytes_eq name (codes "parts") then parts_form words
    else seat_named name words

-- the form that a JSON value has, if it has one
abbrev pub form_in : Json → Option LineForm
form_in d = named_in form_named d
