-- What calls ask for, by the texts that C gives them. A text that isn't UTF-8 is bad; what a layer refuses is
-- refused by it, from the first text to the last.
use Rattle.std.specs.Prelude.{ℕ, ◌==◌, ◌||◌, List, ◌++◌, length, codes, if◌then◌else◌, Option, Some, None, Result, Ok, Err}
use Rattle.std.specs.Prelude.{is_some, option_and_then}
use Rattle.std.specs.Option.{option_map_or}
use Rattle.std.specs.Str.{is_utf8}
use Rattle.serde_json.specs.Data.{Data as Json}
use Rattle.serde_json.specs.Find.{as_str, get}
use Rattle.serde_json.specs.Read.{read}
use Rattle.rt_tree.specs.declared.error.TreeError.TheVariants.{NotJson}
use Rattle.rt_tree.specs.PathTree.{Path, PathTree, null}
use Rattle.rt_query.specs.Queries.{Query, plain}
use Rattle.rt_wire.specs.declared.error.WireError.{WireError}
use Rattle.rt_wire.specs.declared.request.Action.{Action}
use Rattle.rt_wire.specs.declared.request.Action.TheVariants.{Put}
use Rattle.rt_wire.specs.declared.request.Ending.TheVariants.{Run, Cancel}
use Rattle.rt_wire.specs.declared.client.ClientMessage.{ClientMessage}
use Rattle.rt_wire.specs.declared.client.ClientMessage.TheVariants as message
use Rattle.rt_wire.specs.Client.{client_message}
use Rattle.rt_world.specs.declared.step.Call.{Call}
use Rattle.rt_world.specs.declared.step.Call.TheVariants.{Listen, Write, OnDisconnect}
use Rattle.rt_lines.specs.declared.error.LineError.{LineError}
use Rattle.rt_lines.specs.declared.error.LineError.TheVariants.{Bad, Refused}
use Rattle.rt_lines.specs.declared.error.Refusal.TheVariants.{Tree, Wire}
use Rattle.rt_lines.specs.declared.order.Order.{Order}
use Rattle.rt_lines.specs.declared.order.Order.TheVariants as order
use Rattle.rt_lines.specs.Orders.{order_of_bytes}
use Rattle.rt_lines.specs.Printing.{json_text}
use Rattle.rt_lines.specs.Reading.{and_then, path_in, tree_in}

-- ---- texts, paths and trees

-- a text
abbrev pub text_read : List ℕ → Result (List ℕ) LineError
text_read bytes = if is_utf8 bytes then Ok bytes else Err Bad

-- a path, in any spelling
abbrev pub path_read : List ℕ → Result Path LineError
path_read bytes = and_then (text_read bytes) path_in

-- the tree of a JSON value, where there is one
abbrev pub tree_of : Option Json → Result PathTree LineError
tree_of None = Err (Refused (Tree NotJson))
tree_of (Some d) = tree_in d

-- a tree
abbrev pub tree_read : List ℕ → Result PathTree LineError
tree_read bytes = and_then (text_read bytes) (λ text. tree_of (read text))

-- a tree at a path, which comes first
abbrev pub put_read : List ℕ → List ℕ → Result Action LineError
put_read path tree = and_then (path_read path) (λ p. and_then (tree_read tree) (λ t. Ok (Put p t)))

-- ---- calls of one path

abbrev pub set_read : List ℕ → List ℕ → Result Call LineError
set_read path tree = and_then (put_read path tree) (λ action. Ok (Write action))

abbrev pub removal_read : List ℕ → Result Call LineError
removal_read path = and_then (path_read path) (λ p. Ok (Write (Put p null)))

abbrev pub at_end_read : List ℕ → List ℕ → Result Call LineError
at_end_read path tree = and_then (put_read path tree) (λ action. Ok (OnDisconnect (Run action)))

abbrev pub cancel_read : List ℕ → Result Call LineError
cancel_read path = and_then (path_read path) (λ p. Ok (OnDisconnect (Cancel p)))

-- ---- updates: what a script's line with these entries asks for

-- the call of a line of a seat
abbrev pub call_in : Order → Result Call LineError
call_in (order.Seat seat call) = Ok call
call_in (order.Close seat) = Err Bad
call_in order.Cover = Err Bad
call_in (order.Read times) = Err Bad

abbrev pub order_read : List ℕ → Result Call LineError
order_read line = and_then (order_of_bytes line) call_in

abbrev pub update_words : List ℕ → List ℕ
update_words entries = codes "[\"update\",1," ++ entries ++ codes "]"

abbrev pub at_end_words : List ℕ → List ℕ
at_end_words entries = codes "[\"onDisconnect\",1,\"update\"," ++ entries ++ codes "]"

-- ---- listeners: what the message that listens with this `q` asks for

-- the query of a message that listens
abbrev pub query_of : Result ClientMessage WireError → Result Query LineError
query_of (Ok (message.Listen tag query)) = Ok query
query_of (Ok (message.Hello version)) = Err Bad
query_of (Ok (message.Unlisten tag)) = Err Bad
query_of (Ok (message.Ask id asked)) = Err Bad
query_of (Err e) = Err (Refused (Wire e))

abbrev pub query_in : List ℕ → Result Query LineError
query_in text = query_of (client_message text)

abbrev pub listen_words : List ℕ → List ℕ → List ℕ
listen_words path q =
    codes "{\"k\":\"listen\",\"path\":" ++ json_text path ++ codes ",\"q\":" ++ q ++ codes ",\"tag\":1}"

-- a text that is one JSON value
abbrev pub json_read : List ℕ → Result Json LineError
json_read text = option_map_or (λ (d : Json). Ok d) (read text) (Err Bad)

-- the order of a `q` that has nothing beside it; a message has no such `q`, since it listens to all of the path
abbrev pub order_alone : Json → Option (List ℕ)
order_alone q =
    if is_some (get (codes "limit") q) || is_some (get (codes "lower") q) || is_some (get (codes "upper") q)
    then None
    else option_and_then as_str (get (codes "order") q)

-- the same with a limit, as a message has it
abbrev pub limited_words : List ℕ → List ℕ
limited_words order = codes "{\"limit\":[\"first\",1],\"order\":" ++ json_text order ++ codes "}"

-- all children of a query's path, in its order
abbrev pub in_order : Query → Query
in_order query = record query { range = record { lower = None; upper = None }; limit = None }

-- the query of a path and an order alone
abbrev pub ordered_read : List ℕ → List ℕ → Result Query LineError
ordered_read path order =
    and_then (query_in (listen_words path (limited_words order))) (λ query. Ok (in_order query))

-- the query of a path and a `q`, where that is an order alone, and where it isn't
abbrev pub asked_read : List ℕ → List ℕ → Option (List ℕ) → Result Query LineError
asked_read path q None = query_in (listen_words path q)
asked_read path q (Some order) = ordered_read path order

-- the query of a path and a `q`, which is one JSON value
abbrev pub filtered_in : List ℕ → List ℕ → Result Query LineError
filtered_in path text = and_then (json_read text) (λ d. asked_read path text (order_alone d))

abbrev pub filtered_read : List ℕ → List ℕ → Result Query LineError
filtered_read path bytes = and_then (text_read bytes) (λ text. filtered_in path text)

-- where there is no `q`, it is all of the path
abbrev pub query_read : List ℕ → List ℕ → Result Query LineError
query_read path q =
    and_then (path_read path) (λ p. if length q == 0 then Ok (plain p) else filtered_read path q)

abbrev pub listen_read : List ℕ → List ℕ → Result Call LineError
listen_read path q = and_then (query_read path q) (λ query. Ok (Listen query))
