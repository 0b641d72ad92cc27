-- What a peer is asked for a request, and what the request is answered.
use Rattle.std.specs.Prelude.{ℕ, List, [], ◌∷◌, ◌++◌, ◌==◌, length, if◌then◌else◌, codes}
use Rattle.std.specs.Prelude.{Option, Some, None, Result, Ok, Err}
use Rattle.std.specs.Str.{bytes_eq}
use Rattle.serde_json.specs.Written.{compact_text}
use Rattle.rt_tree.specs.PathTree.{Path, PathTree}
use Rattle.rt_tree.specs.Trees.{null}
use Rattle.rt_tree.specs.Writing.{data_of}
use Rattle.rt_tree.specs.declared.error.TreeError.TheVariants as tree
use Rattle.rt_tree.specs.declared.limits.TheConstants.{MAX_KEYS}
use Rattle.rt_query.specs.Queries.{plain}
use Rattle.rt_wire.specs.declared.client.ClientMessage.{ClientMessage}
use Rattle.rt_wire.specs.declared.client.ClientMessage.TheVariants as client
use Rattle.rt_wire.specs.declared.request.Action.TheVariants as action
use Rattle.rt_wire.specs.declared.request.Asked.TheVariants.{Now}
use Rattle.rt_wire.specs.declared.server.ServerMessage.{ServerMessage}
use Rattle.rt_wire.specs.declared.server.ServerMessage.TheVariants.{Data, DataMerge, Push, Accepted, Refused, Revoked}
use Rattle.rt_http.specs.Shallow.{shallow_of}
use Rattle.rt_http.specs.Steps.{and_then}
use Rattle.rt_http.specs.declared.ask.Ask.{Ask}
use Rattle.rt_http.specs.declared.ask.Ask.TheVariants as ask
use Rattle.rt_http.specs.declared.fault.Fault.{Fault}
use Rattle.rt_http.specs.declared.fault.Fault.TheVariants as fault
use Rattle.rt_http.specs.declared.answer.TheConstants.{ONLY}
use Rattle.rt_http.specs.declared.answer.Wanted.{Wanted}
use Rattle.rt_http.specs.declared.answer.Wanted.TheVariants as wanted

-- ---- what a peer is asked

-- the message that sets a tree at a path
abbrev pub write_of : Path → PathTree → ClientMessage
write_of path tree = client.Ask ONLY (Now (action.Put path tree))

-- the path one key further down, where it has room
abbrev pub child_of : Path → List ℕ → Result Path Fault
child_of path key =
    if length path == MAX_KEYS then Err (fault.Path tree.TooDeep) else Ok (path ++ key ∷ [])

-- the message that asks for it, where a new key is that one
abbrev pub message_of : Ask → List ℕ → Result (Option ClientMessage) Fault
message_of ask.Health key = Ok None
message_of (ask.Read query) key = Ok (Some (client.Listen ONLY query))
message_of (ask.Look path) key = Ok (Some (client.Listen ONLY (plain path)))
message_of (ask.Put path tree) key = Ok (Some (write_of path tree))
message_of (ask.Merge entries) key = Ok (Some (client.Ask ONLY (Now (action.Merge entries))))
message_of (ask.Push path tree) key = and_then (child_of path key) (λ child. Ok (Some (write_of child tree)))
message_of (ask.Remove path) key = Ok (Some (write_of path null))

-- ---- what is answered

-- what is wanted once it is accepted
abbrev pub wanted_of : Ask → Option Wanted
wanted_of ask.Health = None
wanted_of (ask.Read query) = Some wanted.Tree
wanted_of (ask.Look path) = Some wanted.Shallow
wanted_of (ask.Put path tree) = Some wanted.Body
wanted_of (ask.Merge entries) = Some wanted.Body
wanted_of (ask.Push path tree) = Some wanted.Name
wanted_of (ask.Remove path) = Some wanted.Null

-- the object with that one text, which has nothing to escape
abbrev pub object_with : List ℕ → List ℕ → List ℕ
object_with name text = codes "{\"" ++ name ++ codes "\":\"" ++ text ++ codes "\"}"

-- what is shown
abbrev pub shown_for : Wanted → PathTree → Result (List ℕ) Fault
shown_for wanted.Tree tree = Ok (compact_text (data_of tree))
shown_for wanted.Shallow tree = Ok (compact_text (data_of (shallow_of tree)))
shown_for wanted.Body tree = Err fault.NoAnswer
shown_for wanted.Name tree = Err fault.NoAnswer
shown_for wanted.Null tree = Err fault.NoAnswer

-- what was done, with that body, under that key
abbrev pub done_for : Wanted → List ℕ → List ℕ → Result (List ℕ) Fault
done_for wanted.Tree body key = Err fault.NoAnswer
done_for wanted.Shallow body key = Err fault.NoAnswer
done_for wanted.Body body key = Ok body
done_for wanted.Name body key = Ok (object_with (codes "name") key)
done_for wanted.Null body key = Ok (codes "null")

-- why it is refused, by the peer's word
abbrev pub refused_for : List ℕ → Fault
refused_for why = if bytes_eq why (codes "denied") then fault.Denied else fault.Overlap

-- what is answered once the peer has sent this
abbrev pub reply_of : Wanted → List ℕ → List ℕ → ServerMessage → Result (List ℕ) Fault
reply_of wanted body key (Data tag path tree) = shown_for wanted tree
reply_of wanted body key (DataMerge tag entries) = Err fault.NoAnswer
reply_of wanted body key (Push parts) = Err fault.NoAnswer
reply_of wanted body key (Accepted id) = done_for wanted body key
reply_of wanted body key (Refused id why) = Err (refused_for why)
reply_of wanted body key (Revoked tag why) = Err (refused_for why)
