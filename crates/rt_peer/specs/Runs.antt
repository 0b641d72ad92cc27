-- Runs of calls: what a peer is after any list of them, and what it sends on the way.
use Rattle.std.specs.Prelude.{ℕ, Bool, false, ◌==◌, ◌&&◌, if◌then◌else◌, List, [], ◌∷◌}
use Rattle.std.specs.Prelude.{◌++◌}
use Rattle.std.specs.List.{flat_map, fold, list_any}
use Rattle.rt_tree.specs.Assignments.{Assignment}
use Rattle.rt_wire.specs.declared.request.Asked.{Asked}
use Rattle.rt_wire.specs.declared.request.Asked.TheVariants.{Now, AtDisconnect}
use Rattle.rt_wire.specs.declared.client.ClientMessage.{ClientMessage}
use Rattle.rt_wire.specs.declared.client.ClientMessage.TheVariants.{Hello, Listen, Unlisten, Ask}
use Rattle.rt_wire.specs.declared.server.ServerMessage.{ServerMessage}
use Rattle.rt_wire.specs.declared.server.ServerMessage.TheVariants.{Data, DataMerge, Push, Accepted}
use Rattle.rt_wire.specs.declared.server.ServerMessage.TheVariants.{Refused, Revoked}
use Rattle.rt_peer.specs.declared.pushes.Sent.{Sent}
use Rattle.rt_peer.specs.Peers.{Peer, is_known}
use Rattle.rt_peer.specs.Calls.{Outcome, connected, answered, disconnected, actions_of, entries_of}
use Rattle.rt_peer.specs.Turns.{first_actions, turned}

-- a new connection, a message of one, its end, or a turn of its end with so many actions at most
pub data Call : Type 0 where
  Connect : Call
  Message : ℕ → ClientMessage → Call
  Disconnect : ℕ → Call
  EndSome : ℕ → ℕ → Call

-- the peer after a call, and what is sent; one on an unknown connection is refused
abbrev pub outcome : Peer → Call → Outcome
outcome p Connect = (connected p, [])
outcome p (Message n message) = if is_known p.connections n then answered p n message else (p, [])
outcome p (Disconnect n) = if is_known p.connections n then disconnected p n else (p, [])
outcome p (EndSome n most) = if is_known p.connections n then turned p n most else (p, [])

-- after calls, one after another
abbrev pub after_all : Peer → List Call → Peer
after_all p calls = fold (λ q call. (outcome q call).0) p calls

-- all that is sent, in order
abbrev pub sent_all : Peer → List Call → List Sent
sent_all p [] = []
sent_all p (call ∷ calls) = (outcome p call).1 ++ sent_all (outcome p call).0 calls

-- ---- what is written

-- whether a message refuses that request
abbrev pub says_no : ℕ → ServerMessage → Bool
says_no id (Data tag path tree) = false
says_no id (DataMerge tag entries) = false
says_no id (Push parts) = false
says_no id (Accepted i) = false
says_no id (Refused i why) = i == id
says_no id (Revoked tag why) = false

-- whether the connection is sent that its request is refused
abbrev pub is_refused : ℕ → ℕ → List Sent → Bool
is_refused n id sent = list_any (λ s. s.to == n && says_no id s.message) sent

-- what a request writes, where it isn't answered with `no`
abbrev pub written_by : Bool → Asked → List Assignment
written_by refused (Now action) = if refused then [] else entries_of action
written_by refused (AtDisconnect ending) = []

-- what a message writes, given what was sent for it
abbrev pub message_writes : ℕ → ClientMessage → List Sent → List Assignment
message_writes n (Hello version) sent = []
message_writes n (Listen tag query) sent = []
message_writes n (Unlisten tag) sent = []
message_writes n (Ask id asked) sent = written_by (is_refused n id sent) asked

-- what a call writes: a write of a known connection that isn't answered with `no`, the actions of one that
-- ends, or the first of them
abbrev pub writes : Peer → Call → List Assignment
writes p Connect = []
writes p (Message n message) =
    if is_known p.connections n then message_writes n message (outcome p (Message n message)).1 else []
writes p (Disconnect n) =
    if is_known p.connections n then flat_map (λ a. a.entries) (actions_of p n) else []
writes p (EndSome n most) =
    if is_known p.connections n then flat_map (λ a. a.entries) (first_actions p n most) else []

-- what calls write, one after another
abbrev pub writes_all : Peer → List Call → List Assignment
writes_all p [] = []
writes_all p (call ∷ calls) = writes p call ++ writes_all (outcome p call).0 calls
