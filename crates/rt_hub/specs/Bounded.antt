-- What a hub has its peer do: what the peer would do alone, but that the hub answers some messages itself. A request
-- for a connection's end is refused where the connection has as many as it may. A write is refused where the tree's
-- text would be longer than one that is sent, and a listen is revoked where it shows such a tree.
use Rattle.std.specs.Prelude.{ℕ, ◌==◌, ◌&&◌, not, nat_le, nat_lt, length, Bool, if◌then◌else◌, List, [], ◌∷◌, ◌++◌}
use Rattle.std.specs.Prelude.{Option, Some, None, codes}
use Rattle.std.specs.List.{filter, fold, list_any}
use Rattle.rt_tree.specs.Assignments.{Assignment}
use Rattle.rt_tree.specs.PathTree.{PathTree}
use Rattle.rt_query.specs.Queries.{Query}
use Rattle.rt_wire.specs.Actions.{entries_of, stands_too_deep}
use Rattle.rt_wire.specs.declared.request.Asked.{Asked}
use Rattle.rt_wire.specs.declared.request.Asked.TheVariants.{Now, AtDisconnect}
use Rattle.rt_wire.specs.declared.request.Ending.TheVariants.{Run, Cancel}
use Rattle.rt_wire.specs.declared.client.ClientMessage.{ClientMessage}
use Rattle.rt_wire.specs.declared.client.ClientMessage.TheVariants.{Hello, Listen, Unlisten, Ask}
use Rattle.rt_wire.specs.declared.server.ServerMessage.{ServerMessage}
use Rattle.rt_wire.specs.declared.server.ServerMessage.TheVariants.{Refused, Revoked}
use Rattle.rt_peer.specs.Peers.{Peer}
use Rattle.rt_peer.specs.Calls.{Outcome, actions_of, one}
use Rattle.rt_peer.specs.Lengths.{text_length}
use Rattle.rt_peer.specs.Pushes.{seen, written}
use Rattle.rt_peer.specs.Runs.{Call, Connect, Message, Disconnect, EndSome, outcome}
use Rattle.rt_peer.specs.declared.pushes.Sent.{Sent}
use Rattle.rt_hub.specs.declared.door.Bar.{Bar}
use Rattle.rt_hub.specs.declared.door.Bar.TheVariants.{TooMany, TooLong, Unsendable}
use Rattle.rt_hub.specs.declared.refusal.TheConstants.{MAX_ACTIONS, MAX_LISTENS, MAX_TREE_BYTES}

-- ---- trees that are too long

-- a tree whose text is longer than one that is sent
abbrev pub is_too_long : PathTree → Bool
is_too_long t = nat_lt MAX_TREE_BYTES (text_length t)

-- whether a write makes the tree such a one; entries that stand too deep are refused anyway
abbrev pub grows_too_long : PathTree → List Assignment → Bool
grows_too_long t entries = not (list_any stands_too_deep entries) && is_too_long (written t entries)

-- whether a query shows such a one: what it shows is no longer than the whole, which is looked at first
abbrev pub shows_too_long : PathTree → Query → Bool
shows_too_long t q = is_too_long t && is_too_long (seen q t)

-- ---- what a hub answers itself

-- why it answers a request
abbrev pub asked_bar : Peer → ℕ → ℕ → Asked → Option Bar
asked_bar p n id (Now action) = if grows_too_long p.tree (entries_of action) then Some (TooLong id) else None
asked_bar p n id (AtDisconnect (Run action)) =
    if nat_le MAX_ACTIONS (length (actions_of p n)) then Some (TooMany id) else None
asked_bar p n id (AtDisconnect (Cancel path)) = None

-- why it answers a message
abbrev pub bar_of : Peer → ℕ → ClientMessage → Option Bar
bar_of p n (Hello version) = None
bar_of p n (Listen tag query) = if shows_too_long p.tree query then Some (Unsendable tag) else None
bar_of p n (Unlisten tag) = None
bar_of p n (Ask id asked) = asked_bar p n id asked

-- the reason that it says
abbrev pub reason_of : Bar → List ℕ
reason_of (TooMany id) = codes "too many requests for the end of a connection"
reason_of (TooLong id) = codes "a tree of more than 67108864 bytes"
reason_of (Unsendable tag) = codes "a tree of more than 67108864 bytes"

-- what it answers
abbrev pub answer_of : Bar → List ℕ → ServerMessage
answer_of (TooMany id) why = Refused id why
answer_of (TooLong id) why = Refused id why
answer_of (Unsendable tag) why = Revoked tag why

abbrev pub said_by : Bar → ServerMessage
said_by bar = answer_of bar (reason_of bar)

-- ---- calls

abbrev pub unless_barred : Option Bar → Peer → ℕ → Outcome → Outcome
unless_barred None p n out = out
unless_barred (Some bar) p n out = (p, one n (said_by bar))

-- the peer after a call, and what is sent
abbrev pub bounded : Peer → Call → Outcome
bounded p Connect = outcome p Connect
bounded p (Message n message) = unless_barred (bar_of p n message) p n (outcome p (Message n message))
bounded p (Disconnect n) = outcome p (Disconnect n)
bounded p (EndSome n most) = outcome p (EndSome n most)

-- after calls, one after another
abbrev pub after_bounded : Peer → List Call → Peer
after_bounded p calls = fold (λ q call. (bounded q call).0) p calls

-- all that is sent, in order
abbrev pub sent_bounded : Peer → List Call → List Sent
sent_bounded p [] = []
sent_bounded p (call ∷ calls) = (bounded p call).1 ++ sent_bounded (bounded p call).0 calls

-- ---- listens

-- whether the connection has more listens than it may: it is to be ended
abbrev pub has_too_many : Peer → ℕ → Bool
has_too_many p n = nat_lt MAX_LISTENS (length (filter (λ l. l.connection == n) p.listens))
