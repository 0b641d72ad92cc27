-- What each call of a peer leaves, and what it sends.
use Rattle.std.specs.Prelude.{ℕ, Bool, true, false, not, ◌==◌, ◌||◌, if◌then◌else◌, List, [], ◌∷◌, ◌++◌, map}
use Rattle.std.specs.Prelude.{Option, Some, None, codes, nat_lt, nat_le}
use Rattle.std.specs.List.{filter, list_any}
use Rattle.rt_tree.specs.PathTree.{Path}
use Rattle.rt_tree.specs.Assignments.{Assignment, have_overlap, is_at_or_above}
use Rattle.rt_query.specs.Queries.{Query}
use Rattle.rt_wire.specs.declared.request.Ending.TheVariants.{Run, Cancel}
use Rattle.rt_wire.specs.declared.request.Asked.{Asked}
use Rattle.rt_wire.specs.declared.request.Asked.TheVariants.{Now, AtDisconnect}
use Rattle.rt_wire.specs.declared.client.ClientMessage.{ClientMessage}
use Rattle.rt_wire.specs.declared.client.ClientMessage.TheVariants.{Hello, Listen as ListenTo, Unlisten, Ask}
use Rattle.rt_wire.specs.declared.server.ServerMessage.{ServerMessage}
use Rattle.rt_wire.specs.declared.server.ServerMessage.TheVariants.{Data, Accepted, Refused, Revoked}
use Rattle.rt_peer.specs.declared.error.PeerError.{PeerError}
use Rattle.rt_peer.specs.declared.error.PeerError.TheVariants.{Failed, UnknownConnection}
use Rattle.rt_peer.specs.declared.pushes.Sent.{Sent}
use Rattle.rt_peer.specs.Peers.{Deferred, Peer, in_place, is_known, least_free, is_denied}
use Rattle.rt_peer.specs.Peers.{stands_too_deep, is_before, runs_before, is_at}
use Rattle.rt_peer.specs.Pushes.{written, seen, pushes, bundled, tree_after, pushes_after}
pub use Rattle.rt_wire.specs.Actions.{entries_of}

abbrev pub is_empty : List Assignment → Bool
is_empty [] = true
is_empty (a ∷ rest) = false

-- the peer after a call, and what is sent
abbrev pub Outcome : Type 0
Outcome = Peer × List Sent

-- one message for one connection
abbrev pub one : ℕ → ServerMessage → List Sent
one n message = record { to = n; message = message } ∷ []

-- ---- connect

-- a connection with the least free number
abbrev pub connected : Peer → Peer
connected p = record p { connections = in_place nat_lt (least_free p.connections) p.connections }

-- ---- versions

-- the numbers with this one, in its place, or without it
abbrev pub marked : Bool → ℕ → List ℕ → List ℕ
marked true n numbers = in_place nat_lt n (filter (λ m. not (m == n)) numbers)
marked false n numbers = filter (λ m. not (m == n)) numbers

-- from now on the connection reads version 2 where it says 2 or more, else version 1; nothing is sent
abbrev pub greeted : Peer → ℕ → ℕ → Outcome
greeted p n version = (record p { newer = marked (nat_le 2 version) n p.newer }, [])

-- ---- listens

-- the peer with a listen, in the place of an older one with its tag
abbrev pub kept : Peer → ℕ → ℕ → Query → Peer
kept p n tag q = record p {
  listens =
      in_place is_before (record { connection = n; tag = tag; query = q })
      (filter (λ l. not (is_at n tag l)) p.listens);
}

-- a listen is revoked where its path is denied; else it is kept, and sent what it shows
abbrev pub listened : Peer → ℕ → ℕ → Query → Outcome
listened p n tag q =
    if is_denied p.denied q.path then (p, one n (Revoked tag (codes "denied")))
    else (kept p n tag q, one n (Data tag q.path (seen q p.tree)))

-- a listen ends; nothing is sent
abbrev pub unlistened : Peer → ℕ → ℕ → Outcome
unlistened p n tag = (record p { listens = filter (λ l. not (is_at n tag l)) p.listens }, [])

-- ---- requests

-- whether the entries overlap or stand too deep
abbrev pub is_bad : List Assignment → Bool
is_bad entries = have_overlap entries || list_any stands_too_deep entries

-- why a request with these entries is refused: they overlap or stand too deep, or one is denied
abbrev pub refusal : List Path → List Assignment → Option (List ℕ)
refusal denied entries =
    if is_bad entries then Some (codes "bad")
    else if list_any (λ a. is_denied denied a.0) entries then Some (codes "denied")
    else None

-- `no` where the request is refused, with nothing changed
abbrev pub unless_refused : Option (List ℕ) → Peer → ℕ → ℕ → Outcome → Outcome
unless_refused None p n id outcome = outcome
unless_refused (Some why) p n id outcome = (p, one n (Refused id why))

-- a write is put into the tree, then pushed, then answered `ok`
abbrev pub wrote : Peer → ℕ → ℕ → List Assignment → Outcome
wrote p n id entries = (
  record p { tree = written p.tree entries },
  bundled p.newer (pushes p.tree (written p.tree entries) entries p.listens) ++ one n (Accepted id),
)

-- an action is kept, behind those of its number, and answered `ok`
abbrev pub deferred : Peer → ℕ → ℕ → List Assignment → Outcome
deferred p n id entries = (
  record p {
    actions =
        in_place runs_before (record { connection = n; id = id; entries = entries }) p.actions;
  },
  one n (Accepted id),
)

-- an action without its entries at and below a path, where it is that connection's
abbrev pub without_below : ℕ → Path → Deferred → Deferred
without_below n path a =
    if a.connection == n
    then record a { entries = filter (λ e. not (is_at_or_above path e.0)) a.entries }
    else a

-- whether there is anything to be done
abbrev pub has_entries : Deferred → Bool
has_entries a = not (is_empty a.entries)

-- the peer without what the connection has to be done at and below a path
abbrev pub dropped : Peer → ℕ → Path → Peer
dropped p n path = record p { actions = filter has_entries (map (without_below n path) p.actions) }

-- what is to be done at and below a path is dropped, and that answered `ok`
abbrev pub cancelled : Peer → ℕ → ℕ → Path → Outcome
cancelled p n id path =
    if is_denied p.denied path then (p, one n (Refused id (codes "denied")))
    else (dropped p n path, one n (Accepted id))

-- a request
abbrev pub asked : Peer → ℕ → ℕ → Asked → Outcome
asked p n id (Now action) =
    unless_refused (refusal p.denied (entries_of action)) p n id (wrote p n id (entries_of action))
asked p n id (AtDisconnect (Run action)) =
    unless_refused (refusal p.denied (entries_of action)) p n id (deferred p n id (entries_of action))
asked p n id (AtDisconnect (Cancel path)) = cancelled p n id path

-- ---- message and disconnect

-- a message of a known connection
abbrev pub answered : Peer → ℕ → ClientMessage → Outcome
answered p n (Hello version) = greeted p n version
answered p n (ListenTo tag query) = listened p n tag query
answered p n (Unlisten tag) = unlistened p n tag
answered p n (Ask id asked') = asked p n id asked'

-- the actions of a connection, in order
abbrev pub actions_of : Peer → ℕ → List Deferred
actions_of p n = filter (λ a. a.connection == n) p.actions

-- the end of a connection: its listens go, and its actions are run, each pushed as a write is
abbrev pub ended : Peer → ℕ → Peer
ended p n = record {
  tree = p.tree;
  denied = p.denied;
  connections = filter (λ m. not (m == n)) p.connections;
  newer = filter (λ m. not (m == n)) p.newer;
  listens = filter (λ l. not (l.connection == n)) p.listens;
  actions = filter (λ a. not (a.connection == n)) p.actions;
}

abbrev pub disconnected : Peer → ℕ → Outcome
disconnected p n = (
  record (ended p n) { tree = tree_after p.tree (actions_of p n) },
  pushes_after (ended p n).newer (ended p n).listens p.tree (actions_of p n),
)

-- ---- refusals

-- why a call on a connection is refused, before memory is looked for: the peer has lacked memory
-- before, or the connection is not known
abbrev pub fault : Option Peer → ℕ → Option PeerError
fault None n = Some Failed
fault (Some p) n = if is_known p.connections n then None else Some UnknownConnection
