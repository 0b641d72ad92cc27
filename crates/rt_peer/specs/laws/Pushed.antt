-- What a connection is sent, by the version that it reads.
use Rattle.std.specs.Prelude.{◌≡◌, ◌<◌, ◌≤◌, ⊤, ℕ, Bool, true, false, not, ◌==◌, if◌then◌else◌}
use Rattle.std.specs.Prelude.{List, [], ◌∷◌, ◌++◌, length, map}
use Rattle.std.specs.List.{All, AllPairs, filter, flat_map}
use Rattle.rt_tree.specs.PathTree.{PathTree}
use Rattle.rt_wire.specs.declared.client.ClientMessage.{ClientMessage}
use Rattle.rt_wire.specs.declared.server.ServerMessage.{ServerMessage}
use Rattle.rt_wire.specs.declared.server.ServerMessage.TheVariants.{Data, DataMerge, Push}
use Rattle.rt_wire.specs.declared.server.ServerMessage.TheVariants.{Accepted, Refused, Revoked}
use Rattle.rt_peer.specs.declared.pushes.Sent.{Sent}
use Rattle.rt_peer.specs.Peers.{Deferred, Listen, Peer, is_known}
use Rattle.rt_peer.specs.Pushes.{parts_in, pushes, written}
use Rattle.rt_peer.specs.Calls.{actions_of, answered, disconnected, ended}
use Rattle.rt_peer.specs.Turns.{first_actions, turned}

-- the messages for one connection, in order
abbrev pub messages_to : ℕ → List Sent → List ServerMessage
messages_to n sent = map (λ s. s.message) (filter (λ s. s.to == n) sent)

-- whether it pushes what listens show
abbrev pub is_push : ServerMessage → Bool
is_push (Data tag path tree) = true
is_push (DataMerge tag entries) = true
is_push (Push parts) = true
is_push (Accepted id) = false
is_push (Refused id why) = false
is_push (Revoked tag why) = false

-- several pushes as one with the parts of all, in order; a single one as it is
abbrev pub as_one : List ServerMessage → List ServerMessage
as_one [] = []
as_one (m ∷ []) = m ∷ []
as_one (m ∷ k ∷ rest) = Push (flat_map parts_in (m ∷ k ∷ rest)) ∷ []

-- messages to one who reads version 1, as one who reads version 2 gets them: the pushes as one, and
-- then the others
abbrev pub as_newer : List ServerMessage → List ServerMessage
as_newer messages = as_one (filter is_push messages) ++ filter (λ m. not (is_push m)) messages

abbrev pub by_version : Bool → List ServerMessage → List ServerMessage
by_version newer messages = if newer then as_newer messages else messages

-- ---- a message of a connection

-- the peer, were version 1 all that its connections read
abbrev pub older : Peer → Peer
older p = record p { newer = [] }

-- what each connection is sent for it is what one that reads version 1 would be sent, by its version
abbrev pub MessagesAreByVersion : Peer → Type 0
MessagesAreByVersion p = (n from : ℕ) (message : ClientMessage) →
    messages_to n (answered p from message).1
    ≡ by_version (is_known p.newer n) (messages_to n (answered (older p) from message).1)

-- ---- the end of a connection

-- what listens are sent that read version 1, a list for each action
abbrev pub pushes_each : PathTree → List Listen → List Deferred → List (List Sent)
pushes_each t listens [] = []
pushes_each t listens (a ∷ actions) =
    pushes t (written t a.entries) a.entries listens
    ∷ pushes_each (written t a.entries) listens actions

-- of each action of the connection that ends, each other one is sent its pushes by its version
abbrev pub EndsAreByVersion : Peer → Type 0
EndsAreByVersion p = (n gone : ℕ) →
    messages_to n (disconnected p gone).1
    ≡ flat_map (λ sent. by_version (is_known (ended p gone).newer n) (messages_to n sent))
    (pushes_each p.tree (ended p gone).listens (actions_of p gone))

-- and of each action of a turn
abbrev pub TurnsAreByVersion : Peer → Type 0
TurnsAreByVersion p = (n gone most : ℕ) →
    messages_to n (turned p gone most).1
    ≡ flat_map (λ sent. by_version (is_known (ended p gone).newer n) (messages_to n sent))
    (pushes_each p.tree (ended p gone).listens (first_actions p gone most))

-- ---- parts

-- a push of parts has two or more, and their tags rise, so no tag stands twice
abbrev pub HasRisingParts : ServerMessage → Type 0
HasRisingParts (Data tag path tree) = ⊤
HasRisingParts (DataMerge tag entries) = ⊤
HasRisingParts (Push parts) = (2 ≤ length parts) × AllPairs (λ a b. a.0 < b.0) parts
HasRisingParts (Accepted id) = ⊤
HasRisingParts (Refused id why) = ⊤
HasRisingParts (Revoked tag why) = ⊤

-- each message for what a connection says, for its end, and for a turn of that
abbrev pub PartsRise : Peer → Type 0
PartsRise p = (from : ℕ) →
    ((message : ClientMessage) → All (λ s. HasRisingParts s.message) (answered p from message).1)
    × All (λ s. HasRisingParts s.message) (disconnected p from).1
    × ((most : ℕ) → All (λ s. HasRisingParts s.message) (turned p from most).1)
