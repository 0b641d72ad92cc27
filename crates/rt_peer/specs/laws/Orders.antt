-- In which order a peer's connections, listens and actions stand after any calls.
use Rattle.std.specs.Prelude.{◌≡◌, ◌<◌, ◌≤◌, ℕ, true, false, List, [], ◌∷◌, map}
use Rattle.std.specs.List.{All, AllPairs}
use Rattle.rt_tree.specs.Path.{path_keys}
use Rattle.rt_tree.specs.PathTree.{Path, PathTree, null}
use Rattle.rt_query.specs.Queries.{plain}
use Rattle.rt_wire.specs.declared.request.Action.TheVariants.{Put}
use Rattle.rt_wire.specs.declared.request.Ending.TheVariants.{Run}
use Rattle.rt_wire.specs.declared.request.Asked.TheVariants.{AtDisconnect}
use Rattle.rt_wire.specs.declared.client.ClientMessage.TheVariants.{Listen as ListenTo, Ask}
use Rattle.rt_peer.specs.Peers.{Peer, new_peer, is_known, least_free, is_before}
use Rattle.rt_peer.specs.Peers.{runs_before}
use Rattle.rt_peer.specs.Runs.{Call, Connect, Message, Disconnect, after_all}

-- from a new peer on, whatever is called, this holds of the peer
abbrev pub AfterAnyCalls : (Peer → Type 0) → Type 0
AfterAnyCalls Holds = (tree : PathTree) (denied : List Path) (calls : List Call) →
    Holds (after_all (new_peer tree denied) calls)

-- ---- connections

-- the numbers are from 1 on, and each is below all later ones
abbrev pub ConnectionsRise : Peer → Type 0
ConnectionsRise p = All (λ n. 1 ≤ n) p.connections × AllPairs (λ m n. m < n) p.connections

-- what a new connection gets is from 1 on, no known connection has it, and each lower one is known
abbrev pub NextIsLeastFree : Peer → Type 0
NextIsLeastFree p =
    (1 ≤ least_free p.connections)
    × (is_known p.connections (least_free p.connections) ≡ false)
    × ((n : ℕ) → 1 ≤ n → n < least_free p.connections → is_known p.connections n ≡ true)

-- ---- listens

-- each listen is before all later ones, so no connection has two with one tag
abbrev pub ListensRise : Peer → Type 0
ListensRise p = AllPairs (λ l m. is_before l m ≡ true) p.listens

-- each is a known connection's
abbrev pub ListensAreOfKnown : Peer → Type 0
ListensAreOfKnown p = All (λ l. is_known p.connections l.connection ≡ true) p.listens

-- ---- actions

-- none is to run before an earlier one; several may have one number
abbrev pub ActionsRise : Peer → Type 0
ActionsRise p = AllPairs (λ a b. runs_before b a ≡ false) p.actions

-- each is a known connection's
abbrev pub ActionsAreOfKnown : Peer → Type 0
ActionsAreOfKnown p = All (λ a. is_known p.connections a.connection ≡ true) p.actions

-- ---- examples: two connections, and what each asks for in an order of its own

abbrev pub empty : Peer
empty = new_peer null []

abbrev pub listen : ℕ → ℕ → Call
listen n tag = Message n (ListenTo tag (plain (path_keys [])))

abbrev pub at_end : ℕ → ℕ → Call
at_end n id = Message n (Ask id (AtDisconnect (Run (Put (path_keys []) null))))

abbrev pub busy : Peer
busy = after_all empty
    (Connect ∷ Connect ∷ listen 2 1 ∷ listen 1 7 ∷ listen 1 4 ∷ listen 1 7
    ∷ at_end 2 3 ∷ at_end 1 9 ∷ at_end 1 9 ∷ [])

-- they stand by connection, then by tag or number, and not in the order of their coming
abbrev pub BusyIsSorted : Type 0
BusyIsSorted =
    (map (λ l. l.connection) busy.listens ≡ 1 ∷ 1 ∷ 2 ∷ [])
    × (map (λ l. l.tag) busy.listens ≡ 4 ∷ 7 ∷ 1 ∷ [])
    × (map (λ a. a.connection) busy.actions ≡ 1 ∷ 1 ∷ 2 ∷ [])
    × (map (λ a. a.id) busy.actions ≡ 9 ∷ 9 ∷ 3 ∷ [])

-- ---- what does not hold

-- two actions of one number: that each runs before all later ones is false
abbrev pub ActionsMayTie : Type 0
ActionsMayTie = AfterAnyCalls (λ p. AllPairs (λ a b. runs_before a b ≡ true) p.actions) → ⊥

-- a gap stands below a known number, so a new number is not one above all
abbrev pub NumbersMayHaveGaps : Type 0
NumbersMayHaveGaps =
    AfterAnyCalls (λ p. All (λ n. n < least_free p.connections) p.connections) → ⊥

-- a listen of a connection that has ended, or never began, is not kept
abbrev pub NoListenIsLeft : Type 0
NoListenIsLeft =
    ((after_all empty (Connect ∷ listen 1 1 ∷ listen 2 1 ∷ Disconnect 1 ∷ [])).listens ≡ [])
    × ((after_all empty (Connect ∷ at_end 1 1 ∷ at_end 2 1 ∷ Disconnect 1 ∷ [])).actions ≡ [])
