-- What clients that come one after another leave of a peer, and how a client ends.
use Rattle.std.specs.Prelude.{◌≡◌, ◌≤◌, ℕ, Bool, true, ⊤, List, [], ◌∷◌, length, Option, Some, None, Result, Ok, Err}
use Rattle.std.specs.List.{AllByRecursion, fold}
use Rattle.rt_tree.specs.PathTree.{Path}
use Rattle.rt_peer.specs.Peers.{Peer, least_free}
use Rattle.rt_peer.specs.Runs.{after_all}
use Rattle.rt_serve.specs.Sessions.{session}
use Rattle.rt_serve.specs.declared.serve.TheConstants.{MAX_MESSAGES}
use Rattle.rt_input.specs.Faults.{Counts, Tells}
use Rattle.rt_commands.specs.declared.connection.ConnectFault.{ConnectFault}
use Rattle.rt_commands.specs.declared.connection.ConnectFault.TheVariants.{Ended, NotConnected}
use Rattle.rt_commands.specs.declared.server.ServeFault.{ServeFault}
use Rattle.rt_commands.specs.declared.server.ServeFault.TheVariants.{NotBound, NotAccepted, NoMemory}

-- ---- the peer

-- the denied paths
abbrev pub listed : Option Path → List Path
listed None = []
listed (Some path) = path ∷ []

-- the texts of a client, as many as are taken
abbrev pub IsTaken : List (List ℕ) → Type 0
IsTaken texts = length texts ≤ MAX_MESSAGES

-- the peer after a client: a connection with the least free number, its texts, and its end
abbrev pub after_client : Peer → List (List ℕ) → Peer
after_client p texts = after_all p (session (least_free p.connections) texts)

-- q is p after these clients, one after another
abbrev pub IsAfter : List (List (List ℕ)) → Peer → Option Peer → Type 0
IsAfter clients p q = AllByRecursion IsTaken clients × (q ≡ Some (fold after_client p clients))

-- q is p after so many clients
abbrev pub Serves : ℕ → Peer → Option Peer → Type 0
Serves count p q = (clients : List (List (List ℕ))) × (length clients ≡ count) × IsAfter clients p q

-- q is p after some clients, of whom there were at most so many
abbrev pub ServesSome : ℕ → Peer → Option Peer → Type 0
ServesSome most p q = (clients : List (List (List ℕ))) × (length clients ≤ most) × IsAfter clients p q

-- ---- streams

-- it has failed where a stream could not be given
abbrev pub Fails : {S E : Type 0} → Result S E → Bool → Bool → Type 0
Fails (Ok stream) old new = new ≡ old
Fails (Err why) old new = new ≡ true

-- ---- faults

-- a fault of that port, or want of memory
abbrev pub NamesPort : ℕ → ServeFault → Type 0
NamesPort port (NotBound p why) = p ≡ port
NamesPort port (NotAccepted p why) = p ≡ port
NamesPort port NoMemory = ⊤

-- serving stops where no client can be accepted, or for want of memory
abbrev pub Stops : ℕ → ServeFault → Bool → Bool → Type 0
Stops port (NotBound p why) old new = ⊥
Stops port (NotAccepted p why) old new = (p ≡ port) × (new ≡ true)
Stops port NoMemory old new = new ≡ old

-- ---- a client

-- a client ends early: no connection to the port is made, and nothing is read or written, or a fault of
-- the reader or the writer, or want of memory
abbrev pub EndsBy : ℕ → ConnectFault → Counts → Counts → Type 0
EndsBy port (NotConnected p why) old new = (p ≡ port) × (new ≡ old)
EndsBy port (Ended e) old new = Tells e old new
