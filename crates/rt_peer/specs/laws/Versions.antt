-- Which connections read version 2 after any calls.
use Rattle.std.specs.Prelude.{◌≡◌, ◌<◌, ℕ, Bool, true, false, ◌==◌, if◌then◌else◌, List, [], ◌∷◌, nat_le}
use Rattle.std.specs.List.{All, AllPairs, fold, list_any}
use Rattle.rt_wire.specs.declared.client.ClientMessage.{ClientMessage}
use Rattle.rt_wire.specs.declared.client.ClientMessage.TheVariants.{Hello, Listen, Unlisten, Ask}
use Rattle.rt_peer.specs.Peers.{Peer, is_known, least_free}
use Rattle.rt_peer.specs.Calls.{connected}
use Rattle.rt_peer.specs.Runs.{Call, Connect, Message, Disconnect, EndSome, after_all}
use Rattle.rt_peer.specs.laws.Orders.{AfterAnyCalls}

-- each number is below all later ones
abbrev pub NewerRise : Peer → Type 0
NewerRise p = AllPairs (λ m n. m < n) p.newer

-- each is a known connection's
abbrev pub NewerAreKnown : Peer → Type 0
NewerAreKnown p = All (λ n. is_known p.connections n ≡ true) p.newer

-- a new connection reads version 1, whoever had its number before
abbrev pub BeginsOlder : Peer → Type 0
BeginsOlder p = is_known (connected p).newer (least_free p.connections) ≡ false

-- ---- what a connection told last

-- whether a connection reads version 2 once it has said this, given whether it did before
abbrev pub reads_after : Bool → ClientMessage → Bool
reads_after newer (Hello version) = nat_le 2 version
reads_after newer (Listen tag query) = newer
reads_after newer (Unlisten tag) = newer
reads_after newer (Ask id asked) = newer

-- the same of any call, for the connection n
abbrev pub reads_after_call : ℕ → Bool → Call → Bool
reads_after_call n newer Connect = newer
reads_after_call n newer (Message m message) = if m == n then reads_after newer message else newer
reads_after_call n newer (Disconnect m) = newer
reads_after_call n newer (EndSome m most) = newer

-- whether the call ends the connection, or begins to
abbrev pub is_end_of : ℕ → Call → Bool
is_end_of n Connect = false
is_end_of n (Message m message) = false
is_end_of n (Disconnect m) = m == n
is_end_of n (EndSome m most) = m == n

-- a known connection reads, until it ends, what it told last
abbrev pub VersionIsToldLast : Type 0
VersionIsToldLast = (p : Peer) (n : ℕ) (calls : List Call) → is_known p.connections n ≡ true
    → list_any (is_end_of n) calls ≡ false
    → is_known (after_all p calls).newer n ≡ fold (reads_after_call n) (is_known p.newer n) calls

-- ---- what does not hold

-- each known connection reads version 2
abbrev pub SomeAreOlder : Type 0
SomeAreOlder = AfterAnyCalls (λ p. All (λ n. is_known p.newer n ≡ true) p.connections) → ⊥

-- who has read version 2 reads it until it ends
abbrev pub VersionsMayFall : Type 0
VersionsMayFall = ((p : Peer) (n : ℕ) (message : ClientMessage) → is_known p.connections n ≡ true
    → is_known p.newer n ≡ true → is_known (after_all p (Message n message ∷ [])).newer n ≡ true) → ⊥
