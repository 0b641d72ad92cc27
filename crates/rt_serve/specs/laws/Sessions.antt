-- What a connection that is served leaves as it was.
use Rattle.std.specs.Prelude.{◌≡◌, ℕ, List}
use Rattle.rt_peer.specs.Peers.{Peer, least_free}
use Rattle.rt_peer.specs.Runs.{after_all}
use Rattle.rt_peer.specs.laws.Orders.{ConnectionsRise, NextIsLeastFree}
use Rattle.rt_serve.specs.Sessions.{session}

-- where the connections rise, and what a new one gets is free, they are those of before
abbrev pub SessionsLeaveConnections : Type 0
SessionsLeaveConnections = (p : Peer) (texts : List (List ℕ)) → ConnectionsRise p
    → NextIsLeastFree p → (after_all p (session (least_free p.connections) texts)).connections ≡ p.connections
