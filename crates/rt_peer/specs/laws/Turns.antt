-- Turns of a connection's end, with nothing between them, are its end.
use Rattle.std.specs.Prelude.{◌≡◌, ℕ, ◌+◌, true, false, ◌++◌, length}
use Rattle.rt_peer.specs.Peers.{Peer}
use Rattle.rt_peer.specs.Calls.{actions_of, disconnected}
use Rattle.rt_peer.specs.Turns.{is_last_turn, turned}

-- after one turn, what is left of the end leaves the peer that the end at once leaves, and all that is sent
-- is what it sends, in the same order
abbrev pub TurnThenEndIsEnd : Type 0
TurnThenEndIsEnd = (p : Peer) (n most : ℕ) →
    ((disconnected (turned p n most).0 n).0 ≡ (disconnected p n).0)
    × ((turned p n most).1 ++ (disconnected (turned p n most).0 n).1 ≡ (disconnected p n).1)

-- and a turn behind which none is left is the end itself
abbrev pub LastTurnIsEnd : Type 0
LastTurnIsEnd = (p : Peer) (n most : ℕ) → is_last_turn p n most ≡ true →
    turned p n most ≡ disconnected p n

-- each turn but the last runs so many actions, so turns of one action and more come to an end
abbrev pub TurnsRunSoMany : Type 0
TurnsRunSoMany = (p : Peer) (n most : ℕ) → is_last_turn p n most ≡ false →
    length (actions_of (turned p n most).0 n) + most ≡ length (actions_of p n)
