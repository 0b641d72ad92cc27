-- What one connection sees of a list of calls.
use Rattle.std.specs.Prelude.{◌≡◌, ◌==◌, ℕ, Bool, true, not, if◌then◌else◌, take, List, [], ◌∷◌, ◌++◌}
use Rattle.std.specs.Prelude.{Option, Some, None, ⊤}
use Rattle.rt_peer.specs.Peers.{Peer, least_free}
use Rattle.rt_peer.specs.Runs.{Call, Connect, Message, Disconnect, EndSome}
use Rattle.rt_hub.specs.declared.refusal.Bounds.{Bounds}
use Rattle.rt_hub.specs.Bounded.{bounded}
use Rattle.rt_hub.specs.Hubs.{Hands, Hub, Makes, line_after}
use Rattle.rt_hub.specs.Lines.{Line, line_of, texts_to, without_first}

-- what a hub is asked for: a call of its peer, or the oldest text that waits for a connection
pub data Asked : Type 0 where
  OfPeer : Call → Asked
  Next : ℕ → Asked

-- ---- hubs

-- one call is made
abbrev pub DoesOne : Hub → Asked → Hub → Type 0
DoesOne old (OfPeer call) new = Makes old call new
DoesOne old (Next n) new = Hands old n new

-- calls are made, one after another
abbrev pub DoesAll : Hub → List Asked → Hub → Type 0
DoesAll old [] new = new ≡ old
DoesAll old (call ∷ calls) new = (mid : Hub) × DoesOne old call mid × DoesAll mid calls new

-- ---- one connection

-- what of a hub one connection depends on: the peer, and its own line, if it has one
pub record Watched : Type 0 where
  pub peer : Peer
  pub line : Option Line

abbrev pub watched_in : ℕ → Hub → Watched
watched_in n h = record { peer = h.peer; line = line_of h.lines n }

-- after a call
abbrev pub watched_after : Bounds → ℕ → Watched → Asked → Watched
watched_after bounds n w (OfPeer call) =
    record { peer = (bounded w.peer call).0; line = line_after bounds n w.peer call w.line }
watched_after bounds n w (Next m) = record w { line = if m == n then without_first w.line else w.line }

-- after calls, one after another
abbrev pub watched_all : Bounds → ℕ → Watched → List Asked → Watched
watched_all bounds n w [] = w
watched_all bounds n w (call ∷ calls) = watched_all bounds n (watched_after bounds n w call) calls

-- the texts that the peer sends to the connection for a call
abbrev pub sent_by : ℕ → Watched → Asked → List (List ℕ)
sent_by n w (OfPeer call) = texts_to n (bounded w.peer call).1
sent_by n w (Next m) = []

-- the text that the connection is given at a call, if there is one
abbrev pub first_in : Option Line → List (List ℕ)
first_in None = []
first_in (Some line) = take 1 line.waiting

abbrev pub given_by : ℕ → Watched → Asked → List (List ℕ)
given_by n w (OfPeer call) = []
given_by n w (Next m) = if m == n then first_in w.line else []

-- all texts that the peer sends to the connection for calls, in order
abbrev pub sent_all : Bounds → ℕ → Watched → List Asked → List (List ℕ)
sent_all bounds n w [] = []
sent_all bounds n w (call ∷ calls) =
    sent_by n w call ++ sent_all bounds n (watched_after bounds n w call) calls

-- all texts that the connection is given, in order
abbrev pub given_all : Bounds → ℕ → Watched → List Asked → List (List ℕ)
given_all bounds n w [] = []
given_all bounds n w (call ∷ calls) =
    given_by n w call ++ given_all bounds n (watched_after bounds n w call) calls

-- ---- how long a connection lasts

-- whether a call neither begins nor ends the connection
abbrev pub stays : ℕ → Peer → Asked → Bool
stays n p (OfPeer Connect) = not (least_free p.connections == n)
stays n p (OfPeer (Message m message)) = true
stays n p (OfPeer (Disconnect m)) = not (m == n)
stays n p (OfPeer (EndSome m most)) = not (m == n)
stays n p (Next m) = true

-- no call does
abbrev pub Lasts : Bounds → ℕ → Watched → List Asked → Type 0
Lasts bounds n w [] = ⊤
Lasts bounds n w (call ∷ calls) =
    (stays n w.peer call ≡ true) × Lasts bounds n (watched_after bounds n w call) calls
