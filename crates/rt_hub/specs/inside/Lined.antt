-- What the code's parts are to a hub.
use Rattle.std.specs.Prelude.{◌≡◌, ℕ, Bool, true, false, is_some, List, Option, Some, None}
use Rattle.std.specs.Option.{option_map}
use Rattle.rt_peer.specs.Peers.{Peer, is_known}
use Rattle.rt_peer.specs.Runs.{Call}
use Rattle.rt_hub.specs.declared.refusal.Bounds.{Bounds}
use Rattle.rt_hub.specs.Bounded.{bounded}
use Rattle.rt_hub.specs.Hubs.{Hub, line_after}
use Rattle.rt_hub.specs.Lines.{Line, line_of}

-- a hub of a peer and lines; none once it has lacked memory
abbrev pub hub_of : Bool → Option Peer → Bounds → List (Option Line) → Option Hub
hub_of true peer bounds lines = None
hub_of false peer bounds lines =
    option_map (λ p. record { peer = p; bounds = bounds; lines = lines }) peer

-- just the known connections have a line
abbrev pub AreLined : Peer → List (Option Line) → Type 0
AreLined p lines = (n : ℕ) → is_some (line_of lines n) ≡ is_known p.connections n

-- so it is of a peer that has not lacked memory
abbrev pub AreLinedOf : Option Peer → List (Option Line) → Type 0
AreLinedOf None lines = ⊥
AreLinedOf (Some p) lines = AreLined p lines

-- a peer's call is made, and each line is as it leaves it
pub record DoesCall (bounds : Bounds) (old : Peer) (had : List (Option Line)) (call : Call) (new : Peer)
    (has : List (Option Line)) : Type 0 where
  pub peer : new ≡ (bounded old call).0
  pub lines : (n : ℕ) → line_of has n ≡ line_after bounds n old call (line_of had n)
  pub lined : AreLined new has

abbrev pub IsDone : Bounds → Option Peer → List (Option Line) → Call → Option Peer → List (Option Line)
    → Type 0
IsDone bounds None had call new has = ⊥
IsDone bounds (Some old) had call None has = ⊥
IsDone bounds (Some old) had call (Some new) has = DoesCall bounds old had call new has
