-- Where a connection stands, and what a turn and a close make of that.
use Rattle.std.specs.Prelude.{◌≡◌, ◌≢◌, ◌⊎◌, ◌++◌, ⊤, Bool, true, false, List, []}
use Rattle.rt_link.specs.declared.connection.LinkStage.{LinkStage}
use Rattle.rt_link.specs.declared.connection.LinkStage.TheVariants as stage
use Rattle.rt_link.specs.declared.connection.LinkTurn.{LinkTurn}
use Rattle.rt_link.specs.declared.connection.LinkTurn.TheVariants as turn
use Rattle.rt_socket.specs.declared.wire.Lost.TheVariants as lost
use Rattle.rt_link.specs.declared.turn.Passed.{Passed}

-- its handshake is not done, or it stands; the client has said that it goes; it is gone
pub data Standing : Type 0 where
  Shaking : Standing
  Open : Standing
  Closing : Standing
  Gone : Standing

-- a connection: where it stands, and why messages of the server were passed over since somebody asked
pub record Carried : Type 0 where
  pub standing : Standing
  pub passed : List Passed

abbrev pub is_open : Standing → Bool
is_open Shaking = false
is_open Open = true
is_open Closing = false
is_open Gone = false

-- as it begins
abbrev pub begun : Carried
begun = record { standing = Shaking; passed = [] }

abbrev pub standing_of : {S N : Type 0} → LinkStage S N → Standing
standing_of (stage.Shaking mid) = Shaking
standing_of (stage.Open socket) = Open
standing_of (stage.Closing socket) = Closing
standing_of stage.Gone = Gone

-- ---- a turn

-- a handshake is waited for, is done, or fails
abbrev pub Shakes : LinkTurn → Standing → Type 0
Shakes (turn.Idle most) new = new ≡ Shaking
Shakes turn.More new = new ≡ Open
Shakes (turn.NotOpened why) new = new ≡ Gone
Shakes (turn.Ended why) new = ⊥

-- a connection goes on as it stands, or ends
abbrev pub GoesOn : Standing → LinkTurn → Standing → Type 0
GoesOn old (turn.Idle most) new = new ≡ old
GoesOn old turn.More new = new ≡ old
GoesOn old (turn.NotOpened why) new = ⊥
GoesOn old (turn.Ended why) new = new ≡ Gone

-- what a turn says, and where the connection stands then
abbrev pub Turns : Standing → LinkTurn → Standing → Type 0
Turns Shaking t new = Shakes t new
Turns Open t new = GoesOn Open t new
Turns Closing t new = GoesOn Closing t new
Turns Gone t new = (t ≡ turn.NotOpened lost.Closed) × (new ≡ Gone)

-- a turn that fails leaves it standing, or gone; a turn of one that is gone doesn't fail
abbrev pub Fails : Standing → Standing → Type 0
Fails Shaking new = (new ≡ Open) ⊎ (new ≡ Gone)
Fails Open new = (new ≡ Open) ⊎ (new ≡ Gone)
Fails Closing new = new ≡ Gone
Fails Gone new = ⊥

-- messages are passed over where it stands alone
abbrev pub PassesOver : Carried → List Passed → Type 0
PassesOver old new = (more : List Passed) × (new ≡ old.passed ++ more) × (old.standing ≢ Open → more ≡ [])

-- ---- its end

-- one that stands is left, by the closing handshake where that can begin; one that is left already stays so
abbrev pub Closes : Standing → Standing → Type 0
Closes Shaking new = new ≡ Gone
Closes Open new = (new ≡ Closing) ⊎ (new ≡ Gone)
Closes Closing new = new ≡ Closing
Closes Gone new = new ≡ Gone

-- where it stands then, the server told of it or not
abbrev pub left_standing : Bool → Standing
left_standing true = Closing
left_standing false = Gone

-- it is left, or gone
abbrev pub IsLeft : Standing → Type 0
IsLeft Shaking = ⊥
IsLeft Open = ⊥
IsLeft Closing = ⊤
IsLeft Gone = ⊤
