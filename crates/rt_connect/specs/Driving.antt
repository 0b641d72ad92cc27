-- What is printed of a client that is behind a lock. Of what a lock holds nothing is known beforehand: each
-- relation holds of some client.
use Rattle.std.specs.Prelude.{◌≡◌, ℕ, Bool, true, false, List, ◌++◌, Option}
use Rattle.rt_socket.specs.declared.wire.Lost.{Lost}
use Rattle.rt_world.specs.declared.step.Step.{Step}
use Rattle.rt_world.specs.declared.step.Step.TheVariants.{Disconnected}
use Rattle.rt_client.specs.Calls.{Locked}
use Rattle.rt_lines.specs.declared.order.Order.{Order}
use Rattle.rt_connect.specs.declared.link.ServerEvent.{ServerEvent}
use Rattle.rt_connect.specs.declared.link.ServerEvent.TheVariants.{Ended}
use Rattle.rt_connect.specs.declared.link.ServerEvent.TheVariants as heard
use Rattle.rt_connect.specs.declared.link.ServerFrame.{ServerFrame}
use Rattle.rt_connect.specs.Doing.{IsTold, Obeys, Seats, TakesTold, disconnected}
use Rattle.rt_connect.specs.Sending.{Linked, SendsAll}
use Rattle.rt_connect.specs.Telling.{TellsAll}
use Rattle.rt_connect.specs.inside.Waiting.{waiting_of}

-- ---- what the client does

-- a step of the connection is made, or refused
abbrev pub PrintsStep : Step → List ℕ → Type 0
PrintsStep step text = (old new : Locked) × IsTold old step new text

-- an order is done
abbrev pub DoesOrder : Order → Seats → List ℕ → Seats → Type 0
DoesOrder order seats text left = (old new : Locked) × Obeys order old seats text new left

-- a message of the server is taken
abbrev pub PrintsTaken : ServerFrame → List ℕ → Type 0
PrintsTaken told text = (old new : Locked) × TakesTold told old new text

-- the seats are told what waits for them
abbrev pub PrintsTold : Seats → List ℕ → Type 0
PrintsTold seats text = (old new : Locked) × TellsAll old seats text new

-- ---- the connection

-- the connection is gone: that is printed, and then what the seats are told
abbrev pub PrintsLost : Seats → List ℕ → Type 0
PrintsLost seats text =
    (why told : List ℕ) × PrintsStep Disconnected why × PrintsTold seats told
    × (text ≡ (disconnected ++ why) ++ told)

-- whether the connection stands once that was heard
abbrev pub goes_on : ServerEvent → Bool
goes_on (heard.Told told) = true
goes_on (Ended why) = false

-- what was heard is taken: a message, and then the seats are told; or the connection is gone
abbrev pub PrintsHeard : ServerEvent → Seats → List ℕ → Type 0
PrintsHeard (heard.Told told) seats text =
    (taken rest : List ℕ) × PrintsTaken told taken × PrintsTold seats rest × (text ≡ taken ++ rest)
PrintsHeard (Ended why) seats text = PrintsLost seats text

-- ---- what is sent

-- all that the client has to send was sent, in order
abbrev pub HasSent : {W : Type 0} → (W → List ℕ → Option Lost → W → Type 0) → Linked W → Linked W → Type 0
HasSent sends old new = (locked : Locked) × SendsAll sends old (waiting_of locked) new
