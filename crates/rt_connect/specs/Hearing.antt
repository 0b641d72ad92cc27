-- What is heard of a server, and what is passed over.
use Rattle.std.specs.Prelude.{◌≡◌, ◌+◌, ℕ, zero, suc, Option, Some, None}
use Rattle.rt_socket.specs.declared.wire.Lost.TheVariants.{Silent}
use Rattle.rt_socket.specs.declared.wire.Heard.{Heard}
use Rattle.rt_socket.specs.declared.wire.Heard.TheVariants as socket
use Rattle.rt_connect.specs.declared.link.ServerEvent.{ServerEvent}
use Rattle.rt_connect.specs.declared.link.ServerEvent.TheVariants.{Ended}
use Rattle.rt_connect.specs.declared.link.ServerEvent.TheVariants as heard
use Rattle.rt_connect.specs.declared.link.ServerFrame.TheVariants.{Text, Binary}
use Rattle.rt_connect.specs.declared.link.Lost.TheVariants.{Pings, Socket}

-- a text and a binary message are told, and a ping and a pong are passed over; nothing is the end, of a server
-- that was waited for
abbrev pub told_of : Heard → Option ServerEvent
told_of (socket.Text words) = Some (heard.Told (Text words))
told_of socket.Binary = Some (heard.Told Binary)
told_of socket.Sign = None
told_of socket.Nothing = Some (Ended (Socket Silent))
told_of (socket.Ended why) = Some (Ended (Socket why))

-- that comes next of a connection, whose own relation that is, and says this; none is passed over
pub record Hears {W : Type 0} (hears : W → Heard → W → Type 0) (old : W) (heard : Option ServerEvent) (new : W)
    : Type 0 where
  pub given : Heard
  pub comes : hears old given new
  pub says : told_of given ≡ heard

-- so many pings and pongs are passed over, one after another
abbrev pub Passes : {W : Type 0} → (W → Heard → W → Type 0) → ℕ → W → W → Type 0
Passes hears zero old new = new ≡ old
Passes hears (suc count) old new = (mid : _) × Passes hears count old mid × Hears hears mid None new

-- where more of them may come that is heard, and else the connection has failed
abbrev pub HearsLast : {W : Type 0} → (W → Heard → W → Type 0) → W → ServerEvent → ℕ → W → Type 0
HearsLast hears old heard zero new = (heard ≡ Ended Pings) × (new ≡ old)
HearsLast hears old heard (suc left) new = Hears hears old (Some heard) new

-- that is heard once pings and pongs are passed over: so many might come, and so many may come then
pub record HearsAfter {W : Type 0} (hears : W → Heard → W → Type 0) (pings : ℕ) (old : W) (heard : ServerEvent)
    (left : ℕ) (new : W) : Type 0 where
  pub count : ℕ
  pub mid : W
  pub passes : Passes hears count old mid
  pub counted : count + left ≡ pings
  pub last : HearsLast hears mid heard left new
