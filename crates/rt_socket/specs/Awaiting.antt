-- What is heard of a WebSocket by one who waits for the other side, and what is sent. A read of its stream is
-- given up after a tick.
use Rattle.std.specs.Prelude.{◌≡◌, ◌<◌, ◌⊎◌, ◌==◌, ℕ, zero, suc, List, [], Bool, true, false}
use Rattle.std.specs.Prelude.{if◌then◌else◌, Option, Some, None, Result, Ok, Err}
use Rattle.std.specs.declared.alloc.AllocError.{AllocError}
use Rattle.tungstenite.specs.Connection.{Effect, write_step}
use Rattle.tungstenite.specs.Content.{ping}
use Rattle.tungstenite.specs.Failure.{WriteFails}
use Rattle.tungstenite.specs.Socket.{Socket, Writes}
use Rattle.tungstenite.specs.declared.error.Error.{Error}
use Rattle.websocket.specs.declared.error.Error.{Error as FrameError}
use Rattle.rt_input.specs.Counted.{CountedStream}
use Rattle.rt_socket.specs.declared.socket.SocketFault.{SocketFault}
use Rattle.rt_socket.specs.declared.socket.SocketFault.TheVariants as fault
use Rattle.rt_socket.specs.declared.wire.Lost.{Lost}
use Rattle.rt_socket.specs.declared.wire.Lost.TheVariants.{Failed, Silent}
use Rattle.rt_socket.specs.declared.patience.TheConstants.{ASKING_TICK, SILENT_TICKS}
use Rattle.rt_socket.specs.declared.wire.Heard.{Heard}
use Rattle.rt_socket.specs.declared.wire.Heard.TheVariants.{Text, Binary, Sign, Nothing, Ended}
use Rattle.rt_socket.specs.Hearing.{fault_in, fault_of, is_blocked}
use Rattle.rt_socket.specs.Sockets.{Hears}

-- ---- what is sent

-- why it is not sent: want of memory ends a run; the other side read nothing for long, or the socket has
-- failed
abbrev pub unsent_by : SocketFault → Result Lost AllocError
unsent_by fault.OutOfMemory = Err (record {})
unsent_by f = Ok (if is_blocked f then Silent else Failed f)

-- an answer of a write that has to send all: none where it did
abbrev pub lost_of : Result Lost AllocError → Result (Option Lost) AllocError
lost_of (Ok why) = Ok (Some why)
lost_of (Err e) = Err e

abbrev pub sent_fault : Option SocketFault → Result (Option Lost) AllocError
sent_fault None = Ok None
sent_fault (Some f) = lost_of (unsent_by f)

abbrev pub sent_by : Result Unit Error → Result (Option Lost) AllocError
sent_by answer = sent_fault (fault_in answer)

-- the frame of that step went out, and nothing waits; or a failure of it is why not
abbrev pub Pushes : {S : Type 0} → (S → Option (List ℕ)) → Result Effect FrameError → Socket S → Option Lost
    → Socket S → Type 0
Pushes contents step old None new = Writes contents old new step × (new.output ≡ [])
Pushes contents step old (Some why) new = (e : Error) × WriteFails step e × (unsent_by (fault_of e) ≡ Ok why)

-- ---- what is heard

-- the bytes that a counted stream is known to give
abbrev pub known_input : {S : Type 0} → (S → Option (List ℕ)) → CountedStream S → Option (List ℕ)
known_input remaining c = remaining c.stream

-- at one tick the other side is asked whether it is there
abbrev pub AsksIf : {S : Type 0} → (S → Option (List ℕ)) → Bool → Socket S → Option Lost → Socket S → Type 0
AsksIf contents true old lost new = Pushes contents (write_step old.conn (ping [])) old lost new
AsksIf contents false old lost new = (lost ≡ None) × (new ≡ old)

-- that tick passed, and nothing came
pub record Ticks {S : Type 0} (remaining contents : S → Option (List ℕ)) (tick : ℕ) (old : Socket S)
    (lost : Option Lost) (new : Socket S) : Type 0 where
  pub mid : Socket S
  pub nothing : Hears remaining contents old (Ok Nothing) mid
  pub asks : AsksIf contents (tick == ASKING_TICK) mid lost new

-- so many ticks passed, one after another
abbrev pub IsSilent : {S : Type 0} → (remaining contents : S → Option (List ℕ)) → ℕ → Socket S → Socket S → Type 0
IsSilent remaining contents zero old new = new ≡ old
IsSilent remaining contents (suc tick) old new =
    (mid : Socket _) × IsSilent remaining contents tick old mid × Ticks remaining contents tick mid None new

-- whether it is anything
abbrev pub is_something : Heard → Bool
is_something (Text words) = true
is_something Binary = true
is_something Sign = true
is_something Nothing = false
is_something (Ended why) = true

-- behind so many ticks that is heard: what a read gave; or the other side can't be asked; or it is given up,
-- behind as many as it has
abbrev pub Comes : {S : Type 0} → (remaining contents : S → Option (List ℕ)) → ℕ → Socket S → Heard → Socket S
    → Type 0
Comes remaining contents ticks old heard new =
    ((ticks < SILENT_TICKS) × (is_something heard ≡ true) × Hears remaining contents old (Ok heard) new)
    ⊎ ((ticks < SILENT_TICKS) × (why : Lost) × (heard ≡ Ended why)
    × Ticks remaining contents ticks old (Some why) new)
    ⊎ ((ticks ≡ SILENT_TICKS) × (heard ≡ Ended Silent) × (new ≡ old))

-- that is heard, once the other side was waited for
pub record Awaits {S : Type 0} (remaining contents : S → Option (List ℕ)) (old : Socket S) (heard : Heard)
    (new : Socket S) : Type 0 where
  pub ticks : ℕ
  pub mid : Socket S
  pub silent : IsSilent remaining contents ticks old mid
  pub comes : Comes remaining contents ticks mid heard new
