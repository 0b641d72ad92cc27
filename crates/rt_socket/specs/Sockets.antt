-- What a WebSocket as a wire is to a contract, and a stream of which only so much is read in one go.
use Rattle.std.specs.Prelude.{◌≡◌, ◌^◌, ◌+◌, ℕ, List, Bool, false, Option, Some, Result, Ok, Err, MatchResult, ⊤}
use Rattle.std.specs.declared.alloc.AllocError.{AllocError}
use Rattle.tungstenite.specs.Socket.{Socket, Reads, Flushed as Flushes}
use Rattle.tungstenite.specs.declared.error.Error.{Error}
use Rattle.tungstenite.specs.declared.message.Message.{Message}
use Rattle.tungstenite.specs.declared.protocol.WebSocketConfig.{WebSocketConfig}
use Rattle.rt_socket.specs.declared.wire.Flushed.{Flushed}
use Rattle.rt_socket.specs.declared.wire.Flushed.TheVariants.{Done, Blocked, Failed}
use Rattle.rt_socket.specs.declared.wire.Heard.{Heard}
use Rattle.rt_socket.specs.declared.wire.Heard.TheVariants.{Text, Binary, Sign, Nothing, Ended}
use Rattle.rt_socket.specs.declared.wire.Said.{Said}
use Rattle.rt_socket.specs.Hearing.{heard_from}

-- a stream, and how many of its bytes may still be read in this go
pub record PacedStream (S : Type 0) : Type 0 where
  pub stream : S
  pub left : ℕ

-- of so many bytes that may be read a read takes those that it gives; the others may still be read
abbrev pub Spends : {E : Type 0} → Result ℕ E → ℕ → ℕ → Type 0
Spends (Ok count) old new = old ≡ count + new
Spends (Err why) old new = new ≡ old

-- a WebSocket, and what kind of thing it gave last
pub record WireSocket (S : Type 0) : Type 0 where
  pub socket : Socket S
  pub said : Said

-- what is asked of one whose messages have at most so many bytes
abbrev pub limits_for : ℕ → WebSocketConfig
limits_for bytes = record {
  read_buffer_size = 16384;
  write_buffer_size = 2 ^ 40;
  max_write_buffer_size = 2 ^ 40;
  max_message_size = Some bytes;
  max_frame_size = Some bytes;
  accept_unmasked_frames = false;
}

-- all of it is on its way, or will be
abbrev pub IsSent : Flushed → Type 0
IsSent Done = ⊤
IsSent Blocked = ⊤
IsSent (Failed why) = ⊥

-- behind an end what waits to be sent is sent, as far as that goes; behind all else nothing is done
abbrev pub GoesBehind : {S : Type 0} → (S → Option (List ℕ)) → Heard → Socket S → Socket S → Type 0
GoesBehind contents (Text words) old new = new ≡ old
GoesBehind contents Binary old new = new ≡ old
GoesBehind contents Sign old new = new ≡ old
GoesBehind contents Nothing old new = new ≡ old
GoesBehind contents (Ended why) old new = Flushes contents old new

-- what is heard of a WebSocket is what one read of it gave: no message is passed over, and none is given
-- twice; where memory lacks nothing more is done
pub record Hears {S : Type 0} (remaining contents : S → Option (List ℕ)) (old : Socket S)
    (heard : Result Heard AllocError) (new : Socket S) : Type 0 where
  pub given : Result Message Error
  pub mid : Socket S
  pub reads : Reads remaining old mid given
  pub says : heard ≡ heard_from given
  pub behind : MatchResult heard (λ h. GoesBehind contents h mid new) (λ _. new ≡ mid)
