-- How a connection begins.
use Rattle.std.specs.Prelude.{◌≡◌, ℕ, Bool, true, false, List, Some, Result, Ok, Err}
use Rattle.std.specs.declared.alloc.AllocError.{AllocError}
use Rattle.tungstenite.specs.Heads.{Connected}
use Rattle.tungstenite.specs.Socket.{Socket}
use Rattle.tungstenite.specs.declared.error.Error.{Error}
use Rattle.rt_socket.specs.Hearing.{fault_of}
use Rattle.rt_socket.specs.declared.socket.SocketFault.{SocketFault}
use Rattle.rt_socket.specs.declared.socket.SocketFault.TheVariants.{OutOfMemory}
use Rattle.rt_socket.specs.declared.wire.Lost.TheVariants.{Late, NoHandshake}
use Rattle.rt_connect.specs.declared.link.Lost.{Lost}
use Rattle.rt_connect.specs.declared.link.Lost.TheVariants as lost

-- a client's socket that a handshake gave, of which nothing was read or sent since; a message and a frame
-- have so many bytes at most, and the server's are not masked
pub record IsOpened {S : Type 0} (most : ℕ) (s : Socket S) : Type 0 where
  pub key : List ℕ
  pub connected : Connected key s
  pub message : s.conn.config.max_message_size ≡ Some most
  pub frame : s.conn.config.max_frame_size ≡ Some most
  pub masked : s.conn.config.accept_unmasked_frames ≡ false

-- a handshake that fails: want of memory ends a run
abbrev pub unopened_fault : SocketFault → Result Lost AllocError
unopened_fault OutOfMemory = Err (record {})
unopened_fault f = Ok (lost.Socket (NoHandshake f))

abbrev pub unopened : Error → Result Lost AllocError
unopened e = unopened_fault (fault_of e)

-- whether it is how a connection ends, and not why none came about
abbrev pub is_end : Lost → Bool
is_end (lost.Socket (NoHandshake f)) = false
is_end (lost.Socket Late) = false
is_end why = true
