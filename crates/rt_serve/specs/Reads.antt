-- What a read of the socket says: a text, a message that is none, or why the connection ends.
use Rattle.std.specs.Prelude.{ℕ, Bool, List, [], Option, Some, None, Result, Ok, Err}
use Rattle.std.specs.Prelude.{if◌then◌else◌, ◌||◌, ◌==◌, not}
use Rattle.websocket.specs.CloseCode.{close_code_number}
use Rattle.websocket.specs.Connection.{can_read}
use Rattle.tungstenite.specs.Socket.{Socket}
use Rattle.tungstenite.specs.declared.error.Error.{Error}
use Rattle.tungstenite.specs.declared.message.CloseFrame.{CloseFrame}
use Rattle.tungstenite.specs.declared.message.Message.{Message}
use Rattle.tungstenite.specs.declared.message.Message.TheVariants as Kind
use Rattle.rt_input.specs.Counted.{CountedStream}
use Rattle.rt_wire.specs.Client.{client_message}
use Rattle.rt_wire.specs.Crowds.{is_crowded}
use Rattle.rt_peer.specs.Runs.{Call}
use Rattle.rt_socket.specs.Hearing.{fault_of, is_blocked}
use Rattle.rt_socket.specs.declared.socket.SocketFault.{SocketFault}
use Rattle.rt_socket.specs.declared.socket.SocketFault.TheVariants.{OutOfMemory}
use Rattle.rt_serve.specs.Codes.{fault_code}
use Rattle.rt_serve.specs.declared.serve.ServeError.{ServeError}
use Rattle.rt_serve.specs.declared.serve.ServeError.TheVariants.{NoMemory}
use Rattle.rt_serve.specs.declared.socket.ServeEnd.{ServeEnd}
use Rattle.rt_serve.specs.declared.socket.ServeEnd.TheVariants.{Closed, Failed, TooMany, Crowded}
use Rattle.rt_serve.specs.declared.socket.SocketRead.{SocketRead}
use Rattle.rt_serve.specs.declared.socket.SocketRead.TheVariants.{Text, Binary, Nothing, Ended}
use Rattle.rt_serve.specs.Sessions.{call_of}

-- ---- what is heard

-- the code of a close, where it has one
abbrev pub code_in : Option CloseFrame → Option ℕ
code_in None = None
code_in (Some frame) = Some (close_code_number frame.code)

abbrev pub heard_message : Message → SocketRead
heard_message (Kind.Text words) = Text words
heard_message (Kind.Binary bytes) = Binary
heard_message (Kind.Ping bytes) = Nothing
heard_message (Kind.Pong bytes) = Nothing
heard_message (Kind.Close frame) = Ended (Closed (code_in frame))

-- want of memory ends serving; nothing is there where a read was given up; each other fault is the end
abbrev pub heard_fault : SocketFault → Result SocketRead ServeError
heard_fault OutOfMemory = Err NoMemory
heard_fault f = Ok (if is_blocked f then Nothing else Ended (Failed f))

-- what a read says: its message, or its error
abbrev pub heard_of : Result Message Error → Result SocketRead ServeError
heard_of (Ok message) = Ok (heard_message message)
heard_of (Err e) = heard_fault (fault_of e)

-- ---- why a connection ends

-- why it has ended by itself, where it has
abbrev pub end_of : SocketRead → Option ServeEnd
end_of (Text words) = None
end_of Binary = None
end_of Nothing = None
end_of (Ended end) = Some end

-- why it ends, where it does: by itself, or with a text that has more commas and brackets than a
-- message may have
abbrev pub ended_by : SocketRead → Option ServeEnd
ended_by (Text words) = if is_crowded words then Some Crowded else None
ended_by Binary = None
ended_by Nothing = None
ended_by (Ended end) = Some end

-- the code that the client is told, where it is told why (RFC 6455, section 7.4.1)
abbrev pub close_code_of : ServeEnd → Option ℕ
close_code_of (Closed code) = None
close_code_of (Failed why) = fault_code why
close_code_of TooMany = Some 1008
close_code_of Crowded = Some 1009

-- nothing more can be read of the socket
abbrev pub is_over : {S : Type 0} → Socket (CountedStream S) → Bool
is_over s = not (can_read s.conn.state) || (s.stream.has_ended || s.stream.left == 0)

-- ---- what is heard of the peer

-- what it is to the peer
abbrev pub calls_of : ℕ → SocketRead → List Call
calls_of n (Text words) = if is_crowded words then [] else call_of n (client_message words)
calls_of n Binary = []
calls_of n Nothing = []
calls_of n (Ended end) = []
