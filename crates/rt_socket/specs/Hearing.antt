-- What a read, a write and a flush of a WebSocket say, of a stream that doesn't wait.
use Rattle.std.specs.Prelude.{if◌then◌else◌, ◌==◌, ℕ, List, [], codes, Bool, true, false, Option, Some, None, Result, Ok, Err}
use Rattle.std.specs.IoError.{error_kind}
use Rattle.std.specs.declared.io.ErrorKind.{ErrorKind}
use Rattle.std.specs.declared.io.ErrorKind.TheVariants.{WouldBlock}
use Rattle.std.specs.declared.alloc.AllocError.{AllocError}
use Rattle.http.specs.Response.{head_of}
use Rattle.tungstenite.specs.declared.error.Error.{Error}
use Rattle.tungstenite.specs.declared.error.Error.TheVariants as error
use Rattle.tungstenite.specs.declared.message.CloseFrame.{CloseFrame}
use Rattle.tungstenite.specs.declared.message.Message.{Message}
use Rattle.tungstenite.specs.declared.message.Message.TheVariants as message
use Rattle.rt_socket.specs.declared.socket.SocketFault.{SocketFault}
use Rattle.rt_socket.specs.declared.socket.SocketFault.TheVariants as fault
use Rattle.rt_socket.specs.declared.wire.Lost.{Lost}
use Rattle.rt_socket.specs.declared.wire.Lost.TheVariants.{Closed, ClosedWith, Failed, NoHandshake, Unreachable}
use Rattle.rt_socket.specs.declared.wire.Flushed.{Flushed}
use Rattle.rt_socket.specs.declared.wire.Flushed.TheVariants as flush
use Rattle.rt_socket.specs.declared.wire.Heard.{Heard}
use Rattle.rt_socket.specs.declared.wire.Heard.TheVariants.{Text, Binary, Sign, Nothing, Ended}

-- an error as a small value: of a response its status is kept
abbrev pub fault_of : Error → SocketFault
fault_of error.ConnectionClosed = fault.ConnectionClosed
fault_of error.AlreadyClosed = fault.AlreadyClosed
fault_of (error.Io why) = fault.Io why
fault_of (error.Capacity why) = fault.Capacity why
fault_of (error.Protocol why) = fault.Protocol why
fault_of error.WriteBufferFull = fault.WriteBufferFull
fault_of error.Utf8 = fault.Utf8
fault_of error.AttackAttempt = fault.AttackAttempt
fault_of (error.Handshake why) = fault.Handshake why
fault_of error.HandshakeIncomplete = fault.HandshakeIncomplete
fault_of error.JunkAfterRequest = fault.JunkAfterRequest
fault_of error.CustomResponseSuccessful = fault.CustomResponseSuccessful
fault_of error.Url = fault.Url
fault_of (error.Http response) = fault.Status ((head_of response).status)
fault_of (error.Refused response) = fault.Status ((head_of response).status)
fault_of error.OutOfMemory = fault.OutOfMemory

-- whether a fault says that the stream would have to wait
abbrev pub is_waiting : ErrorKind → Bool
is_waiting WouldBlock = true
is_waiting kind = false

abbrev pub is_blocked : SocketFault → Bool
is_blocked (fault.Io why) = is_waiting (error_kind why)
is_blocked f = false

-- what else a close may have been that is read with a code: a code that none may send is read as 1002
abbrev pub or_unknown : ℕ → List ℕ
or_unknown code = if code == 1002 then codes " or an unknown one" else []

-- how a connection ends that the other side closes
abbrev pub closed_by : Option CloseFrame → Lost
closed_by None = Closed
closed_by (Some frame) = ClosedWith frame

-- a text and a binary message are given, and so is a ping or a pong; a close is the end
abbrev pub heard_of : Message → Heard
heard_of (message.Text words) = Text words
heard_of (message.Binary bytes) = Binary
heard_of (message.Ping bytes) = Sign
heard_of (message.Pong bytes) = Sign
heard_of (message.Close frame) = Ended (closed_by frame)

-- want of memory ends a run; nothing is there where the stream would wait; each other fault is the end
abbrev pub heard_fault : SocketFault → Result Heard AllocError
heard_fault fault.OutOfMemory = Err (record {})
heard_fault f = Ok (if is_blocked f then Nothing else Ended (Failed f))

-- what a read says: its message, or its error
abbrev pub heard_from : Result Message Error → Result Heard AllocError
heard_from (Ok message) = Ok (heard_of message)
heard_from (Err e) = heard_fault (fault_of e)

-- why a write or a flush failed, if it did
abbrev pub fault_in : Result Unit Error → Option SocketFault
fault_in (Ok done) = None
fault_in (Err e) = Some (fault_of e)

-- what a flush says: all is on its way, the stream would have to wait, or it has failed
abbrev pub flushed_fault : Option SocketFault → Flushed
flushed_fault None = flush.Done
flushed_fault (Some f) = if is_blocked f then flush.Blocked else flush.Failed (Failed f)

abbrev pub flushed_by : Result Unit Error → Flushed
flushed_by answer = flushed_fault (fault_in answer)

-- what a write says that sends nothing: it was taken, or why it was not
abbrev pub taken_fault : Option SocketFault → Result (Option Lost) AllocError
taken_fault None = Ok None
taken_fault (Some fault.OutOfMemory) = Err (record {})
taken_fault (Some f) = Ok (Some (Failed f))

abbrev pub taken_by : Result Unit Error → Result (Option Lost) AllocError
taken_by answer = taken_fault (fault_in answer)

-- a handshake that fails: want of memory, a stream that failed, or another fault of the other side
abbrev pub unopened_fault : SocketFault → Result Lost AllocError
unopened_fault fault.OutOfMemory = Err (record {})
unopened_fault (fault.Io why) = Ok (Unreachable why)
unopened_fault f = Ok (NoHandshake f)

abbrev pub unopened : Error → Result Lost AllocError
unopened e = unopened_fault (fault_of e)
