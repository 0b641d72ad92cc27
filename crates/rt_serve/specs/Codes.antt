-- The code that a client is told (RFC 6455, section 7.4.1).
use Rattle.std.specs.Prelude.{ℕ, Bool, true, false, Option, Some, None, if◌then◌else◌}
use Rattle.std.specs.IoError.{error_kind}
use Rattle.std.specs.declared.io.Error.{Error as IoError}
use Rattle.std.specs.declared.io.ErrorKind.{ErrorKind}
use Rattle.std.specs.declared.io.ErrorKind.TheVariants.{QuotaExceeded}
use Rattle.websocket.specs.declared.error.ProtocolError.{ProtocolError}
use Rattle.websocket.specs.declared.error.ProtocolError.TheVariants.{ResetWithoutClosingHandshake}
use Rattle.rt_socket.specs.declared.socket.SocketFault.{SocketFault}
use Rattle.rt_socket.specs.declared.socket.SocketFault.TheVariants as fault

abbrev pub is_quota : ErrorKind → Bool
is_quota QuotaExceeded = true
is_quota kind = false

-- a stream failed: more bytes came than are read for a message, or it is the stream's own failure
abbrev pub stream_code : IoError → Option ℕ
stream_code why = if is_quota (error_kind why) then Some 1009 else None

-- a breach of the protocol; a reset is none
abbrev pub protocol_code : ProtocolError → Option ℕ
protocol_code ResetWithoutClosingHandshake = None
protocol_code e = Some 1002

-- a failure of the socket, where the client is told why
abbrev pub fault_code : SocketFault → Option ℕ
fault_code (fault.Io why) = stream_code why
fault_code (fault.Protocol e) = protocol_code e
fault_code fault.Utf8 = Some 1007
fault_code (fault.Capacity e) = Some 1009
fault_code f = None
