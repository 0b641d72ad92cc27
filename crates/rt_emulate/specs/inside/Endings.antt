-- Why a guest goes, and the code that its client is told then.
use Rattle.std.specs.Prelude.{ℕ, List, [], codes, Bool, true, false, Option, Some, None, Result, Ok, Err, if◌then◌else◌}
use Rattle.std.specs.IoError.{error_kind, raw_os_error}
use Rattle.std.specs.declared.io.ErrorKind.{ErrorKind}
use Rattle.std.specs.declared.io.ErrorKind.TheVariants.{Interrupted, WouldBlock, QuotaExceeded}
use Rattle.websocket.specs.declared.error.ProtocolError.{ProtocolError}
use Rattle.websocket.specs.declared.error.ProtocolError.TheVariants.{ResetWithoutClosingHandshake}
use Rattle.tungstenite.specs.declared.error.Error.{Error}
use Rattle.tungstenite.specs.declared.error.Error.TheVariants as error
use Rattle.rt_emulate.specs.declared.socket.Broken.{Broken}
use Rattle.rt_emulate.specs.declared.socket.Broken.TheVariants.{Stream, Protocol, Utf8, Capacity, Closed, Used}
use Rattle.rt_emulate.specs.declared.socket.Broken.TheVariants.{Full, Unshaken, Crowded, NoMemory}
use Rattle.rt_emulate.specs.declared.ending.GuestEnd.{GuestEnd}
use Rattle.rt_emulate.specs.declared.ending.GuestEnd.TheVariants as ends

-- ---- why a socket failed

-- what an error of a socket says
abbrev pub broken_of : Error → Broken
broken_of (error.Io why) = Stream (error_kind why) (raw_os_error why)
broken_of (error.Protocol why) = Protocol why
broken_of error.Utf8 = Utf8
broken_of (error.Capacity why) = Capacity why
broken_of error.ConnectionClosed = Closed
broken_of error.AlreadyClosed = Used
broken_of error.WriteBufferFull = Full
broken_of error.AttackAttempt = Unshaken
broken_of (error.Handshake why) = Unshaken
broken_of error.HandshakeIncomplete = Unshaken
broken_of error.JunkAfterRequest = Unshaken
broken_of error.CustomResponseSuccessful = Unshaken
broken_of error.Url = Unshaken
broken_of (error.Http response) = Unshaken
broken_of (error.Refused response) = Unshaken
broken_of error.OutOfMemory = NoMemory

-- what came of a call that answers nothing
abbrev pub done_of : Result Unit Error → Result Unit Broken
done_of (Ok done) = Ok done
done_of (Err e) = Err (broken_of e)

-- how its stream failed, if that is why
abbrev pub of_stream : Broken → Option ErrorKind
of_stream (Stream kind number) = Some kind
of_stream b = None

abbrev pub lacks_memory : Broken → Bool
lacks_memory NoMemory = true
lacks_memory b = false

abbrev pub would_block : Broken → Bool
would_block (Stream WouldBlock number) = true
would_block b = false

-- a signal came between
abbrev pub is_interrupted : Broken → Bool
is_interrupted (Stream Interrupted number) = true
is_interrupted b = false

-- as many bytes were read as are read in one turn
abbrev pub is_spent : Broken → Bool
is_spent (Stream QuotaExceeded number) = true
is_spent b = false

-- ---- codes of RFC 6455 (section 7.4.1)

-- a client that has gone without a close is told none
abbrev pub protocol_code : ProtocolError → Option ℕ
protocol_code ResetWithoutClosingHandshake = None
protocol_code why = Some 1002

-- the protocol was broken, a text is no UTF-8, or a message has too many bytes or holds too much
abbrev pub broken_code : Broken → Option ℕ
broken_code (Protocol why) = protocol_code why
broken_code Utf8 = Some 1007
broken_code (Capacity why) = Some 1009
broken_code Crowded = Some 1009
broken_code b = None

-- the server goes, the client has more listens than it may, or more waits for it or for all than may
abbrev pub close_code : GuestEnd → Option ℕ
close_code (ends.Failed why) = broken_code why
close_code ends.Stopped = Some 1001
close_code ends.TooManyListens = Some 1008
close_code ends.Over = Some 1013
close_code ends.Crowding = Some 1013
close_code e = None

-- what the client is told behind the code
abbrev pub close_reason : GuestEnd → List ℕ
close_reason ends.TooManyListens = codes "more than 131072 listens"
close_reason ends.Over = codes "too slow: more waits than may"
close_reason ends.Crowding = codes "too slow: more than 134217728 bytes wait for all clients"
close_reason e = []

-- ---- endings

abbrev pub is_told : GuestEnd → Bool
is_told ends.Refused = true
is_told ends.Answered = true
is_told e = false

-- by the code of the client's close, where it has closed, and by why its socket failed otherwise
abbrev pub ending_of : Option (Option ℕ) → Option Broken → GuestEnd
ending_of (Some code) why = ends.Closed code
ending_of None (Some why) = ends.Failed why
ending_of None None = ends.Failed Closed

-- by whether a connection has more listens than it may, and whether more waits for it than may
abbrev pub too_much : Bool → Bool → Option GuestEnd
too_much true is_over = Some ends.TooManyListens
too_much false true = Some ends.Over
too_much false false = None

-- one whose stream has ended so, that has asked by plain HTTP or hasn't
abbrev pub stream_ending : Bool → Broken → GuestEnd
stream_ending has_asked why = if has_asked then ends.Answered else ends.Failed why
