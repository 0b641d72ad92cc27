-- Which heads are handshakes of a WebSocket (RFC 6455, section 4.2.1).
use Rattle.std.specs.Prelude.{◌≡◌, ◌⊎◌, ℕ, List, take, length, Result, Ok, Err}
use Rattle.httparse.specs.Grammar.{HasNoRequest}
use Rattle.httparse.specs.Spans.{IsRequestOf, IsRequestWithin, RequestOverflows, span_bytes}
use Rattle.httparse.specs.declared.spans.HeaderSpan.{HeaderSpan}
use Rattle.httparse.specs.declared.spans.RequestSpans.{RequestSpans}
use Rattle.websocket.specs.Handshake.{IsValidKey, requested_key}
use Rattle.websocket.specs.Headers.{fields_of}
use Rattle.websocket.specs.declared.handshake.failure.HandshakeError.{HandshakeError}
use Rattle.websocket.specs.declared.handshake.failure.HandshakeError.TheVariants as why
use Rattle.rt_http.specs.declared.fault.TheConstants.{MAX_FIELDS}
use Rattle.rt_http.specs.declared.fault.Refusal.{Refusal}
use Rattle.rt_http.specs.declared.fault.Refusal.TheVariants.{Malformed, NoHandshake, OtherVersion, NoMemory}

-- how a head is refused that is no handshake, for that reason
abbrev pub refused_for : HandshakeError → Refusal
refused_for why.WrongHttpMethod = NoHandshake
refused_for why.WrongHttpVersion = NoHandshake
refused_for why.MissingConnectionUpgradeHeader = NoHandshake
refused_for why.MissingUpgradeWebSocketHeader = NoHandshake
refused_for why.MissingSecWebSocketVersionHeader = OtherVersion
refused_for why.MissingSecWebSocketKey = NoHandshake
refused_for why.InvalidSecWebSocketKey = NoHandshake
refused_for why.SecWebSocketAcceptKeyMismatch = NoHandshake
refused_for (why.SecWebSocketSubProtocolError error) = NoHandshake
refused_for why.UnexpectedExtension = NoHandshake
refused_for (why.Http code) = NoHandshake
refused_for why.InvalidHeader = NoHandshake
refused_for why.OutOfMemory = NoMemory

-- the key of the handshake that a head is, or why it is none
abbrev pub key_asked : List ℕ → List HeaderSpan → RequestSpans → Result (List ℕ) HandshakeError
key_asked bytes spans found =
    requested_key (span_bytes bytes found.method) found.version (fields_of bytes (take found.headers spans))

-- a head of that length is taken for a handshake where it has a valid key
abbrev pub IsJudged : Result (List ℕ) HandshakeError → ℕ → Result ℕ Refusal → Type 0
IsJudged (Ok key) size (Ok length) = IsValidKey key × (length ≡ size)
IsJudged (Ok key) size (Err e) = ¬ (IsValidKey key) × (e ≡ NoHandshake)
IsJudged (Err why) size result = result ≡ Err (refused_for why)

-- no head is at the front of the bytes, and none with as few fields can come
abbrev pub HasNoHead : List ℕ → Type 0
HasNoHead bytes = HasNoRequest bytes ⊎ RequestOverflows MAX_FIELDS bytes

-- the head at the front of the bytes is judged, if there is one
abbrev pub IsHandshakeLen : List ℕ → Result ℕ Refusal → Type 0
IsHandshakeLen bytes result =
    ((found : RequestSpans) × (spans : List HeaderSpan) × IsRequestWithin bytes spans found × IsRequestOf bytes spans found
    × IsJudged (key_asked bytes spans found) found.len result)
    ⊎ (HasNoHead bytes × (result ≡ Err Malformed))
