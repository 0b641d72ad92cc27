-- The requests of a connection, as their bytes come.
use Rattle.std.specs.Prelude.{◌≡◌, ◌⊎◌, ◌<◌, ℕ, List, [], ◌∷◌, ◌++◌, Bool, true, false, ◌&&◌, not, nat_le, if◌then◌else◌}
use Rattle.std.specs.Prelude.{Option, Some, None, take, drop, length, ⊤}
use Rattle.std.specs.Option.{is_none}
use Rattle.httparse.specs.Grammar.{HasNoRequest}
use Rattle.rt_http.specs.Chunks.{AreRead}
use Rattle.rt_http.specs.Heads.{Said}
use Rattle.rt_http.specs.Readings.{IsHead, IsRefusedHead}
use Rattle.rt_http.specs.declared.request.RequestProgress.{RequestProgress}
use Rattle.rt_http.specs.declared.request.RequestProgress.TheVariants as turn
use Rattle.rt_http.specs.declared.fault.TheConstants.{MAX_HEAD_BYTES}
use Rattle.rt_http.specs.declared.head.Framing.{Framing}
use Rattle.rt_http.specs.declared.head.Framing.TheVariants.{Length, Chunked}
use Rattle.rt_http.specs.declared.head.Marks.{Marks}
use Rattle.rt_http.specs.declared.fault.Refusal.{Refusal}
use Rattle.rt_http.specs.declared.fault.Refusal.TheVariants.{NoMemory}

-- how long a body may be, the bytes that came and are not used, the request whose head came, as much of its
-- body as was read, whether that is all, and whether it was told to go on
pub record Incoming : Type 0 where
  pub most : ℕ
  pub bytes : List ℕ
  pub request : Option Said
  pub body : List ℕ
  pub is_whole : Bool
  pub was_told : Bool

-- nothing has come
abbrev pub new_incoming : ℕ → Incoming
new_incoming most = record {
  most = most;
  bytes = [];
  request = None;
  body = [];
  is_whole = false;
  was_told = false;
}

-- more bytes have come
abbrev pub with_bytes : Incoming → List ℕ → Incoming
with_bytes a more = record a { bytes = a.bytes ++ more }

-- whether nothing has come but whole requests
abbrev pub is_none_of : List ℕ → Bool
is_none_of [] = true
is_none_of (byte ∷ bytes) = false

abbrev pub is_between : Incoming → Bool
is_between a = is_none a.request && is_none_of a.bytes

-- the request was answered, and the next one is read of what is left
abbrev pub answered : Incoming → Incoming
answered a = record a { request = None; body = []; is_whole = false; was_told = false }

-- ---- the head

-- the bytes in which a head has to end
abbrev pub front : Incoming → List ℕ
front a = take MAX_HEAD_BYTES a.bytes

-- the head is not whole
abbrev pub IsOpen : Incoming → Type 0
IsOpen a = HasNoRequest (front a) × (length a.bytes < MAX_HEAD_BYTES)

-- the head at the front is one of a handshake: its request is kept, and its bytes stay
abbrev pub IsHandshake : Incoming → Incoming → Type 0
IsHandshake a b =
    (said : Said) × (size : ℕ) × IsHead a.most (front a) size said × (said.marks.is_upgrade ≡ true)
    × (b ≡ record a { request = Some said })

-- the head at the front, which is none of a handshake, has been taken
abbrev pub IsHeadTaken : Incoming → Marks → Incoming → Type 0
IsHeadTaken a marks b =
    (said : Said) × (size : ℕ) × IsHead a.most (front a) size said × (said.marks.is_upgrade ≡ false)
    × (marks ≡ said.marks) × (b ≡ record a { bytes = drop size a.bytes; request = Some said })

-- the head is refused
abbrev pub IsRefusedAt : Incoming → Refusal → Type 0
IsRefusedAt a e = (e ≡ NoMemory) ⊎ IsRefusedHead a.most (front a) e

-- ---- the body

-- a body of so many bytes is taken once they are there
abbrev pub with_length : ℕ → Incoming → Incoming
with_length size a =
    if nat_le size (length a.bytes)
    then record a { bytes = drop size a.bytes; body = take size a.bytes; is_whole = true } else a

-- what came of a body was taken
abbrev pub IsTaken : Framing → Incoming → Incoming → Type 0
IsTaken (Length size) a b = b ≡ with_length size a
IsTaken Chunked a b =
    (size : ℕ) × AreRead a.bytes a.body size b.is_whole b.body
    × (b ≡ record a { bytes = drop size a.bytes; body = b.body; is_whole = b.is_whole })

-- ---- turns

-- what is to be done, where the request waits to go on or not
abbrev pub turn_of : Bool → Incoming → RequestProgress
turn_of waits a =
    if a.is_whole then turn.Whole else (if waits && not a.was_told then turn.GoOn else turn.More)

-- it is told once
abbrev pub told_if : Bool → Incoming → Incoming
told_if waits a =
    if a.is_whole then a else (if waits && not a.was_told then record a { was_told = true } else a)

-- a turn with a request whose head came
abbrev pub IsGone : Marks → Incoming → RequestProgress → Incoming → Type 0
IsGone marks a t b =
    (m : Incoming) × IsTaken marks.framing a m × (t ≡ turn_of marks.does_wait m)
    × (b ≡ told_if marks.does_wait m)

-- a turn with the next request
abbrev pub IsFirst : Incoming → RequestProgress → Incoming → Type 0
IsFirst a t b =
    ((t ≡ turn.More) × IsOpen a × (b ≡ a))
    ⊎ ((t ≡ turn.Upgrade) × IsHandshake a b)
    ⊎ ((marks : Marks) × (m : Incoming) × IsHeadTaken a marks m × IsGone marks m t b)

-- a turn of a request, if there is one
abbrev pub IsTurnOf : Option Said → Incoming → RequestProgress → Incoming → Type 0
IsTurnOf None a t b = IsFirst a t b
IsTurnOf (Some said) a t b = IsGone said.marks a t b

-- a turn
abbrev pub IsTurnIf : Bool → Incoming → RequestProgress → Incoming → Type 0
IsTurnIf true a t b = (t ≡ turn.Whole) × (b ≡ a)
IsTurnIf false a t b = IsTurnOf a.request a t b

abbrev pub IsTurn : Incoming → RequestProgress → Incoming → Type 0
IsTurn a t b = IsTurnIf a.is_whole a t b

-- ---- refusals

-- the body is refused: for want of memory alone, where it doesn't come in chunks
abbrev pub IsRefusedBody : Framing → Refusal → Type 0
IsRefusedBody (Length size) e = e ≡ NoMemory
IsRefusedBody Chunked e = ⊤

-- the next request is refused: its head, or its body behind a head that is taken
abbrev pub IsRefusedFirst : Incoming → Refusal → Type 0
IsRefusedFirst a e =
    IsRefusedAt a e ⊎ ((marks : Marks) × (m : Incoming) × IsHeadTaken a marks m × IsRefusedBody marks.framing e)

abbrev pub IsRefusedTurnOf : Option Said → Incoming → Refusal → Type 0
IsRefusedTurnOf None a e = IsRefusedFirst a e
IsRefusedTurnOf (Some said) a e = IsRefusedBody said.marks.framing e

-- a whole request is never refused
abbrev pub IsRefusedTurnIf : Bool → Incoming → Refusal → Type 0
IsRefusedTurnIf true a e = ⊥
IsRefusedTurnIf false a e = IsRefusedTurnOf a.request a e

-- what comes is refused
abbrev pub IsRefusedTurn : Incoming → Refusal → Type 0
IsRefusedTurn a e = IsRefusedTurnIf a.is_whole a e
