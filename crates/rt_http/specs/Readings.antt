-- The head of a request at the front of some bytes, by the grammar of HTTP/1.1.
use Rattle.std.specs.Prelude.{◌≡◌, ◌⊎◌, ℕ, List, drop, length, map, Option, Result, Ok, Err, MatchResult, IsSomeAnd}
use Rattle.httparse.specs.Grammar.{RequestHead, ReadsRequest, HasNoRequest, NeverHasRequest, print_request}
use Rattle.httparse.specs.Spans.{RequestOverflows, name_and_value}
use Rattle.httparse.specs.declared.Error.{Error}
use Rattle.httparse.specs.declared.Error.TheVariants as error
use Rattle.rt_http.specs.Heads.{Said, said_of}
use Rattle.rt_http.specs.declared.fault.TheConstants.{MAX_FIELDS, MAX_HEAD_BYTES}
use Rattle.rt_http.specs.declared.head.Head.{Head}
use Rattle.rt_http.specs.declared.fault.Refusal.{Refusal}
use Rattle.rt_http.specs.declared.fault.Refusal.TheVariants.{Malformed, NoHandshake, OtherVersion, TooLong, Expectation}
use Rattle.rt_http.specs.declared.fault.Refusal.TheVariants.{HeadTooLong, Coding, Version, NoMemory}

-- what a head of the grammar says
abbrev pub head_says : ℕ → RequestHead → Result Said Refusal
head_says most h = said_of most h.method h.target h.minor (map name_and_value h.fields)

-- the first so many of the bytes are a head that says this
abbrev pub IsHead : ℕ → List ℕ → ℕ → Said → Type 0
IsHead most bytes size said =
    (h : RequestHead) × ReadsRequest bytes h (drop size bytes) × (size ≡ length (print_request h))
    × (head_says most h ≡ Ok said)

-- what is refused whatever follows: no head can come of the bytes, or none that is short enough
abbrev pub IsHopeless : Refusal → List ℕ → Type 0
IsHopeless Malformed bytes = NeverHasRequest bytes
IsHopeless Version bytes = NeverHasRequest bytes
IsHopeless HeadTooLong bytes =
    RequestOverflows MAX_FIELDS bytes ⊎ (HasNoRequest bytes × (length bytes ≡ MAX_HEAD_BYTES))
IsHopeless NoHandshake bytes = ⊥
IsHopeless OtherVersion bytes = ⊥
IsHopeless TooLong bytes = ⊥
IsHopeless Expectation bytes = ⊥
IsHopeless Coding bytes = ⊥
IsHopeless NoMemory bytes = ⊥

-- a head that is refused for what it says, or no head
abbrev pub IsRefusedHead : ℕ → List ℕ → Refusal → Type 0
IsRefusedHead most bytes e =
    ((h : RequestHead) × (rest : List ℕ) × ReadsRequest bytes h rest × (head_says most h ≡ Err e))
    ⊎ IsHopeless e bytes

-- the answer is what the head says, but for want of memory
abbrev pub IsSaid : Result Said Refusal → Result (Option Head) Refusal → Type 0
IsSaid (Ok said) result =
    MatchResult result (λ found. IsSomeAnd found (λ head. head.request ≡ said)) (λ e. e ≡ NoMemory)
IsSaid (Err e) result = result ≡ Err e

-- how bytes are refused that the parser refuses so
abbrev pub refusal_of : Error → Refusal
refusal_of error.TooManyHeaders = HeadTooLong
refusal_of error.Version = Version
refusal_of error.HeaderName = Malformed
refusal_of error.HeaderValue = Malformed
refusal_of error.NewLine = Malformed
refusal_of error.Status = Malformed
refusal_of error.Token = Malformed
