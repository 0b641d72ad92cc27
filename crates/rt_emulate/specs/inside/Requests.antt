-- One that asks by plain HTTP: what it is waited for, why it goes, and what is next of it.
use Rattle.std.specs.Prelude.{◌≡◌, ◌++◌, ℕ, ◌+◌, ◌-◌, ◌^◌, min, ◌&&◌, ◌||◌, not, nat_lt, length, if◌then◌else◌}
use Rattle.std.specs.Prelude.{Bool, true, false, Option, Some, None, Result, Ok, Err, codes}
use Rattle.std.specs.Option.{is_none, is_some, option_map_or}
use Rattle.rt_http.specs.Answers.{answer_bytes}
use Rattle.rt_http.specs.Handshakes.{IsHandshakeLen}
use Rattle.rt_http.specs.Incomings.{Incoming, is_between, is_none_of}
use Rattle.rt_http.specs.Messages.{object_with}
use Rattle.rt_http.specs.Refusals.{refusal_words}
use Rattle.rt_http.specs.Statuses.{status_of}
use Rattle.rt_http.specs.declared.fault.Refusal.{Refusal}
use Rattle.rt_emulate.specs.declared.requests.Asking.{Asking}
use Rattle.rt_emulate.specs.declared.requests.Next.{Next as Step}
use Rattle.rt_emulate.specs.declared.requests.Next.TheVariants as step
use Rattle.rt_emulate.specs.declared.requests.TheConstants.{DROPPED_BYTES}
use Rattle.rt_emulate.specs.declared.socket.Broken.{Broken}
use Rattle.rt_emulate.specs.declared.ending.GuestEnd.{GuestEnd}
use Rattle.rt_emulate.specs.declared.ending.GuestEnd.TheVariants.{Answered, Failed, Stopped}
use Rattle.rt_emulate.specs.declared.requests.Awaited.{Awaited}
use Rattle.rt_emulate.specs.declared.requests.Awaited.TheVariants.{Request, Taking, Next, Leaving}
use Rattle.rt_emulate.specs.inside.Endings.{is_interrupted, stream_ending, would_block}
use Rattle.rt_emulate.specs.inside.Paces.{late_of, left_of}

-- what it is waited for: that an answer or the rest of a file is taken, that it goes, its next request, or its
-- first one or the rest of one
abbrev pub awaited_of : Asking → Awaited
awaited_of a =
    if nat_lt a.written (length a.out.items) || is_some a.rest then Taking
    else (if is_some a.left then Leaving
    else (if a.has_asked && is_between a.incoming then Next else Request))

-- when its alarm rings next, or why it goes
abbrev pub rung : Asking → ℕ → Result ℕ GuestEnd
rung a now =
    option_map_or (λ left. Ok (min (now + left) (2 ^ 64 - 1))) (left_of (awaited_of a) (now - a.since))
    (Err (late_of (awaited_of a) a.has_asked))

-- why it goes where all are ended: one that was answered goes in silence
abbrev pub stopped_of : Asking → GuestEnd
stopped_of a = if a.has_asked then Answered else Stopped

-- ---- what is next

-- a part of a head has come, and no more
abbrev pub is_in_head : Incoming → Bool
is_in_head a = is_none a.request && not (is_none_of a.bytes)

-- its stream gives or takes nothing now, for that reason
abbrev pub stuck_of : Broken → Step
stuck_of why = if would_block why then step.Idle else if is_interrupted why then step.Again else step.Ends (Failed why)

-- the same of a read
abbrev pub unheard_of : Bool → Broken → Step
unheard_of has_asked why =
    if would_block why then step.Idle
    else if is_interrupted why then step.Again
    else step.Ends (stream_ending has_asked why)

-- it is answered, and goes on or not
abbrev pub answered : Bool → Asking → Asking
answered is_kept a =
    record a { has_asked = true; has_moved = true; left = if is_kept then a.left else Some DROPPED_BYTES }

-- its turn is over
abbrev pub settled : ℕ → Asking → Asking
settled now a = if a.has_moved then record a { since = now; has_moved = false } else a

-- what it sent is refused, and it is answered for the last time
abbrev pub IsRefused : Refusal → Asking → Asking → Type 0
IsRefused why old new =
    (new.out.items ≡ old.out.items
    ++ answer_bytes (status_of why) false false None (object_with (codes "error") (refusal_words why)))
    × (new ≡ record (answered false old) { out = new.out })

-- what came of the look for a handshake in its head
abbrev pub Upgrades : Result ℕ Refusal → Asking → Step → Asking → Type 0
Upgrades (Ok size) old next new = (next ≡ step.Upgrade size) × (new ≡ old)
Upgrades (Err why) old next new = (next ≡ step.Again) × IsRefused why old new

abbrev pub IsUpgrade : Asking → Step → Asking → Type 0
IsUpgrade old next new =
    (found : Result ℕ Refusal) × IsHandshakeLen old.incoming.bytes found × Upgrades found old next new
