-- Push ids: what each is made of, and which calls are refused.
use Rattle.std.specs.Prelude.{ℕ, ◌+◌, ◌^◌, not, nat_lt, if◌then◌else◌, List, ◌++◌, Option, Some, None}
use Rattle.std.specs.List.{list_all}
use Rattle.rt_push.specs.Digits.{is_digit, number, text}
use Rattle.rt_push.specs.declared.error.PushError.{PushError}
use Rattle.rt_push.specs.declared.error.PushError.TheVariants.{Exhausted, MomentTooLarge}
use Rattle.rt_push.specs.declared.error.PushError.TheVariants.{RandomOutOfRange}

-- a moment, in milliseconds, and a random part
abbrev pub Stamp : Type 0
Stamp = ℕ × ℕ

-- the id of a stamp: 8 digits of the moment, 12 of the random part
abbrev pub push_id : Stamp → List ℕ
push_id stamp = text 8 stamp.0 ++ text 12 stamp.1

-- what an id is made of: in the moment last used, or before it, the last random part is counted up
-- by one
abbrev pub used : Option Stamp → ℕ → ℕ → Stamp
used None now random = (now, random)
used (Some last) now random = if nat_lt last.0 now then (now, random) else (last.0, last.1 + 1)

-- why a call is refused
abbrev pub push_fault : Option Stamp → ℕ → List ℕ → Option PushError
push_fault last now random =
    if not (nat_lt now (2 ^ 48)) then Some MomentTooLarge
    else if not (list_all is_digit random) then Some RandomOutOfRange
    else if not (nat_lt (used last now (number random)).1 (64 ^ 12)) then Some Exhausted
    else None
