-- How long one that asks is waited for.
use Rattle.std.specs.Prelude.{ℕ, ◌-◌, ◌==◌, min, Bool, if◌then◌else◌, Option, Some, None}
use Rattle.rt_emulate.specs.declared.ending.GuestEnd.{GuestEnd}
use Rattle.rt_emulate.specs.declared.ending.GuestEnd.TheVariants.{Answered, Stalled, Unshaken}
use Rattle.rt_emulate.specs.declared.requests.Awaited.{Awaited}
use Rattle.rt_emulate.specs.declared.requests.Awaited.TheVariants.{Request, Taking, Next, Leaving}
use Rattle.rt_emulate.specs.declared.requests.TheConstants.{ANSWER_MS, ASK_MS}

-- for how many milliseconds
abbrev pub most_of : Awaited → ℕ
most_of Request = ASK_MS
most_of Taking = ANSWER_MS
most_of Next = ANSWER_MS
most_of Leaving = ASK_MS

-- for how many more, where it has been waited for so many; none where that is over
abbrev pub left_of : Awaited → ℕ → Option ℕ
left_of a waited =
    if most_of a - waited == 0 then None else Some (min (most_of a - waited) ASK_MS)

-- why one goes that was waited for too long
abbrev pub late_of : Awaited → Bool → GuestEnd
late_of Request has_asked = if has_asked then Stalled else Unshaken
late_of Taking has_asked = Stalled
late_of Next has_asked = Answered
late_of Leaving has_asked = Answered
