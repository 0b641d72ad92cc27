-- How long a guest may be silent.
use Rattle.std.specs.Prelude.{ℕ, ◌-◌, nat_le, if◌then◌else◌, Option, Some, None}
use Rattle.rt_emulate.specs.declared.guest.Due.{Due}
use Rattle.rt_emulate.specs.declared.guest.Due.TheVariants.{End, Ping, Later}
use Rattle.rt_emulate.specs.declared.guest.Silence.{Silence}
use Rattle.rt_emulate.specs.declared.guest.TheConstants.{SILENCE_MS}

-- what is due once that has been so for that long, else how much longer it may be so
abbrev pub after : ℕ → Due → Due
after passed due = if nat_le SILENCE_MS passed then due else Later (SILENCE_MS - passed)

-- a guest that is silent is sent a ping, and one that stays silent is ended
abbrev pub due_since : Option ℕ → ℕ → ℕ → Due
due_since None heard_at now = after (now - heard_at) Ping
due_since (Some pinged_at) heard_at now = after (now - pinged_at) End

abbrev pub due_of : Silence → ℕ → Due
due_of s now = due_since s.pinged_at s.heard_at now
