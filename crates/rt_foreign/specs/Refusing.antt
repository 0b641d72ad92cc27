-- How a call ends that is made, refused or not read, and the layer that refuses it.
use Rattle.std.specs.Prelude.{ℕ, Option, Some, None}
use Rattle.rt_world.specs.declared.report.Outcome.{Outcome}
use Rattle.rt_world.specs.declared.report.Outcome.TheVariants.{Done, Stale}
use Rattle.rt_client.specs.declared.error.ClientError.{ClientError}
use Rattle.rt_client.specs.declared.error.ClientError.TheVariants as client
use Rattle.rt_lines.specs.declared.error.LineError.{LineError}
use Rattle.rt_lines.specs.declared.error.LineError.TheVariants as read
use Rattle.rt_lines.specs.declared.error.Refusal.{Refusal}
use Rattle.rt_lines.specs.declared.error.Refusal.TheVariants as refusal
use Rattle.rt_foreign.specs.Status as status

-- a step is made, or came too late
abbrev pub status_of_outcome : Outcome → ℕ
status_of_outcome Done = status.done
status_of_outcome Stale = status.stale

-- the client refuses
abbrev pub status_of : ClientError → ℕ
status_of client.Failed = status.failed
status_of client.WrongSeat = status.wrong_seat
status_of client.MailboxFull = status.mailbox_full
status_of client.TooManySeats = status.too_many_seats
status_of (client.Core e) = status.refused
status_of client.NoMemory = status.no_memory

-- the layer that refuses, and why; none where it is the client's own refusal, which the status says
abbrev pub refusal_of : ClientError → Option Refusal
refusal_of client.Failed = None
refusal_of client.WrongSeat = None
refusal_of client.MailboxFull = None
refusal_of client.TooManySeats = None
refusal_of (client.Core e) = Some (refusal.Core e)
refusal_of client.NoMemory = None

-- a text is not read
abbrev pub status_read : LineError → ℕ
status_read read.Bad = status.bad_text
status_read (read.Refused e) = status.refused
status_read read.NoMemory = status.no_memory

-- the layer that refuses it, and why
abbrev pub refusal_read : LineError → Option Refusal
refusal_read read.Bad = None
refusal_read (read.Refused e) = Some e
refusal_read read.NoMemory = None
