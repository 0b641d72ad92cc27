-- What a seat is where it is settled, and what one trial of a call makes of it.
use Rattle.std.specs.Prelude.{◌≡◌, ◌≢◌, Option, Some, None}
use Rattle.rt_world.specs.declared.step.Call.{Call}
use Rattle.rt_client.specs.declared.error.ClientError.{ClientError}
use Rattle.rt_client.specs.declared.error.ClientError.TheVariants as client
use Rattle.rt_client.specs.Calls.{Locked, Seated}
use Rattle.rt_client.specs.Settling.{Settles}
use Rattle.rt_client.specs.Waiting.{IsDone, IsUnmade}
use Rattle.rt_link.specs.declared.answers.Tried.{Tried}
use Rattle.rt_link.specs.declared.answers.Tried.TheVariants as tried

-- the seat is settled, of the locked value that the lock gave
pub record IsSettled (had left : Seated) : Type 0 where
  pub old : Locked
  pub new : Locked
  pub settles : Settles old had new left

-- what becomes of a call that was refused: it is tried again where it found no room, and came back
abbrev pub tried_of : ClientError → Option Call → Tried
tried_of client.Failed back = tried.Refused client.Failed
tried_of client.WrongSeat back = tried.Refused client.WrongSeat
tried_of client.MailboxFull None = tried.Refused client.MailboxFull
tried_of client.MailboxFull (Some c) = tried.Full c
tried_of client.TooManySeats back = tried.Refused client.TooManySeats
tried_of (client.Core why) back = tried.Refused (client.Core why)
tried_of client.NoMemory back = tried.Refused client.NoMemory

-- the call is made, or found no room and changed nothing, or is refused for another cause
abbrev pub Tries : Seated → Call → Tried → Seated → Type 0
Tries old c (tried.Made done) new = IsDone old c done new
Tries old c (tried.Full back) new = (back ≡ c) × (new ≡ old)
Tries old c (tried.Refused why) new = IsUnmade old c why new × (why ≢ client.MailboxFull)
