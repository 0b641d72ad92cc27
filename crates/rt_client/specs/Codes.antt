-- The number and the word of each refusal of a client, and which refusals of others it passes on.
use Rattle.std.specs.Prelude.{ℕ, List, codes}
use Rattle.rt_world.specs.declared.error.CoreError.{CoreError}
use Rattle.rt_world.specs.declared.error.CoreError.TheVariants as core
use Rattle.rt_mail.specs.declared.error.MailError.{MailError}
use Rattle.rt_mail.specs.declared.error.MailError.TheVariants as mail
use Rattle.rt_client.specs.declared.error.ClientError.{ClientError}
use Rattle.rt_client.specs.declared.error.ClientError.TheVariants.{Failed, WrongSeat, MailboxFull}
use Rattle.rt_client.specs.declared.error.ClientError.TheVariants.{TooManySeats, Core, NoMemory}

-- the number of a refusal
abbrev pub code_of : ClientError → ℕ
code_of Failed = 1
code_of WrongSeat = 2
code_of MailboxFull = 3
code_of TooManySeats = 4
code_of (Core e) = 5
code_of NoMemory = 6

-- the word of a refusal
abbrev pub name_of : ClientError → List ℕ
name_of Failed = codes "Failed"
name_of WrongSeat = codes "WrongSeat"
name_of MailboxFull = codes "MailboxFull"
name_of TooManySeats = codes "TooManySeats"
name_of (Core e) = codes "Core"
name_of NoMemory = codes "NoMemory"

-- a core that has failed is a client that has, and want of memory is the client's own
abbrev pub of_core : CoreError → ClientError
of_core core.Failed = Failed
of_core core.UnknownListener = Core core.UnknownListener
of_core core.TooManyListeners = Core core.TooManyListeners
of_core core.TooManyRequests = Core core.TooManyRequests
of_core core.Overlap = Core core.Overlap
of_core core.EmptyUpdate = Core core.EmptyUpdate
of_core core.TooDeep = Core core.TooDeep
of_core core.BadPush = Core core.BadPush
of_core core.AlreadyConnected = Core core.AlreadyConnected
of_core core.NotConnected = Core core.NotConnected
of_core core.NoMemory = NoMemory

-- so it is of a lane
abbrev pub of_mail : MailError → ClientError
of_mail mail.Failed = Failed
of_mail mail.NoMemory = NoMemory
