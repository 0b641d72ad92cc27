-- Why a run ends early.
use Rattle.std.specs.Prelude.{◌≡◌, ◌≢◌, ◌+◌, ℕ, List, codes, Option, None, Some, Result, Ok, Err}
use Rattle.rt_input.specs.declared.fault.ConsoleError.TheVariants as console
use Rattle.rt_link.specs.declared.error.LinkFault.{LinkFault}
use Rattle.rt_link.specs.declared.error.LinkFault.TheVariants as link
use Rattle.rt_watch.specs.declared.lines.End.{End}
use Rattle.rt_watch.specs.declared.lines.End.TheVariants as end
use Rattle.rt_watch.specs.declared.effect.WatchFault.{WatchFault}
use Rattle.rt_watch.specs.declared.effect.WatchFault.TheVariants.{NotConnected, System, Ended}

-- the number and the name of a fault
abbrev pub fault_code : WatchFault → ℕ
fault_code (NotConnected address why) = 1
fault_code (System why) = 2
fault_code (Ended why) = 3

abbrev pub fault_name : WatchFault → List ℕ
fault_name (NotConnected address why) = codes "NotConnected"
fault_name (System why) = codes "System"
fault_name (Ended why) = codes "Ended"

-- the fault that one of the link is: a client fails for want of memory alone
abbrev pub of_link : LinkFault → WatchFault
of_link (link.Client why) = Ended console.NoMemory
of_link (link.System why) = System why
of_link link.NoMemory = Ended console.NoMemory

-- what the end of an input makes of a run: it goes on, or ends early
abbrev pub after_input : End → Result Unit WatchFault
after_input end.Read = Ok tt
after_input end.Unread = Err (Ended console.ReadFault)
after_input end.NoMemory = Err (Ended console.NoMemory)

-- and of one that may not have ended
abbrev pub after_end : Option End → Result Unit WatchFault
after_end None = Ok tt
after_end (Some e) = after_input e

-- a write fault is a failure of the writer, and no other fault is
abbrev pub TellsWrite : WatchFault → ℕ → ℕ → Type 0
TellsWrite (NotConnected address why) old new = new ≡ old
TellsWrite (System why) old new = new ≡ old
TellsWrite (Ended console.WriteFault) old new = new ≡ old + 1
TellsWrite (Ended why) old new = new ≡ old

-- the writer has not failed
abbrev pub IsNoWriteFault : WatchFault → Type 0
IsNoWriteFault e = e ≢ Ended console.WriteFault
