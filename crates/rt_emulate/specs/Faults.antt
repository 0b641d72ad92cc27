-- The numbers and names of faults.
use Rattle.std.specs.Prelude.{ℕ, List, codes}
use Rattle.rt_journal.specs.declared.fault.JournalFault.{JournalFault}
use Rattle.rt_journal.specs.declared.fault.JournalFault.TheVariants as Journal
use Rattle.rt_emulate.specs.declared.fault.EmulateFault.{EmulateFault}
use Rattle.rt_emulate.specs.declared.fault.EmulateFault.TheVariants.{NotBound, NotWaited, NotKept, NoMemory, NotServed}

abbrev pub code_of : EmulateFault → ℕ
code_of (NotBound port why) = 1
code_of (NotWaited why) = 2
code_of (NotKept why) = 3
code_of NoMemory = 4
code_of (NotServed folder why) = 5

abbrev pub name_of : EmulateFault → List ℕ
name_of (NotBound port why) = codes "NotBound"
name_of (NotWaited why) = codes "NotWaited"
name_of (NotKept why) = codes "NotKept"
name_of NoMemory = codes "NoMemory"
name_of (NotServed folder why) = codes "NotServed"

-- a fault of the tree's file, or of its journal
abbrev pub of_journal : JournalFault → EmulateFault
of_journal (Journal.Locked file) = NotKept (Journal.Locked file)
of_journal (Journal.Unread file why) = NotKept (Journal.Unread file why)
of_journal (Journal.NoTree file why) = NotKept (Journal.NoTree file why)
of_journal (Journal.BadLine file) = NotKept (Journal.BadLine file)
of_journal (Journal.Unwritten file why) = NotKept (Journal.Unwritten file why)
of_journal Journal.NoMemory = NoMemory
