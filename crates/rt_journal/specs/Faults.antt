-- The numbers and names of faults.
use Rattle.std.specs.Prelude.{ℕ, List, codes}
use Rattle.rt_journal.specs.declared.fault.JournalFault.{JournalFault}
use Rattle.rt_journal.specs.declared.fault.JournalFault.TheVariants.{Locked, Unread, NoTree, BadLine}
use Rattle.rt_journal.specs.declared.fault.JournalFault.TheVariants.{Unwritten, NoMemory}

abbrev pub code_of : JournalFault → ℕ
code_of (Locked file) = 1
code_of (Unread file why) = 2
code_of (NoTree file why) = 3
code_of (BadLine file) = 4
code_of (Unwritten file why) = 5
code_of NoMemory = 6

abbrev pub name_of : JournalFault → List ℕ
name_of (Locked file) = codes "Locked"
name_of (Unread file why) = codes "Unread"
name_of (NoTree file why) = codes "NoTree"
name_of (BadLine file) = codes "BadLine"
name_of (Unwritten file why) = codes "Unwritten"
name_of NoMemory = codes "NoMemory"
