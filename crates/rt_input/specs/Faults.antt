-- When a run ends by a fault of its reader or its writer.
use Rattle.std.specs.Prelude.{◌≡◌, ℕ, ◌+◌, ◌<◌, ◌⊎◌}
use Rattle.rt_input.specs.declared.fault.ConsoleError.{ConsoleError}
use Rattle.rt_input.specs.declared.fault.ConsoleError.TheVariants.{ReadFault, WriteFault}
use Rattle.rt_input.specs.declared.fault.ConsoleError.TheVariants.{BadWords, NoMemory}
use Rattle.rt_input.specs.Lines.{most_input}

-- what a reader and a writer count: the bytes that were given, and the failures of each
pub record Counts : Type 0 where
  pub given : ℕ
  pub failed_reads : ℕ
  pub failed_writes : ℕ

abbrev pub counts : ℕ → ℕ → ℕ → Counts
counts given failed_reads failed_writes =
    record { given = given; failed_reads = failed_reads; failed_writes = failed_writes }

-- no read and no write failed
abbrev pub NoneFailed : Counts → Counts → Type 0
NoneFailed old new =
    (new.failed_reads ≡ old.failed_reads) × (new.failed_writes ≡ old.failed_writes)

-- an error tells what failed: a read fault a read, or that more bytes were given than a run takes;
-- a write fault a write
abbrev pub Tells : ConsoleError → Counts → Counts → Type 0
Tells ReadFault old new = (new.failed_writes ≡ old.failed_writes)
    × ((new.failed_reads ≡ old.failed_reads + 1) ⊎ (old.given + most_input < new.given))
Tells WriteFault old new =
    (new.failed_reads ≡ old.failed_reads) × (new.failed_writes ≡ old.failed_writes + 1)
Tells BadWords old new = ⊥
Tells NoMemory old new = NoneFailed old new

-- a run without a reader: the same for its writer alone
abbrev pub WriteTells : ConsoleError → ℕ → ℕ → Type 0
WriteTells ReadFault old new = ⊥
WriteTells WriteFault old new = new ≡ old + 1
WriteTells BadWords old new = ⊥
WriteTells NoMemory old new = new ≡ old
