-- A run of a script: its lines are done one after another, numbered from 1, on a new core and a
-- source of push ids that has given none.
use Rattle.std.specs.Prelude.{◌≡◌, ℕ, ◌+◌, ◌-◌, ◌^◌, ◌<◌, ◌≤◌, ◌⊎◌, min, if◌then◌else◌, List, [], ◌∷◌, ◌++◌}
use Rattle.std.specs.Prelude.{Option, Some, Result, IfOk, OnOk, OnErr, IsErrOf}
use Rattle.std.specs.Io.KnownBytes.{Appends, IsAtEnd}
use Rattle.rt_input.specs.declared.fault.ConsoleError.{ConsoleError}
use Rattle.rt_input.specs.declared.fault.ConsoleError.TheVariants.{ReadFault, WriteFault, BadWords, NoMemory}
use Rattle.rt_input.specs.Faults.{Counts}
use Rattle.rt_input.specs.Lines.{lines_of, most_input}
use Rattle.rt_input.specs.Streams.{AppendsPart}
use Rattle.rt_world.specs.World.{limits_from, full_limits}
use Rattle.rt_script.specs.State.{State, new_state}
use Rattle.rt_script.specs.Doing.{bytes_done, is_good}

-- how far a run is: what its lines act on, what was printed, and how many lines were done and how
-- many of them were bad
pub record Progress : Type 0 where
  pub state : State
  pub printed : List ℕ
  pub lines : ℕ
  pub bad_lines : ℕ

-- one more, as far as 64 bits count; no input that a run takes has so many lines
abbrev pub one_more : ℕ → ℕ
one_more n = min (n + 1) (2 ^ 64 - 1)

-- one more line: what it does to the state is done, what it prints is printed, and it counts as bad
-- where it is not good
abbrev pub after_line : List ℕ → Progress → Progress
after_line line p = record {
  state = (bytes_done (one_more p.lines) line p.state).state;
  printed = p.printed ++ (bytes_done (one_more p.lines) line p.state).printed;
  lines = one_more p.lines;
  bad_lines = if is_good line then p.bad_lines else one_more p.bad_lines;
}

-- lines, one after another
abbrev pub after_lines : List (List ℕ) → Progress → Progress
after_lines [] p = p
after_lines (line ∷ lines) p = after_lines lines (after_line line p)

-- before the first line
abbrev pub start : Progress
start = record {
  state = new_state (limits_from full_limits);
  printed = [];
  lines = 0;
  bad_lines = 0;
}

-- after the whole of an input
abbrev pub run_of : List ℕ → Progress
run_of text = after_lines (lines_of text) start

-- an input was run: that many of its lines were bad, and the writer, whose bytes are these before and
-- after it, where they are known, has got just what the lines print
pub record Ran (text : List ℕ) (bad_lines : ℕ) (old new : Option (List ℕ)) : Type 0 where
  pub counted : bad_lines ≡ (run_of text).bad_lines
  pub written : Appends old new (run_of text).printed

-- a script was run that a reader gave: what reader and writer count before and after it, what the reader had to
-- give before and after it, and the bytes of the writer before and after it
pub record RunsScript (answer : Result ℕ ConsoleError) (was now : Counts) (given left old new : Option (List ℕ)) : Type 0 where
  pub end : OnOk answer (IsAtEnd left)
  pub ran : IfOk answer (λ bad_lines. (text : List ℕ) → given ≡ Some text → Ran text bad_lines old new)
  pub within : OnOk answer (now.given ≤ was.given + most_input)
  pub no_failed_read : OnOk answer (now.failed_reads ≡ was.failed_reads)
  pub no_failed_write : OnOk answer (now.failed_writes ≡ was.failed_writes)
  pub read_fault : IsErrOf answer ReadFault
      → (was.failed_reads < now.failed_reads) ⊎ (was.given + most_input < now.given)
  pub write_fault : IsErrOf answer WriteFault → was.failed_writes < now.failed_writes
  pub failed_read : was.failed_reads < now.failed_reads → IsErrOf answer ReadFault
  pub never : IsErrOf answer BadWords → ⊥
  pub no_memory : IsErrOf answer NoMemory
      → (now.failed_reads ≡ was.failed_reads) × (now.failed_writes ≡ was.failed_writes)
  pub failed_write : was.failed_writes < now.failed_writes → IsErrOf answer WriteFault
  pub first : OnErr answer ((text : List ℕ) → given ≡ Some text → AppendsPart old new (run_of text).printed)
