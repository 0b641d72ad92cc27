-- The lines of an input, which are given one after another.
use Rattle.std.specs.Prelude.{◌≡◌, ◌==◌, ◌⊎◌, ◌<◌, ◌+◌, ◌-◌, ℕ, Bool, false, if◌then◌else◌}
use Rattle.std.specs.Prelude.{List, [], ◌∷◌, ◌++◌, length, Option, Some}
use Rattle.std.specs.List.{slice_split}
use Rattle.rt_input.specs.declared.fault.ConsoleError.{ConsoleError}
use Rattle.rt_input.specs.declared.fault.ConsoleError.TheVariants.{ReadFault, WriteFault}
use Rattle.rt_input.specs.declared.fault.ConsoleError.TheVariants.{BadWords, NoMemory}

-- the most bytes of input that are taken
abbrev pub most_input : ℕ
most_input = 67108864

-- the lines of a text: its pieces between line feeds
abbrev pub lines_of : List ℕ → List (List ℕ)
lines_of text = slice_split (λ b. b == 10) text

-- a reader of lines: the line that it gave last, what it has read behind that, how many bytes it has
-- read, and whether it gave the last line of the input
pub record Lines : Type 0 where
  pub line : List ℕ
  pub rest : List ℕ
  pub count : ℕ
  pub ended : Bool

-- before the first line
abbrev pub new_lines : Lines
new_lines = record { line = []; rest = []; count = 0; ended = false }

-- the lines that are to come, where so much of the input is left to be read
abbrev pub to_come : Lines → List ℕ → List (List ℕ)
to_come l left = if l.ended then [] else lines_of (l.rest ++ left)

-- the line that was given, if there was one
abbrev pub given_by : Lines → Lines → List (List ℕ)
given_by old new = if old.ended then [] else new.line ∷ []

-- of the lines that were to come the first was given, if there was one, and the others are to come
abbrev pub Gives : Lines → List ℕ → Lines → Option (List ℕ) → Type 0
Gives old left new remaining =
    (later : List ℕ) × (remaining ≡ Some later) × (to_come old left ≡ given_by old new ++ to_come new later)

-- at most so many lines are to come: each but the last takes a byte of what was read, or of what may be
abbrev pub most_lines : Lines → ℕ
most_lines l = (most_input - l.count) + length l.rest + (if l.ended then 0 else 1)

-- the lines of a text that goes on with a line that is being read
abbrev pub resumed : List ℕ → List (List ℕ) → List (List ℕ)
resumed line [] = []
resumed line (piece ∷ pieces) = (line ++ piece) ∷ pieces

-- the lines from the one that is being read on
abbrev pub resumed_by : Lines → List ℕ → List (List ℕ)
resumed_by l left = resumed l.line (lines_of (l.rest ++ left))

-- an error tells what failed: a read fault a read, or that more bytes were given than are taken: so
-- many were read before, and the reader's count went from old to new
abbrev pub TellsOfReads : ConsoleError → ℕ → (given given' failures failures' : ℕ) → Type 0
TellsOfReads ReadFault count given given' failures failures' =
    (failures' ≡ failures + 1) ⊎ (most_input + given < count + given')
TellsOfReads WriteFault count given given' failures failures' = ⊥
TellsOfReads BadWords count given given' failures failures' = ⊥
TellsOfReads NoMemory count given given' failures failures' = failures' ≡ failures
