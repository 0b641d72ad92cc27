-- What lines print, which is written in pieces.
use Rattle.std.specs.Prelude.{◌≡◌, ℕ, List, ◌++◌, Option, string_bytes}
use Rattle.std.specs.Io.KnownBytes.{Appends}
use Rattle.rt_script.specs.declared.script.Script.{Script}
use Rattle.rt_script.specs.Run.{Progress, after_line, after_lines}

-- how far a script is that has written so much since it was looked at first: the rest of what was
-- printed waits
abbrev pub so_far : List ℕ → Script → Progress
so_far written script = record {
  state = script.state;
  printed = written ++ string_bytes script.printed;
  lines = script.lines;
  bad_lines = script.bad_lines;
}

-- lines were done: what they print, behind what waited before, is written or waits
abbrev pub Runs : List (List ℕ) → Progress → Option (List ℕ) → Script → Option (List ℕ) → Type 0
Runs lines old contents script new_contents =
    (written : List ℕ)
    × Appends contents new_contents written
    × (so_far written script ≡ after_lines lines old)

-- a line was begun: what waits is what the line, and what waited before it, print first
abbrev pub PrintsFirst : List ℕ → Progress → Script → Type 0
PrintsFirst line old script =
    (rest : List ℕ) × ((after_line line old).printed ≡ string_bytes script.printed ++ rest)

-- lines were begun: what was written, and what waits behind it, is what they print first
abbrev pub Begins : List (List ℕ) → Progress → Option (List ℕ) → Script → Option (List ℕ) → Type 0
Begins lines old contents script new_contents =
    (written rest : List ℕ)
    × Appends contents new_contents written
    × ((after_lines lines old).printed ≡ (written ++ string_bytes script.printed) ++ rest)
