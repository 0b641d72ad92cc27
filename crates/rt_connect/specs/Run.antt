-- How many lines of an input are bad, and what a run over an input leaves.
use Rattle.std.specs.Prelude.{◌≡◌, ◌≤◌, ℕ, ◌+◌, ◌-◌, ◌^◌, min, if◌then◌else◌, List, [], ◌∷◌, Option, Some}
use Rattle.std.specs.Prelude.{Result, IfErr, IfOk, OnOk}
use Rattle.std.specs.Io.KnownBytes.{IsAtEnd}
use Rattle.rt_input.specs.declared.fault.ConsoleError.{ConsoleError}
use Rattle.rt_input.specs.Faults.{Counts, NoneFailed, Tells}
use Rattle.rt_input.specs.Lines.{lines_of, most_input}
use Rattle.rt_lines.specs.Orders.{is_good_order}

-- one more, as far as 64 bits count; no input that a run takes has so many lines
abbrev pub one_more : ℕ → ℕ
one_more n = min (n + 1) (2 ^ 64 - 1)

-- so many were bad before these lines: how many are with them
abbrev pub bad_with : List (List ℕ) → ℕ → ℕ
bad_with [] n = n
bad_with (line ∷ lines) n = bad_with lines (if is_good_order line then n else one_more n)

-- how many lines are bad: neither empty nor an order of one of the forms
abbrev pub bad_among : List (List ℕ) → ℕ
bad_among lines = bad_with lines 0

-- a client was driven by the lines that a reader gave: what reader and writer count before and after it, and what
-- the reader had to give before and after it
pub record Drives (answer : Result ℕ ConsoleError) (was now : Counts) (given left : Option (List ℕ)) : Type 0 where
  pub end : OnOk answer (IsAtEnd left)
  pub counted : IfOk answer (λ bad_lines. (text : List ℕ) → given ≡ Some text → bad_lines ≡ bad_among (lines_of text))
  pub within : OnOk answer (now.given ≤ was.given + most_input)
  pub ok : OnOk answer (NoneFailed was now)
  pub fault : IfErr answer (λ e. Tells e was now)
