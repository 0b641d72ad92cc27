-- The lines that wait to be done, and how their input has ended.
use Rattle.std.specs.Prelude.{ℕ, ◌+◌, ◌&&◌, ◌||◌, nat_lt, length, if◌then◌else◌, Bool, false}
use Rattle.std.specs.Prelude.{List, [], ◌∷◌, ◌++◌, Option, None, Result, Ok, Err}
use Rattle.std.specs.Global.{Vec}
use Rattle.rt_input.specs.declared.fault.ConsoleError.{ConsoleError}
use Rattle.rt_input.specs.declared.fault.ConsoleError.TheVariants as console
use Rattle.rt_watch.specs.declared.lines.End.{End}
use Rattle.rt_watch.specs.declared.lines.End.TheVariants as end
use Rattle.rt_watch.specs.declared.lines.TheConstants.{MOST_BYTES, MOST_LINES}

-- lines that wait, oldest first; how the input has ended, if it has; whether nobody takes lines any more
pub record Queue : Type 0 where
  pub lines : List (List ℕ)
  pub ended : Option End
  pub is_left : Bool

-- a line's bytes
abbrev pub items_of : Vec ℕ → List ℕ
items_of line = line.items

-- none waits yet
abbrev pub empty_queue : Queue
empty_queue = record { lines = []; ended = None; is_left = false }

-- how many bytes lines have
abbrev pub bytes_in : List (List ℕ) → ℕ
bytes_in [] = 0
bytes_in (line ∷ lines) = length line + bytes_in lines

-- whether more may wait
abbrev pub has_room : List (List ℕ) → Bool
has_room lines = nat_lt (length lines) MOST_LINES && nat_lt (bytes_in lines) MOST_BYTES

-- whether whoever reads goes on at once
abbrev pub is_open : Queue → Bool
is_open q = q.is_left || has_room q.lines

-- a line is put behind the others, where somebody takes lines still
abbrev pub with_line : List ℕ → Queue → Queue
with_line line q = if q.is_left then q else record q { lines = q.lines ++ line ∷ [] }

-- all is taken
abbrev pub taken_out : Queue → Queue
taken_out q = record q { lines = []; ended = None }

-- how an input has ended that was read so
abbrev pub end_of : Result Unit ConsoleError → End
end_of (Ok done) = end.Read
end_of (Err console.NoMemory) = end.NoMemory
end_of (Err e) = end.Unread
