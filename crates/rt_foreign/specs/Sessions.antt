-- What lines do to a core that C holds.
use Rattle.std.specs.Prelude.{◌≡◌, ◌⊎◌, ℕ, ◌+◌, min, List, [], if◌then◌else◌}
use Rattle.rt_world.specs.World.{full_limits, limits_from}
use Rattle.rt_script.specs.Doing.{AskedLacks, bytes_done, is_good}
use Rattle.rt_lines.specs.Lines.{line_of_bytes}
use Rattle.rt_script.specs.State.{State, new_state}
use Rattle.rt_foreign.specs.Status as status

-- a core and the source of its push ids, how many lines it was given, and what the last of them printed
pub record Session : Type 0 where
  pub state : State
  pub lines : ℕ
  pub printed : List ℕ

-- before the first line
abbrev pub new_session : Session
new_session = record { state = new_state (limits_from full_limits); lines = 0; printed = [] }

-- the number of the next line: from 1, and no more than a number can be
abbrev pub next_number : Session → ℕ
next_number s = min (s.lines + 1) 18446744073709551615

-- a line is done as the script's line of that number, and has printed what that prints
pub record IsDone (line : List ℕ) (result : ℕ) (old new : Session) : Type 0 where
  pub status : result ≡ (if is_good line then status.done else status.bad_text)
  pub state : new.state ≡ (bytes_done (next_number old) line old.state).state
  pub printed : new.printed ≡ (bytes_done (next_number old) line old.state).printed

-- memory has lacked for it, and it has printed nothing
pub record IsLacking (line : List ℕ) (result : ℕ) (old new : Session) : Type 0 where
  pub status : result ≡ status.no_memory
  pub state : AskedLacks (line_of_bytes line) old.state new.state
  pub printed : new.printed ≡ []

-- what a line makes of a core
pub record TakesLine (line : List ℕ) (result : ℕ) (old new : Session) : Type 0 where
  pub lines : new.lines ≡ next_number old
  pub made : IsDone line result old new ⊎ IsLacking line result old new
