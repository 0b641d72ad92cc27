-- When a tree's file is made anew.
use Rattle.std.specs.Prelude.{ℕ, ◌+◌, ◌-◌, ◌/◌, ◌^◌, ◌&&◌, not, nat_le, min, max, if◌then◌else◌}
use Rattle.std.specs.Prelude.{Bool, Option, Some, None}
use Rattle.rt_journal.specs.declared.file.TheConstants.{BYTES_A_MS, LEAST_PAUSE_MS, POLL_MS}

-- when a file is made anew next that was made at that time, in milliseconds, and has so many bytes
abbrev pub due_after : ℕ → ℕ → ℕ
due_after now file = min (now + max LEAST_PAUSE_MS (file / BYTES_A_MS)) (2 ^ 64 - 1)

-- what stands of a tree's file: how many bytes it has, 0 where there is none; whether a new one is being
-- made; whether the tree is not the file's; whether another program changed the file; and from when on a new
-- one may be made, in milliseconds since the start
pub record Standing : Type 0 where
  pub bytes : ℕ
  pub is_making : Bool
  pub is_changed : Bool
  pub is_foreign : Bool
  pub due_at : ℕ

-- whether a new file is owed: the tree is not the file's, and no other program changed that
abbrev pub is_owed : Standing → Bool
is_owed s = s.is_changed && not s.is_foreign

-- whether it is to be made now
abbrev pub is_due : Standing → ℕ → Bool
is_due s now = is_owed s && nat_le s.due_at now

-- when a turn is to come next: shortly where a new file is being made, and else when one is due, if one is
-- owed
abbrev pub next_at : Standing → ℕ → Option ℕ
next_at s now =
    if s.is_making then Some (min (now + POLL_MS) (2 ^ 64 - 1))
    else if is_owed s then Some s.due_at else None

-- the next file is made only after a pause
abbrev pub postponed : Standing → ℕ → Standing
postponed s now = record s { due_at = due_after now s.bytes }
