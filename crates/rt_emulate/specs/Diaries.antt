-- What an emulator says of itself, line by line.
use Rattle.std.specs.Prelude.{◌≡◌, ◌+◌, ◌*◌, ◌/◌, ◌-◌, ◌^◌, ◌<◌, ◌≤◌, ◌++◌, ◌∷◌, [], ◌⊎◌, ℕ, List, length, take, drop, min, codes}
use Rattle.std.specs.Prelude.{◌&&◌, ◌==◌, Bool, true, false, nat_le, nat_lt, if◌then◌else◌, Option, Some, None, slice_index_or}
use Rattle.std.specs.Prelude.{String, string_bytes}
use Rattle.std.specs.Str.{bytes_eq}
use Rattle.std.specs.declared.alloc.Global.{Global}
use Rattle.httpdate.specs.Date.{date_text, unix_secs}
use Rattle.httpdate.specs.declared.date.HttpDate.{HttpDate}
use Rattle.rt_emulate.specs.declared.settings.Level.{Level}
use Rattle.rt_emulate.specs.declared.settings.Kind.{Kind}
use Rattle.rt_emulate.specs.declared.diary.TheConstants.{MOST_BYTES}
use Rattle.rt_emulate.specs.Levels.{says, word_of}
use Rattle.rt_input.specs.Plains.{plain}

-- ---- times

-- the number of a month's first three letters, in two digits
abbrev pub month_digits : List ℕ → List ℕ
month_digits name =
    if bytes_eq name (codes "Jan") then codes "01"
    else if bytes_eq name (codes "Feb") then codes "02"
    else if bytes_eq name (codes "Mar") then codes "03"
    else if bytes_eq name (codes "Apr") then codes "04"
    else if bytes_eq name (codes "May") then codes "05"
    else if bytes_eq name (codes "Jun") then codes "06"
    else if bytes_eq name (codes "Jul") then codes "07"
    else if bytes_eq name (codes "Aug") then codes "08"
    else if bytes_eq name (codes "Sep") then codes "09"
    else if bytes_eq name (codes "Oct") then codes "10"
    else if bytes_eq name (codes "Nov") then codes "11"
    else codes "12"

-- the letter of a text at a place
abbrev pub at : List ℕ → ℕ → ℕ
at text place = slice_index_or text place 0

-- a date of HTTP (RFC 9110), as `Sun, 06 Nov 1994 08:49:37 GMT`, in the order of RFC 3339, as `1994-11-06T08:49:37Z`
abbrev pub stamp_of : List ℕ → List ℕ
stamp_of date =
    let month = month_digits (at date 8 ∷ at date 9 ∷ at date 10 ∷ []) in
    at date 12 ∷ at date 13 ∷ at date 14 ∷ at date 15 ∷ 45 ∷ at month 0 ∷ at month 1 ∷ 45 ∷ at date 5 ∷ at date 6
    ∷ 84 ∷ at date 17 ∷ at date 18 ∷ 58 ∷ at date 20 ∷ at date 21 ∷ 58 ∷ at date 23 ∷ at date 24 ∷ 90 ∷ []

-- the time of so many seconds since 1970
abbrev pub IsStamp : ℕ → List ℕ → Type 0
IsStamp secs stamp = (d : HttpDate) × (unix_secs d ≡ min secs 253402300799) × (stamp ≡ stamp_of (date_text d))

-- ---- a diary

-- which lines are said, the clock's seconds at the start, the time, the lines that wait to be written, and how
-- many were left out since
pub record Diary : Type 0 where
  pub level : Level
  pub start : ℕ
  pub time : List ℕ
  pub lines : List ℕ
  pub left_out : ℕ

-- a line as it is written
abbrev pub line_of : Kind → List ℕ → List ℕ → List ℕ
line_of k time text = codes "kaltewi: " ++ time ++ codes " [" ++ word_of k ++ codes "] " ++ plain text ++ 10 ∷ []

-- a line waits behind the others
abbrev pub with_line : List ℕ → Diary → Diary
with_line line d = record d { lines = d.lines ++ line }

-- a line is left out, and counted
abbrev pub without_line : Diary → Diary
without_line d = record d { left_out = min (d.left_out + 1) (2 ^ 64 - 1) }

-- whether there is room for a line
abbrev pub has_room : Diary → List ℕ → Bool
has_room d line = nat_le (length line) (MOST_BYTES - length d.lines)

-- a line waits if there is room for it, but where memory lacks
abbrev pub Adds : Bool → List ℕ → Diary → Diary → Type 0
Adds true line old new = (new ≡ with_line line old) ⊎ (new ≡ without_line old)
Adds false line old new = new ≡ without_line old

-- of a kind that isn't said nothing is
abbrev pub SaysAt : Bool → List ℕ → Diary → Diary → Type 0
SaysAt true line old new = Adds (has_room old line) line old new
SaysAt false line old new = new ≡ old

abbrev pub Says : Kind → List ℕ → Diary → Diary → Type 0
Says k text old new = SaysAt (says old.level k) (line_of k old.time text) old new

-- the time, so many milliseconds behind the start
abbrev pub secs_at : Diary → ℕ → ℕ
secs_at d now = min (d.start + now / 1000) (2 ^ 64 - 1)

abbrev pub is_none_of : List ℕ → Bool
is_none_of [] = true
is_none_of (x ∷ xs) = false

-- whether nothing is to be written
abbrev pub is_empty : Diary → Bool
is_empty d = is_none_of d.lines && d.left_out == 0

-- lines that stand before others
abbrev pub IsBegun : List ℕ → List ℕ → Type 0
IsBegun first all = take (length first) all ≡ first

-- a line for which memory was lacking is left out
abbrev pub SaysMade : Kind → Option (String Global) → Diary → Diary → Type 0
SaysMade k None old new = new ≡ without_line old
SaysMade k (Some text) old new = Says k (string_bytes text) old new
