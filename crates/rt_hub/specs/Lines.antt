-- What waits for connections, and its bounds.
use Rattle.std.specs.Prelude.{ℕ, zero, suc, ◌+◌, ◌==◌, ◌||◌, nat_le, length, map, if◌then◌else◌}
use Rattle.std.specs.Prelude.{Bool, true, false, List, [], ◌∷◌, ◌++◌, drop, Option, Some, None}
use Rattle.std.specs.List.{filter, fold, slice_get}
use Rattle.std.specs.Option.{option_and_then, option_map}
use Rattle.serde_json.specs.Written.{compact_text}
use Rattle.rt_wire.specs.ServerData.{server_data}
use Rattle.rt_wire.specs.declared.server.ServerMessage.{ServerMessage}
use Rattle.rt_peer.specs.declared.pushes.Sent.{Sent}
use Rattle.rt_hub.specs.declared.refusal.Bounds.{Bounds}

-- the bytes of the texts that wait for a connection, oldest first, and whether more came where as much waited
-- as may
pub record Line : Type 0 where
  pub waiting : List (List ℕ)
  pub is_over : Bool

-- a line in which nothing waits
abbrev pub empty_line : Line
empty_line = record { waiting = []; is_over = false }

-- a line to which more came where as much waited as may; nothing waits any more
abbrev pub over_line : Line
over_line = record { waiting = []; is_over = true }

-- the line of the connection of that number, from 1; none where there is no such connection
abbrev pub line_of : List (Option Line) → ℕ → Option Line
line_of lines zero = None
line_of lines (suc place) = option_and_then (λ line. line) (slice_get lines place)

-- ---- more texts

-- how many bytes texts have
abbrev pub bytes_in : List (List ℕ) → ℕ
bytes_in texts = fold (λ n text. n + length text) 0 texts

-- how many bytes wait for a connection, and for all together
abbrev pub bytes_for : Option Line → ℕ
bytes_for None = 0
bytes_for (Some line) = bytes_in line.waiting

abbrev pub bytes_in_all : List (Option Line) → ℕ
bytes_in_all [] = 0
bytes_in_all (line ∷ lines) = bytes_for line + bytes_in_all lines

-- whether as much waits as may
abbrev pub is_full : Bounds → List (List ℕ) → Bool
is_full bounds waiting = nat_le bounds.messages (length waiting) || nat_le bounds.bytes (bytes_in waiting)

-- before texts come for it: where as much waits as may, the line is over
abbrev pub told_more : Bounds → Line → Line
told_more bounds line = if is_full bounds line.waiting then over_line else line

abbrev pub checked : Bounds → List (List ℕ) → Line → Line
checked bounds [] line = line
checked bounds (text ∷ texts) line = told_more bounds line

-- a text comes behind what waits; a line that is over takes none
abbrev pub with_text : Line → List ℕ → Line
with_text line text = if line.is_over then line else record line { waiting = line.waiting ++ text ∷ [] }

-- the texts of one call come, in order: however many these are, a line is over for what waited before
abbrev pub with_texts : Bounds → List (List ℕ) → Option Line → Option Line
with_texts bounds texts line = option_map (λ l. fold with_text (checked bounds texts l) texts) line

-- the oldest text is taken out
abbrev pub without_first : Option Line → Option Line
without_first line = option_map (λ (l : Line). record l { waiting = drop 1 l.waiting }) line

-- ---- what is sent

-- the text of a message of the server
abbrev pub text_of : ServerMessage → List ℕ
text_of message = compact_text (server_data message)

-- the texts for that connection, in order
abbrev pub texts_to : ℕ → List Sent → List (List ℕ)
texts_to n sent = map (λ s. text_of s.message) (filter (λ s. s.to == n) sent)
