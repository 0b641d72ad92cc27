-- What a server was sent and may not have read yet, and what was read of it before a line asked for it.
use Rattle.std.specs.Prelude.{ℕ, ◌+◌, ◌-◌, ◌^◌, ◌==◌, ◌||◌, nat_le, min, length, Bool, true, false}
use Rattle.std.specs.Prelude.{if◌then◌else◌, List, [], ◌∷◌, ◌++◌, drop, Option, Some, None, Result, Ok, Err}
use Rattle.std.specs.Option.{option_map_or}
use Rattle.std.specs.List.{fold, list_any}
use Rattle.rt_wire.specs.Server.{server_message}
use Rattle.rt_wire.specs.declared.client.ClientMessage.{ClientMessage}
use Rattle.rt_wire.specs.declared.error.WireError.{WireError}
use Rattle.rt_wire.specs.declared.server.ServerMessage.{ServerMessage}
use Rattle.rt_connect.specs.declared.link.DueAnswer.{DueAnswer}
use Rattle.rt_connect.specs.declared.link.Name.{Name}
use Rattle.rt_connect.specs.declared.link.Name.TheVariants.{Request, Listen}
use Rattle.rt_connect.specs.declared.link.TheConstants.{COST, MAX_KEPT_BYTES, MAX_UNANSWERED_BYTES}
use Rattle.rt_connect.specs.declared.link.ServerEvent.{ServerEvent}
use Rattle.rt_connect.specs.declared.link.ServerEvent.TheVariants.{Ended}
use Rattle.rt_connect.specs.declared.link.ServerEvent.TheVariants as heard
use Rattle.rt_connect.specs.declared.link.ServerFrame.{ServerFrame}
use Rattle.rt_connect.specs.declared.link.ServerFrame.TheVariants.{Text, Binary}
use Rattle.rt_connect.specs.Answers.{answer_to, answered_by}

-- which messages are still to be answered, in the order in which they were sent, each with how many bytes
-- were sent up to its end; how many bytes were sent, and how many of them were read as far as answers say;
-- and the messages that were read ahead, in order
pub record ReadAhead : Type 0 where
  pub due : List DueAnswer
  pub sent : ℕ
  pub read : ℕ
  pub kept : List ServerFrame

-- nothing was sent, and nothing was read
abbrev pub nothing_ahead : ReadAhead
nothing_ahead = record { due = []; sent = 0; read = 0; kept = [] }

-- ---- what is on its way

-- so many more, as far as 64 bits count
abbrev pub plus : ℕ → ℕ → ℕ
plus a b = min (a + b) (2 ^ 64 - 1)

-- whether they are one name
abbrev pub is_same : Name → Name → Bool
is_same (Request id) (Request other) = id == other
is_same (Listen tag) (Listen other) = tag == other
is_same (Request id) (Listen tag) = false
is_same (Listen tag) (Request id) = false

-- nothing is to be answered
abbrev pub owes_nothing : List DueAnswer → Bool
owes_nothing [] = true
owes_nothing (d ∷ ds) = false

-- whether so many bytes may be sent before more is read: where no answer is due, or no more bytes are then
-- on their way than may be
abbrev pub has_way : ℕ → ReadAhead → Bool
has_way len a = owes_nothing a.due || nat_le (a.sent - a.read + len) MAX_UNANSWERED_BYTES

-- the answer that is due for a message, where it is answered
abbrev pub due_for : Option Name → ℕ → List DueAnswer
due_for None sent = []
due_for (Some name) sent = record { name = name; sent = sent } ∷ []

-- a message of so many bytes was sent
abbrev pub with_sent : ClientMessage → ℕ → ReadAhead → ReadAhead
with_sent m len a = record a {
  due = a.due ++ due_for (answer_to m) (plus a.sent len);
  sent = plus a.sent len;
}

-- whether an answer of that name is due
abbrev pub is_due : Name → List DueAnswer → Bool
is_due name due = list_any (λ d. is_same d.name name) due

-- how many bytes were sent up to the first that is due of that name, and what is due behind it
abbrev pub up_to : Name → List DueAnswer → Option ℕ × List DueAnswer
up_to name [] = (None, [])
up_to name (d ∷ ds) = if is_same d.name name then (Some d.sent, ds) else up_to name ds

-- an answer of that name came, where one is due: all was read up to what it answers
abbrev pub answered : Name → ReadAhead → ReadAhead
answered name a =
    if is_due name a.due
    then record a { due = (up_to name a.due).1; read = option_map_or (λ n. n) (up_to name a.due).0 a.read }
    else a

-- answers of these names came, one after another
abbrev pub all_answered : List Name → ReadAhead → ReadAhead
all_answered names a = fold (λ b name. answered name b) a names

-- ---- what was read ahead

-- how many bytes a message has
abbrev pub byte_count : ServerFrame → ℕ
byte_count (Text words) = length words
byte_count Binary = 0

-- how many bytes messages take
abbrev pub cost_of : List ServerFrame → ℕ
cost_of [] = 0
cost_of (t ∷ ts) = byte_count t + COST + cost_of ts

-- whether there is room for one more
abbrev pub fits : ServerFrame → ReadAhead → Bool
fits t a = nat_le (cost_of a.kept + byte_count t + COST) MAX_KEPT_BYTES

-- one more is kept, last
abbrev pub with_kept : ServerFrame → ReadAhead → ReadAhead
with_kept t a = record a { kept = a.kept ++ t ∷ [] }

-- the first is taken out
abbrev pub without_first : ReadAhead → ReadAhead
without_first a = record a { kept = drop 1 a.kept }

-- ---- what a message of the socket says of it

-- a text that is a message of the server answers; one that is none answers nothing
abbrev pub noted : Result ServerMessage WireError → ReadAhead → ReadAhead
noted (Ok m) a = all_answered (answered_by m) a
noted (Err e) a = a

abbrev pub noted_of : ServerFrame → ReadAhead → ReadAhead
noted_of (Text words) a = noted (server_message words) a
noted_of Binary a = a

abbrev pub heard_by : ServerEvent → ReadAhead → ReadAhead
heard_by (heard.Told t) a = noted_of t a
heard_by (Ended why) a = a
