-- What is read of a guest's socket, and what is put into it.
use Rattle.std.specs.Prelude.{◌≡◌, ◌++◌, ◌⊎◌, ◌+◌, ◌-◌, ◌^◌, ℕ, length, min, Bool, true, false, not, ◌&&◌, ◌||◌, if◌then◌else◌, List}
use Rattle.std.specs.Prelude.{Option, Some, None, Result, Ok, Err}
use Rattle.std.specs.Option.{is_some, option_map}
use Rattle.websocket.specs.CloseCode.{close_code_number}
use Rattle.websocket.specs.Content.{Content}
use Rattle.websocket.specs.View.{Leaves}
use Rattle.tungstenite.specs.Connection.{write_step}
use Rattle.tungstenite.specs.Socket.{Socket as WebSocket, Reads}
use Rattle.tungstenite.specs.declared.error.Error.{Error}
use Rattle.tungstenite.specs.declared.message.CloseFrame.{CloseFrame}
use Rattle.tungstenite.specs.declared.message.Message.{Message}
use Rattle.tungstenite.specs.declared.message.Message.TheVariants.{Text, Binary, Ping, Pong, Close}
use Rattle.rt_hub.specs.declared.door.Flushed.{Flushed}
use Rattle.rt_hub.specs.declared.door.Flushed.TheVariants as flush
use Rattle.rt_hub.specs.declared.door.DoorRead.{DoorRead}
use Rattle.rt_hub.specs.declared.door.DoorRead.TheVariants as heard
use Rattle.rt_wire.specs.Crowds.{is_crowded}
use Rattle.rt_emulate.specs.declared.socket.Broken.{Broken}
use Rattle.rt_emulate.specs.declared.socket.Broken.TheVariants.{Crowded}
use Rattle.rt_emulate.specs.declared.socket.Socket.{Socket}
use Rattle.rt_emulate.specs.inside.Endings.{broken_of, is_spent, of_stream, would_block}

-- ---- what is put into it

-- the frame of a message joins what waits to be sent, of which some goes to the stream
abbrev pub Puts : {S : Type 0} → Content → WebSocket S → WebSocket S → Type 0
Puts content old new =
    (sent : List ℕ) × Leaves (write_step old.conn content) new.conn old.output (sent ++ new.output)
    × (new.input ≡ old.input)

-- a write that failed so, if it did, took the message all the same
abbrev pub takes : Option Broken → Bool
takes None = true
takes (Some why) = would_block why

-- some of what waits goes to the stream
abbrev pub Sends : {S : Type 0} → WebSocket S → WebSocket S → Type 0
Sends old new =
    (sent : List ℕ) × (old.output ≡ sent ++ new.output) × (new.conn ≡ old.conn) × (new.input ≡ old.input)

-- how many bytes it has taken since all that it had taken was sent
abbrev pub unsent_with : List ℕ → ℕ → ℕ
unsent_with text unsent = min (unsent + length text) (2 ^ 64 - 1)

abbrev pub unsent_by : Flushed → ℕ → ℕ
unsent_by flush.Done unsent = 0
unsent_by flush.Blocked unsent = unsent
unsent_by flush.Failed unsent = unsent

-- ---- what is read of it

-- a message is a text, or none
abbrev pub heard_of : Message → DoorRead
heard_of (Text words) = heard.Text
heard_of (Binary bytes) = heard.Other
heard_of (Ping bytes) = heard.Other
heard_of (Pong bytes) = heard.Other
heard_of (Close frame) = heard.Other

abbrev pub code_in : Option CloseFrame → Option ℕ
code_in frame = option_map (λ f. close_code_number f.code) frame

-- what a message says is kept: a text, that it is binary, or the code of a close
abbrev pub kept : Message → Socket → Socket
kept (Text words) s = record s { text = words; was_binary = false }
kept (Binary bytes) s = record s { was_binary = true }
kept (Ping bytes) s = record s { was_binary = false }
kept (Pong bytes) s = record s { was_binary = false }
kept (Close frame) s = record s { was_binary = false; closed = Some (code_in frame) }

-- what is kept of a message that was read, or why none was
abbrev pub IsReadAs : Result Message Error → Socket → Socket → Result DoorRead Broken → Type 0
IsReadAs (Ok m) old new r = (r ≡ Ok (heard_of m)) × (new ≡ record (kept m old) { socket = new.socket })
IsReadAs (Err e) old new r = (r ≡ Err (broken_of e)) × (new ≡ record old { socket = new.socket })

-- a message is read, and what it says is kept
abbrev pub ReadsOne : Socket → Socket → Result DoorRead Broken → Type 0
ReadsOne old new r =
    (given : Result Message Error) × Reads (λ _. None) old.socket new.socket given × IsReadAs given old new r

-- what the socket has to answer by itself can't be written any more
abbrev pub passes : Broken → Bool
passes why = is_some (of_stream why) && (not (would_block why) && not (is_spent why))

-- it is read once, and where that is why the read failed, perhaps once more
abbrev pub ReadsOn : Socket → Socket → Result DoorRead Broken → Type 0
ReadsOn old new r =
    ReadsOne old new r
    ⊎ ((why : Broken) × (mid again : Socket) × ReadsOne old mid (Err why) × (passes why ≡ true)
    × (again ≡ record mid { socket = again.socket }) × (((r ≡ Err why) × (new ≡ again)) ⊎ ReadsOne again new r))

-- ---- what is said of it

-- nothing is there now, or nothing will come
abbrev pub is_nothing : Broken → Bool
is_nothing why = is_spent why || would_block why

abbrev pub said_of : Broken → DoorRead
said_of why = if is_nothing why then heard.Nothing else heard.Ended

abbrev pub broken_by : Broken → Socket → Socket
broken_by why s = record s { is_spent = is_spent why; why = if is_nothing why then s.why else Some why }

-- a text that holds more than a message may is as a read that failed
abbrev pub holds_too_much : DoorRead → List ℕ → Bool
holds_too_much heard.Text text = is_crowded text
holds_too_much heard.Other text = false
holds_too_much heard.Nothing text = false
holds_too_much heard.Ended text = false

abbrev pub judged : Result DoorRead Broken → List ℕ → Result DoorRead Broken
judged (Ok heard) text = if holds_too_much heard text then Err Crowded else Ok heard
judged (Err why) text = Err why

-- what was read is what is said
abbrev pub IsSaid : Result DoorRead Broken → Socket → DoorRead → Socket → Type 0
IsSaid (Ok heard) mid said new = (said ≡ heard) × (new ≡ record mid { said = heard })
IsSaid (Err why) mid said new = (said ≡ said_of why) × (new ≡ record (broken_by why mid) { said = said_of why })

abbrev pub Hears : Socket → Socket → DoorRead → Type 0
Hears old new said = (mid : Socket) × (r : Result DoorRead Broken) × ReadsOn old mid r × IsSaid (judged r mid.text) mid said new
