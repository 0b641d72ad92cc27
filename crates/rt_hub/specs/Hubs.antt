-- What a hub holds, and what each call leaves of it.
use Rattle.std.specs.Prelude.{◌≡◌, ◌==◌, ◌+◌, ◌≤◌, ◌∷◌, ℕ, zero, suc, Bool, true, false, if◌then◌else◌, List, [], map}
use Rattle.std.specs.Prelude.{Option, Some, None, Result, Ok, Err, String, string_bytes}
use Rattle.std.specs.declared.alloc.Global.{Global}
use Rattle.std.specs.List.{slice_get}
use Rattle.std.specs.Option.{option_and_then, option_map, option_map_or}
use Rattle.serde_json.specs.Written.{compact_text}
use Rattle.rt_tree.specs.PathTree.{Path, PathTree}
use Rattle.rt_wire.specs.ClientData.{listen_data}
use Rattle.rt_wire.specs.declared.client.ClientMessage.{ClientMessage}
use Rattle.rt_wire.specs.declared.error.WireError.{WireError}
use Rattle.rt_peer.specs.Peers.{Listen, Peer, least_free, listens_behind, new_peer}
use Rattle.rt_peer.specs.Calls.{fault}
use Rattle.rt_peer.specs.Runs.{Call, Connect, Message, Disconnect, EndSome}
use Rattle.rt_peer.specs.Turns.{is_last_turn}
use Rattle.rt_peer.specs.declared.error.PeerError.{PeerError}
use Rattle.rt_peer.specs.declared.pushes.Sent.{Sent}
use Rattle.rt_hub.specs.declared.refusal.Bounds.{Bounds}
use Rattle.rt_hub.specs.declared.hub.Taken.{Taken}
use Rattle.rt_hub.specs.declared.hub.Taken.TheVariants.{Message as TookMessage, PassedOver}
use Rattle.rt_hub.specs.Bounded.{bounded, has_too_many}
use Rattle.rt_hub.specs.Lines.{Line, bytes_for, bytes_in_all, empty_line, line_of, texts_to, with_texts}
use Rattle.rt_hub.specs.Lines.{without_first}
use Rattle.rt_hub.specs.Verdicts.{verdict_of}

-- a peer, what may wait for each of its connections, and what does, by the numbers of the connections
pub record Hub : Type 0 where
  pub peer : Peer
  pub bounds : Bounds
  pub lines : List (Option Line)

-- a hub of a tree, with no connection
abbrev pub new_hub : PathTree → List Path → Bounds → Hub
new_hub tree denied bounds = record { peer = new_peer tree denied; bounds = bounds; lines = [] }

-- the line of a connection; none where the hub has lacked memory, or there is no such connection
abbrev pub line_in : Option Hub → ℕ → Option Line
line_in hub n = option_and_then (λ (h : Hub). line_of h.lines n) hub

-- ---- calls of the peer

-- in the line of a connection that ends nothing waits from its first turn on; after the last one it has none
abbrev pub left_line : Bool → Option Line → Option Line
left_line true line = None
left_line false line = option_map (λ l. empty_line) line

-- a connection that begins has a line in which nothing waits; one that ends has none
abbrev pub kept_line : ℕ → Peer → Call → Option Line → Option Line
kept_line n p Connect line = if least_free p.connections == n then Some empty_line else line
kept_line n p (Message m message) line = line
kept_line n p (Disconnect m) line = if m == n then None else line
kept_line n p (EndSome m most) line = if m == n then left_line (is_last_turn p m most) line else line

-- the line after a call: what the peer sends to the connection comes behind what waits
abbrev pub line_after : Bounds → ℕ → Peer → Call → Option Line → Option Line
line_after bounds n p call line =
    with_texts bounds (texts_to n (bounded p call).1) (kept_line n p call line)

-- the peer's call is made, and each connection has its line after it
pub record Makes (old : Hub) (call : Call) (new : Hub) : Type 0 where
  pub peer : new.peer ≡ (bounded old.peer call).0
  pub bounds : new.bounds ≡ old.bounds
  pub lines : (n : ℕ) → line_of new.lines n ≡ line_after old.bounds n old.peer call (line_of old.lines n)

-- so it is of a hub that hasn't lacked memory before or then
abbrev pub IsMade : Option Hub → Call → Option Hub → Type 0
IsMade None call new = ⊥
IsMade (Some old) call None = ⊥
IsMade (Some old) call (Some new) = Makes old call new

-- ---- a text

-- a text that is a message of a client is the peer's call; one that is none changes nothing
abbrev pub TakesText : Option Hub → ℕ → Result ClientMessage WireError → Option Hub → Type 0
TakesText old n (Ok message) new = IsMade old (Message n message) new
TakesText old n (Err why) new = new ≡ old

-- to whom something is sent, in order
abbrev pub receivers : List Sent → List ℕ
receivers sent = map (λ s. s.to) sent

-- what is answered to a text: what became of it and to whom something was sent, or why it is no message
abbrev pub IsTaken : Peer → ℕ → Result ClientMessage WireError → Taken → Type 0
IsTaken p n (Ok message) (TookMessage verdict told) =
    (verdict ≡ verdict_of message (bounded p (Message n message)).1)
    × (told.items ≡ receivers (bounded p (Message n message)).1)
IsTaken p n (Ok message) (PassedOver e) = ⊥
IsTaken p n (Err why) (TookMessage verdict told) = ⊥
IsTaken p n (Err why) (PassedOver e) = e ≡ why

-- ---- what waits is handed over

-- the oldest text of a line, if one waits
abbrev pub first_of : Option Line → Option (List ℕ)
first_of line = option_and_then (λ (l : Line). slice_get l.waiting 0) line

-- the oldest text that waits for the connection is taken out, and nothing else changes
pub record Hands (old : Hub) (connection : ℕ) (new : Hub) : Type 0 where
  pub peer : new.peer ≡ old.peer
  pub bounds : new.bounds ≡ old.bounds
  pub lines : (n : ℕ) → line_of new.lines n
      ≡ (if connection == n then without_first (line_of old.lines n) else line_of old.lines n)

abbrev pub IsHanded : Option Hub → ℕ → Option Hub → Type 0
IsHanded None n new = new ≡ None
IsHanded (Some old) n None = ⊥
IsHanded (Some old) n (Some new) = Hands old n new

-- ---- what waits for all

-- how many bytes wait for all connections together; a hub that has lacked memory says none
abbrev pub waits_in : Option Hub → ℕ
waits_in hub = option_map_or (λ (h : Hub). bytes_in_all h.lines) hub 0

-- how many bytes are elsewhere for the connection of that number, from 1
abbrev pub count_of : List ℕ → ℕ → ℕ
count_of counts zero = 0
count_of counts (suc place) = option_map_or (λ count. count) (slice_get counts place) 0

-- how many wait for it, here and elsewhere
abbrev pub waits_for : List (Option Line) → List ℕ → ℕ → ℕ
waits_for lines elsewhere n = bytes_for (line_of lines n) + count_of elsewhere n

-- for no connection more bytes wait than for this one
abbrev pub IsSlowest : List (Option Line) → List ℕ → ℕ → Type 0
IsSlowest lines elsewhere n = (m : ℕ) → waits_for lines elsewhere m ≤ waits_for lines elsewhere n

-- ---- what one connection may have

-- whether the connection has more listens than it may; a hub that has lacked memory says no
abbrev pub has_too_many_in : Option Hub → ℕ → Bool
has_too_many_in hub n = option_map_or (λ (h : Hub). has_too_many h.peer n) hub false

-- ---- what one connection listens to

-- the text of the message that asks for a listen
abbrev pub listen_text : Listen → List ℕ
listen_text l = compact_text (listen_data l.tag l.query)

-- those of a connection's listens behind that tag, in the order of their tags; a hub that has lacked memory says none
abbrev pub listen_texts : Option Hub → ℕ → Option ℕ → List (List ℕ)
listen_texts hub n above =
    option_map_or (λ (h : Hub). map listen_text (listens_behind n above h.peer.listens)) hub []

-- the first one of them with its tag, if there is one
abbrev pub IsNextListen : Option Hub → ℕ → Option ℕ → Option (ℕ × String Global) → Type 0
IsNextListen hub n above None = listen_texts hub n above ≡ []
IsNextListen hub n above (Some next) =
    listen_texts hub n above ≡ string_bytes next.1 ∷ listen_texts hub n (Some next.0)

-- ---- refusals

-- why a call on a connection is refused, before memory is looked for
abbrev pub refused_as : Option Hub → ℕ → Option PeerError
refused_as hub n = fault (option_map (λ (h : Hub). h.peer) hub) n
