-- What is read of a wire, in one go, and what it is given.
use Rattle.std.specs.Prelude.{◌≡◌, ◌≤◌, ℕ, List, [], ◌∷◌, length, map, Option, Result, Err}
use Rattle.std.specs.List.{flat_map}
use Rattle.serde_json.specs.Written.{compact_text}
use Rattle.rt_wire.specs.ClientData.{client_data}
use Rattle.rt_wire.specs.Server.{server_message}
use Rattle.rt_wire.specs.declared.client.ClientMessage.{ClientMessage}
use Rattle.rt_wire.specs.declared.error.WireError.{WireError}
use Rattle.rt_wire.specs.declared.error.WireError.TheVariants.{NotJson}
use Rattle.rt_wire.specs.declared.server.ServerMessage.{ServerMessage}
use Rattle.rt_socket.specs.Wires.{Gives}
use Rattle.rt_socket.specs.declared.wire.Pause.{Pause}
use Rattle.rt_socket.specs.declared.wire.Pause.TheVariants as pause
use Rattle.rt_socket.specs.declared.wire.Heard.{Heard}
use Rattle.rt_socket.specs.declared.wire.Heard.TheVariants.{Text, Binary, Sign, Nothing, Ended}
use Rattle.rt_socket.specs.declared.wire.Said.{Said}
use Rattle.rt_socket.specs.declared.wire.Said.TheVariants as said

-- what is read of what it gave: a text as a message of the server, or why it is none, as a binary message is;
-- a ping and a pong are no message
abbrev pub read_of : Heard → List (Result ServerMessage WireError)
read_of (Text words) = server_message words ∷ []
read_of Binary = Err NotJson ∷ []
read_of Sign = []
read_of Nothing = []
read_of (Ended why) = []

abbrev pub read_all : List Heard → List (Result ServerMessage WireError)
read_all given = flat_map read_of given

-- no more is read, since nothing is there, so many were given, or nothing will come
abbrev pub IsPause : Pause → ℕ → ℕ → Said → Type 0
IsPause pause.Idle most count told = (count ≤ most) × (told ≡ said.Nothing)
IsPause pause.More most count told = count ≡ most
IsPause (pause.Ended why) most count told = (count ≤ most) × (told ≡ said.Ended)

-- these messages are what a wire gave
pub record Reads (count : ℕ) (had has : Option (List Heard))
    (messages : List (Result ServerMessage WireError)) : Type 0 where
  pub given : List Heard
  pub many : length given ≡ count
  pub gave : Gives had has given
  pub read : messages ≡ read_all given

-- in one go
abbrev pub ReadsMost : Pause → ℕ → Said → Option (List Heard) → Option (List Heard)
    → List (Result ServerMessage WireError) → Type 0
ReadsMost pause most told had has messages =
    (count : ℕ) × IsPause pause most count told × Reads count had has messages

-- the texts of messages, as a wire takes them
abbrev pub texts_of : List ClientMessage → List (List ℕ)
texts_of messages = map (λ m. compact_text (client_data m)) messages
