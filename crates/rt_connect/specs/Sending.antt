-- What is sent over a connection, and what is read ahead before it.
use Rattle.std.specs.Prelude.{◌≡◌, ℕ, true, false, length, List, [], ◌∷◌, Option, None}
use Rattle.serde_json.specs.Written.{compact_text}
use Rattle.rt_socket.specs.declared.wire.Lost.{Lost}
use Rattle.rt_wire.specs.ClientData.{client_data}
use Rattle.rt_wire.specs.declared.client.ClientMessage.{ClientMessage}
use Rattle.rt_connect.specs.declared.link.ServerFrame.{ServerFrame}
use Rattle.rt_connect.specs.Ahead.{ReadAhead, has_way, noted_of, with_kept, with_sent}

-- the text of a message to the server
abbrev pub text_of : ClientMessage → List ℕ
text_of message = compact_text (client_data message)

-- a connection, and how far the server is behind
pub record Linked (W : Type 0) : Type 0 where
  pub wire : W
  pub ahead : ReadAhead

abbrev pub linked : {W : Type 0} → W → ReadAhead → Linked W
linked wire ahead = record { wire = wire; ahead = ahead }

-- these messages came, in order, while there was no way for so many bytes; each was noted and is kept
abbrev pub Awaits : ℕ → ReadAhead → List ServerFrame → ReadAhead → Type 0
Awaits len old [] new = new ≡ old
Awaits len old (t ∷ ts) new = (has_way len old ≡ false) × Awaits len (with_kept t (noted_of t old)) ts new

-- there is way for so many bytes: at once, and then nothing is read, or once enough was read ahead
pub record MakesWay {W : Type 0} (len : ℕ) (old new : Linked W) : Type 0 where
  pub came : List ServerFrame
  pub awaits : Awaits len old.ahead came new.ahead
  pub way : has_way len new.ahead ≡ true
  pub still : came ≡ [] → new ≡ old

-- a message is sent once there is way for its text, by a connection whose own relation that is
pub record Sends {W : Type 0} (sends : W → List ℕ → Option Lost → W → Type 0) (old : Linked W)
    (message : ClientMessage) (new : Linked W) : Type 0 where
  pub ready : Linked W
  pub way : MakesWay (length (text_of message)) old ready
  pub sent : sends ready.wire (text_of message) None new.wire
  pub noted : new.ahead ≡ with_sent message (length (text_of message)) ready.ahead

-- messages are sent, in order, each once
abbrev pub SendsAll : {W : Type 0} → (W → List ℕ → Option Lost → W → Type 0) → Linked W → List ClientMessage
    → Linked W → Type 0
SendsAll sends old [] new = new ≡ old
SendsAll sends old (m ∷ ms) new =
    (mid : Linked _) × Sends sends old m mid × SendsAll sends mid ms new
