-- What is sent to a connection for a text of it.
use Rattle.std.specs.Prelude.{◌≡◌, ◌==◌, ℕ, List, [], ◌∷◌, map, Option, Result, Ok, Err}
use Rattle.std.specs.List.{filter}
use Rattle.serde_json.specs.Written.{compact_text}
use Rattle.websocket.specs.Connection.{write_step}
use Rattle.websocket.specs.Content.{text}
use Rattle.tungstenite.specs.Socket.{Socket, Writes}
use Rattle.rt_wire.specs.ServerData.{server_data}
use Rattle.rt_wire.specs.declared.client.ClientMessage.{ClientMessage}
use Rattle.rt_wire.specs.declared.error.WireError.{WireError}
use Rattle.rt_wire.specs.declared.server.ServerMessage.{ServerMessage}
use Rattle.rt_peer.specs.declared.pushes.Sent.{Sent}
use Rattle.rt_peer.specs.Peers.{Peer}
use Rattle.rt_peer.specs.Calls.{answered}
use Rattle.rt_serve.specs.declared.serve.TextAnswer.{TextAnswer}
use Rattle.rt_serve.specs.declared.serve.TextAnswer.TheVariants.{Sends, PassedOver}

-- the text of a message of the server
abbrev pub text_of : ServerMessage → List ℕ
text_of message = compact_text (server_data message)

-- the texts of some messages, in order
abbrev pub texts_of : List Sent → List (List ℕ)
texts_of sent = map (λ s. text_of s.message) sent

-- what goes to that connection, in order
abbrev pub own : ℕ → List Sent → List Sent
own n sent = filter (λ s. s.to == n) sent

-- the texts that are sent to the connection for a text of it: none where it is no message of a client
abbrev pub told : ℕ → Peer → Result ClientMessage WireError → List (List ℕ)
told n p (Ok message) = texts_of (own n (answered p n message).1)
told n p (Err e) = []

-- what a text comes to: what the peer sends, or why it is passed over
abbrev pub IsAnswer : ℕ → Peer → Result ClientMessage WireError → TextAnswer → Type 0
IsAnswer n p (Ok message) (Sends sent) = sent.items ≡ (answered p n message).1
IsAnswer n p (Ok message) (PassedOver e) = ⊥
IsAnswer n p (Err why) (Sends sent) = ⊥
IsAnswer n p (Err why) (PassedOver e) = e ≡ why

-- the texts went to the stream, in order, each as a frame of its own
abbrev pub Tells : {S : Type 0} → (S → Option (List ℕ)) → Socket S → List (List ℕ) → Socket S → Type 0
Tells contents old [] new = new ≡ old
Tells contents old (t ∷ texts) new =
    (mid : Socket _) × Writes contents old mid (write_step old.conn (text t)) × (mid.output ≡ [])
    × Tells contents mid texts new
