-- What a connection that is served is to the peer: it begins, its texts are taken one after another,
-- and it ends.
use Rattle.std.specs.Prelude.{◌≡◌, ◌≤◌, ◌⊎◌, ℕ, List, [], ◌∷◌, ◌++◌, length, Option, Some, None, Ok, Err, Result}
use Rattle.std.specs.Prelude.{Bool, true, false, IfOk, IfErr, IfSome, OnErr}
use Rattle.std.specs.List.{flat_map}
use Rattle.rt_wire.specs.Client.{client_message}
use Rattle.rt_wire.specs.declared.client.ClientMessage.{ClientMessage}
use Rattle.rt_wire.specs.declared.error.WireError.{WireError}
use Rattle.rt_peer.specs.Peers.{Peer, least_free}
use Rattle.rt_peer.specs.Runs.{Call, Connect, Message, Disconnect, after_all}
use Rattle.rt_serve.specs.declared.serve.ServeError.{ServeError}
use Rattle.rt_serve.specs.declared.serve.ServeError.TheVariants.{NoMemory}
use Rattle.rt_serve.specs.declared.serve.TheConstants.{MAX_MESSAGES}

-- what a text is to the peer: a message of the connection, or nothing where it is none of a client
abbrev pub call_of : ℕ → Result ClientMessage WireError → List Call
call_of n (Ok message) = Message n message ∷ []
call_of n (Err e) = []

-- the texts of a connection, one after another
abbrev pub taken : ℕ → List (List ℕ) → List Call
taken n texts = flat_map (λ text. call_of n (client_message text)) texts

-- a whole connection
abbrev pub session : ℕ → List (List ℕ) → List Call
session n texts = Connect ∷ (taken n texts ++ Disconnect n ∷ [])

-- q is p after some texts of the connection, and there were at most so many
abbrev pub HasTaken : ℕ → ℕ → Peer → Option Peer → Type 0
HasTaken most n p q =
    (texts : List (List ℕ)) × (length texts ≤ most) × (q ≡ Some (after_all p (taken n texts)))

-- q is p after one connection, which had the least free number
abbrev pub HasServed : Peer → Option Peer → Type 0
HasServed p q =
    (texts : List (List ℕ)) × (length texts ≤ MAX_MESSAGES)
    × (q ≡ Some (after_all p (session (least_free p.connections) texts)))

-- where it comes about that a connection is served, q is p after it, and else q is p
abbrev pub ServedIf : Bool → Peer → Option Peer → Type 0
ServedIf true p q = HasServed p q
ServedIf false p q = q ≡ Some p

-- nobody says whether a connection was served: q is p after it, or p
abbrev pub ServedOrNot : {A : Type 0} → A → Peer → Option Peer → Type 0
ServedOrNot a p q = (q ≡ Some p) ⊎ HasServed p q

-- what the serving of a stream leaves of a peer, whose value is none once it has lacked memory: so much where
-- the answer is a value; where memory is lacking, the connection is ended too, or the peer has failed
pub record ServesStream {A : Type 0} (leaves : A → Peer → Option Peer → Type 0) (answer : Result A ServeError)
    (old new : Option Peer) : Type 0 where
  pub served : IfSome old (λ p. IfOk answer (λ a. leaves a p new))
  pub failed : IfSome old (λ p. OnErr answer ((new ≡ None) ⊎ (new ≡ old) ⊎ HasServed p new))
  pub lost : old ≡ None → new ≡ None
  pub memory : IfErr answer (λ e. IfSome old (λ _. e ≡ NoMemory))
