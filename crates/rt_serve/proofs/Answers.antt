-- What is sent for a text, message after message.
use Rattle.std.proofs.Common.{◌≡◌, ℕ, ◌+◌, ◌<◌, ◌≤◌, Bool, true, List, [], ◌∷◌, length, drop, get_or}
use Rattle.std.proofs.Common.{Option, Some, None, Ok, Err, Result, refl, sym, ap, subst, ◌∙◌, IfOk}
use Rattle.std.specs.Prelude.{IfSome}
use Rattle.std.proofs.lemmas.List.{drop_all, drop_more}
use Rattle.websocket.specs.Connection.{write_step}
use Rattle.websocket.specs.Content.{text}
use Rattle.tungstenite.specs.Socket.{Socket, Writes}
use Rattle.rt_wire.specs.declared.client.ClientMessage.{ClientMessage}
use Rattle.rt_wire.specs.declared.error.WireError.{WireError}
use Rattle.rt_peer.specs.declared.pushes.Sent.{Sent}
use Rattle.rt_peer.specs.Peers.{Peer}
use Rattle.rt_serve.specs.Answers.{IsAnswer, Tells, own, told, text_of, texts_of}
use Rattle.rt_serve.specs.declared.serve.TextAnswer.{TextAnswer}
use Rattle.rt_serve.specs.declared.serve.TextAnswer.TheVariants.{Sends, PassedOver}

-- what an answer sends
abbrev pub sent_in : TextAnswer → List Sent
sent_in (Sends sent) = sent.items
sent_in (PassedOver e) = []

-- the texts of what is kept are those that the connection is told
pub sent_on : {S E : Type 0} (C : S → Option (List ℕ)) (s s' : Socket S) (o : Option Peer) (n : ℕ)
    (r : Result ClientMessage WireError) (a : TextAnswer) (given : List Sent) (x : Result Bool E)
    → given ≡ own n (sent_in a) → IfSome o (λ p. IsAnswer n p r a)
    → IfOk x (λ all. all ≡ true → Tells C s (texts_of given) s')
    → IfSome o (λ p. IfOk x (λ all. all ≡ true → Tells C s (told n p r) s'))
sent_on C s s' None n r a given x e h t = tt
sent_on C s s' (Some p) n (Ok m) (Sends v) given x e h t =
    subst (λ ts. IfOk x (λ all. all ≡ true → Tells C s ts s')) (ap texts_of (e ∙ ap (own n) h)) t
sent_on C s s' (Some p) n (Ok m) (PassedOver w) given x e h t = absurd h
sent_on C s s' (Some p) n (Err w) (Sends v) given x e h t = absurd h
sent_on C s s' (Some p) n (Err w) (PassedOver z) given x e h t =
    subst (λ ts. IfOk x (λ all. all ≡ true → Tells C s ts s')) (ap texts_of e) t

-- one message more
pub tell_more : {S : Type 0} (C : S → Option (List ℕ)) (s mid last : Socket S) (xs : List Sent) (i : ℕ)
    (x : Sent) → i < length xs → x ≡ get_or xs i x
    → Writes C s mid (write_step s.conn (text (text_of x.message))) → mid.output ≡ []
    → Tells C mid (texts_of (drop (i + 1) xs)) last → Tells C s (texts_of (drop i xs)) last
tell_more C s mid last xs i x lt at w e h =
    subst (λ ys. Tells C s (texts_of ys) last)
    (ap (λ y. y ∷ drop (i + 1) xs) at ∙ sym (drop_more xs i x lt)) (mid, w, e, h)

-- none is left
pub told_all : {S : Type 0} (C : S → Option (List ℕ)) (s : Socket S) (xs : List Sent) (i : ℕ)
    → length xs ≤ i → Tells C s (texts_of (drop i xs)) s
told_all C s xs i le = subst (λ ys. Tells C s (texts_of ys) s) (sym (drop_all i xs le)) refl
