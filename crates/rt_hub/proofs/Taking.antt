-- What a text that is taken leaves, and whom that is noted for.
use Rattle.std.proofs.Common.{◌≡◌, ℕ, Bool, true, false, List, [], ◌∷◌, ◌++◌, Option, Some, None, Ok, Err, Result, refl, sym, ap}
use Rattle.std.proofs.Common.{subst, ◌∙◌, append-nil}
use Rattle.std.specs.Prelude.{IfSome, OnOk}
use Rattle.rt_wire.specs.declared.client.ClientMessage.{ClientMessage}
use Rattle.rt_wire.specs.declared.error.WireError.{WireError}
use Rattle.rt_peer.specs.Peers.{Peer}
use Rattle.rt_peer.specs.Runs.{Message}
use Rattle.rt_hub.specs.Bounded.{bounded, sent_bounded}
use Rattle.rt_hub.specs.Hubs.{Hub, IsMade, IsTaken, TakesText, receivers, refused_as}
use Rattle.rt_hub.specs.declared.hub.Taken.{Taken}
use Rattle.rt_hub.specs.declared.hub.Taken.TheVariants.{Message as TookMessage, PassedOver}
use Rattle.rt_peer.specs.declared.error.PeerError.{PeerError}
use Rattle.rt_hub.specs.Refusing.{listed, refusal_of, text_answers}
use Rattle.rt_hub.specs.Turns.{AreMade, Request, accepted_as, text_accepted, text_call}

one_made : (n : ℕ) (m : ClientMessage) (a b : Option Hub) → IsMade a (Message n m) b
    → AreMade a (Message n m ∷ []) b
one_made n m None b h = absurd h
one_made n m (Some a) None h = absurd h
one_made n m (Some a) (Some b) h = (b, h, refl)

none_made : (a : Option Hub) → AreMade a [] a
none_made None = refl
none_made (Some a) = refl

pub took_made : (n : ℕ) (r : Result ClientMessage WireError) (a b : Option Hub) → TakesText a n r b
    → AreMade a (text_call n r) b
took_made n (Ok m) a b h = one_made n m a b h
took_made n (Err w) a b h = subst (λ x. AreMade a [] x) (sym h) (none_made a)

-- ---- to whom something is sent, and what is accepted

abbrev pub noted : Taken → List ℕ
noted (TookMessage verdict told) = told.items
noted (PassedOver e) = []

abbrev pub accepted : List ℕ → Taken → List Request
accepted text (TookMessage verdict told) = accepted_as verdict text
accepted text (PassedOver e) = []

is_noted : (n : ℕ) (r : Result ClientMessage WireError) (p : Peer) (taken : Taken) → IsTaken p n r taken
    → noted taken ≡ receivers (sent_bounded p (text_call n r))
is_noted n (Ok m) p (TookMessage verdict told) h =
    h.1 ∙ ap receivers (sym (append-nil (bounded p (Message n m)).1))
is_noted n (Ok m) p (PassedOver e) h = absurd h
is_noted n (Err w) p (TookMessage verdict told) h = absurd h
is_noted n (Err w) p (PassedOver e) h = refl

is_accepted : (n : ℕ) (text : List ℕ) (r : Result ClientMessage WireError) (p : Peer) (taken : Taken)
    → IsTaken p n r taken → accepted text taken ≡ text_accepted n p text r
is_accepted n text (Ok m) p (TookMessage verdict told) h = ap (λ v. accepted_as v text) h.0
is_accepted n text (Ok m) p (PassedOver e) h = absurd h
is_accepted n text (Err w) p (TookMessage verdict told) h = absurd h
is_accepted n text (Err w) p (PassedOver e) h = refl

-- it comes behind what was noted before
pub told_of : (n : ℕ) (r : Result ClientMessage WireError) (a : Option Hub) (taken : Taken) (t u : List ℕ)
    → IfSome a (λ h. IsTaken h.peer n r taken) → u ≡ t ++ noted taken
    → IfSome a (λ h. u ≡ t ++ receivers (sent_bounded h.peer (text_call n r)))
told_of n r None taken t u h e = tt
told_of n r (Some a) taken t u h e = e ∙ ap (λ l. t ++ l) (is_noted n r a.peer taken h)

pub accepted_of : (n : ℕ) (text : List ℕ) (r : Result ClientMessage WireError) (a : Option Hub) (taken : Taken)
    (t u : List Request) → IfSome a (λ h. IsTaken h.peer n r taken) → u ≡ t ++ accepted text taken
    → IfSome a (λ h. u ≡ t ++ text_accepted n h.peer text r)
accepted_of n text r None taken t u h e = tt
accepted_of n text r (Some a) taken t u h e = e ∙ ap (λ l. t ++ l) (is_accepted n text r a.peer taken h)

-- nothing more
pub none_behind : {X : Type 0} (t u more : List X) → u ≡ t → more ≡ [] → u ≡ t ++ more
none_behind t u more e none = e ∙ sym (ap (λ l. t ++ l) none ∙ append-nil t)

pub on_ok : {X Y : Type 0} {A B : Type 0} (r : Result X Y) → (A → B) → OnOk r A → OnOk r B
on_ok (Ok x) f h = f h
on_ok (Err e) f h = h

-- ---- what a text is answered

abbrev pub is_passed : Taken → Bool
is_passed (TookMessage verdict told) = false
is_passed (PassedOver e) = true

-- a message is answered by the peer alone
pub message_answers : (n : ℕ) (text : List ℕ) (r : Result ClientMessage WireError) (a b : Option Hub)
    (taken : Taken) (res : Result Taken PeerError) → is_passed taken ≡ false → res ≡ Ok taken
    → IfSome (refused_as a n) (λ e. (res ≡ Err e) × (b ≡ a)) → IfSome a (λ h. IsTaken h.peer n r taken)
    → text_answers text r ≡ []
message_answers n text (Ok m) a b taken res p ok refused h = refl
message_answers n text (Err w) None b taken res p ok refused h = cc
message_answers n text (Err w) (Some a) b (TookMessage verdict told) res p ok refused h = absurd h
message_answers n text (Err w) (Some a) b (PassedOver e) res p ok refused h = cc

-- what is passed over has its refusal
pub passed_answers : (n : ℕ) (text : List ℕ) (r : Result ClientMessage WireError) (a b : Option Hub) (taken : Taken)
    → is_passed taken ≡ true → TakesText a n r b → IfSome a (λ h. IsTaken h.peer n r taken)
    → text_answers text r ≡ listed (refusal_of text)
passed_answers n text (Err w) a b taken p t h = refl
passed_answers n text (Ok m) None b taken p t h = absurd t
passed_answers n text (Ok m) (Some a) b (TookMessage verdict told) p t h = cc
passed_answers n text (Ok m) (Some a) b (PassedOver e) p t h = absurd h
