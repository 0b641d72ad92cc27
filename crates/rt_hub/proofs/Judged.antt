-- Which requests are accepted.
use Rattle.std.proofs.Common.{◌≡◌, ℕ, ◌-◌, Bool, true, false, List, [], ◌∷◌, ◌++◌, length, refl, ap, ◌∙◌}
use Rattle.std.proofs.Common.{Option, Some, None, codes, arith}
use Rattle.std.specs.Prelude.{if◌then◌else◌}
use Rattle.std.specs.List.{slice_get}
use Rattle.std.specs.Option.{option_map_or}
use Rattle.std.proofs.lemmas.List.{length-append}
use Rattle.rt_wire.specs.declared.client.ClientMessage.{ClientMessage}
use Rattle.rt_wire.specs.declared.client.ClientMessage.TheVariants.{Hello, Listen as ListenTo, Unlisten, Ask}
use Rattle.rt_wire.specs.declared.request.Asked.{Asked}
use Rattle.rt_wire.specs.declared.request.Asked.TheVariants.{Now, AtDisconnect}
use Rattle.rt_wire.specs.declared.request.Ending.TheVariants.{Run, Cancel}
use Rattle.rt_wire.specs.declared.server.ServerMessage.{ServerMessage}
use Rattle.rt_wire.specs.declared.server.ServerMessage.TheVariants as Says
use Rattle.rt_peer.specs.declared.pushes.Sent.{Sent}
use Rattle.rt_peer.specs.Peers.{Peer, is_denied, is_known}
use Rattle.rt_peer.specs.Pushes.{bundled, pushes, written}
use Rattle.rt_peer.specs.Calls.{Outcome, answered, asked, deferred, dropped, entries_of, one, refusal}
use Rattle.rt_peer.specs.Calls.{unless_refused, wrote}
use Rattle.rt_peer.specs.Runs.{Message, outcome}
use Rattle.rt_hub.specs.Bounded.{bar_of, said_by, unless_barred}
use Rattle.rt_hub.specs.declared.door.Bar.{Bar}
use Rattle.rt_hub.specs.declared.door.Bar.TheVariants.{TooMany, TooLong, Unsendable}
use Rattle.rt_hub.specs.declared.refusal.Verdict.TheVariants.{Accepted, Refused}
use Rattle.rt_hub.specs.declared.refusal.When.{When}
use Rattle.rt_hub.specs.declared.refusal.When.TheVariants as At
use Rattle.rt_hub.specs.Verdicts.{is_ok, says_ok, verdict_of, verdict_when, when_asked}
use Rattle.rt_hub.specs.laws.Verdicts.{RefusedChangesNothing, RequestsAreJudged, judged, judged_barred, judged_unless}
use Rattle.rt_hub.specs.laws.Verdicts.{unless_why}

-- ---- the last one

behind_all : {X : Type 0} (xs : List X) (x : X) → slice_get (xs ++ x ∷ []) (length xs) ≡ Some x
behind_all [] x = refl
behind_all (y ∷ ys) x = behind_all ys x

last_is : {X : Type 0} (xs : List X) (x : X) → slice_get (xs ++ x ∷ []) (length (xs ++ x ∷ []) - 1) ≡ Some x
last_is xs x =
    let place : length (xs ++ x ∷ []) - 1 ≡ length xs = omega (arith, length-append xs (x ∷ [])) in
    ap (slice_get (xs ++ x ∷ [])) place ∙ behind_all xs x

last_says : (sent : List Sent) (n : ℕ) (m : ServerMessage) → says_ok (sent ++ one n m) ≡ is_ok m
last_says sent n m =
    ap (λ o. option_map_or (λ (s : Sent). is_ok s.message) o false)
    (last_is sent (record { to = n; message = m }))

-- ---- requests

unless : (when : When) (o : Option (List ℕ)) (p : Peer) (n id : ℕ) (out : Outcome) → says_ok out.1 ≡ true
    → verdict_when (Some when) (unless_refused o p n id out).1 ≡ unless_why when o
unless when None p n id out h = ap (λ b. if b then Accepted when else Refused) h
unless when (Some why) p n id out h = refl

asks : (p : Peer) (n id : ℕ) (a : Asked) → verdict_of (Ask id a) (asked p n id a).1 ≡ judged p (Ask id a)
asks p n id (Now action) =
    unless At.Now (refusal p.denied (entries_of action)) p n id (wrote p n id (entries_of action))
    (last_says
    (bundled p.newer
    (pushes p.tree (written p.tree (entries_of action)) (entries_of action) p.listens))
    n (Says.Accepted id))
asks p n id (AtDisconnect (Run action)) =
    unless At.AtEnd (refusal p.denied (entries_of action)) p n id (deferred p n id (entries_of action)) refl
asks p n id (AtDisconnect (Cancel path)) =
    elim (is_denied p.denied path) as (λ b. (let o : Outcome = if b
    then (p, one n (Says.Refused id (codes "denied")))
    else (dropped p n path, one n (Says.Accepted id)) in verdict_when (Some At.AtEnd) o.1)
    ≡ (if b then Refused else Accepted At.AtEnd)) [ true ↦ refl | false ↦ refl ]

answers : (p : Peer) (n : ℕ) (message : ClientMessage)
    → verdict_of message (answered p n message).1 ≡ judged p message
answers p n (Hello version) = refl
answers p n (ListenTo tag q) = refl
answers p n (Unlisten tag) = refl
answers p n (Ask id a) = asks p n id a

known_judged : (p : Peer) (n : ℕ) (message : ClientMessage) → is_known p.connections n ≡ true
    → verdict_of message (outcome p (Message n message)).1 ≡ judged p message
known_judged p n message known =
    ap (λ (t : Bool). let o : Outcome = if t then answered p n message else (p, []) in verdict_of message o.1) known
    ∙ answers p n message

-- what the hub answers itself accepts nothing
none_accepted : (when : When) (n : ℕ) (bar : Bar) → verdict_when (Some when) (one n (said_by bar)) ≡ Refused
none_accepted when n (TooMany id) = refl
none_accepted when n (TooLong id) = refl
none_accepted when n (Unsendable tag) = refl

barred : (n : ℕ) (message : ClientMessage) (bar : Bar) → verdict_of message (one n (said_by bar))
    ≡ judged_barred message
barred n (Hello version) bar = refl
barred n (ListenTo tag q) bar = refl
barred n (Unlisten tag) bar = refl
barred n (Ask id asked) bar = none_accepted (when_asked asked) n bar

pub requests_judged : RequestsAreJudged
requests_judged p n message known =
    elim (bar_of p n message) as (λ b.
    verdict_of message (unless_barred b p n (outcome p (Message n message))).1 ≡ judged_unless b p message) [
      | None ↦ known_judged p n message known
      | Some bar ↦ barred n message bar
    ]

-- ---- what is refused

unless_same : (when : When) (o : Option (List ℕ)) (p : Peer) (n id : ℕ) (out : Outcome)
    → unless_why when o ≡ Refused → (unless_refused o p n id out).0 ≡ p
unless_same when None p n id out h = cc
unless_same when (Some why) p n id out h = refl

asks_same : (p : Peer) (n id : ℕ) (a : Asked) → judged p (Ask id a) ≡ Refused → (asked p n id a).0 ≡ p
asks_same p n id (Now action) h =
    unless_same At.Now (refusal p.denied (entries_of action)) p n id (wrote p n id (entries_of action)) h
asks_same p n id (AtDisconnect (Run action)) h =
    unless_same At.AtEnd (refusal p.denied (entries_of action)) p n id (deferred p n id (entries_of action)) h
asks_same p n id (AtDisconnect (Cancel path)) h =
    elim (is_denied p.denied path) as (λ b. (if b then Refused else Accepted At.AtEnd) ≡ Refused
    → (let o : Outcome = if b then (p, one n (Says.Refused id (codes "denied")))
    else (dropped p n path, one n (Says.Accepted id)) in o.0) ≡ p)
    [ true ↦ λ e. refl | false ↦ λ e. cc ] h

answers_same : (p : Peer) (n : ℕ) (message : ClientMessage) → judged p message ≡ Refused
    → (answered p n message).0 ≡ p
answers_same p n (Hello version) h = cc
answers_same p n (ListenTo tag q) h = cc
answers_same p n (Unlisten tag) h = cc
answers_same p n (Ask id a) h = asks_same p n id a h

known_same : (p : Peer) (n : ℕ) (message : ClientMessage) → judged p message ≡ Refused
    → (outcome p (Message n message)).0 ≡ p
known_same p n message h =
    elim (is_known p.connections n) as (λ t. (let o : Outcome = if t then answered p n message
    else (p, []) in o.0) ≡ p) [ true ↦ answers_same p n message h | false ↦ refl ]

pub refused_same : RefusedChangesNothing
refused_same p n message h =
    elim (bar_of p n message) as (λ b. judged_unless b p message ≡ Refused
    → (unless_barred b p n (outcome p (Message n message))).0 ≡ p) [
      | None ↦ λ e. known_same p n message e
      | Some bar ↦ λ e. refl
    ] h

-- both laws
pub ruleset laws = (requests_judged, refused_same)
